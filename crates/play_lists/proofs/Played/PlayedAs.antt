-- What an act comes to that could be played: by what was there, and by what its step came to.
use Rattle.std.specs.Prelude.{Option, Some, None, option_map}
use Rattle.std.proofs.Common.{◌≡◌, ℕ, Bool, refl, sym}
use Rattle.seize.specs.ReclaimAll.{reclaim_all_plan}
use Rattle.seize_acts.specs.Acts.Answers.{Grant, stepped, then_on}
use Rattle.seize_acts.proofs.Acts.Answers.{some}
use Rattle.map_tables.specs.Nodes.{deferred_word, was_left}
use Rattle.map_tables.specs.declared.setting.Setting.{Setting}
use Rattle.run_kept.specs.Given.ResizeNewMap.{new_map_plan}
use Rattle.run_schedules.specs.Given.RawEndMap.{end_map_plan}
use Rattle.run_finds.specs.Given.RawMachine.{machine_plan}
use Rattle.many_acts.specs.Given.ScenesScene.{row_of}
use Rattle.many_acts.specs.Acts.Acts.{Act, BeginsCall, StepsCall, TellsCall, AsksCall, StopsCall, BeginsMaking, StepsMaking, BeginsEnding, StepsEnding, BeginsRow, StepsRow}
use Rattle.many_acts.specs.Acts.AsSteps.{changed_of, row_changed}
use Rattle.many_acts.specs.Acts.Doings.{StepsReclaiming}
use Rattle.play_lists.specs.Played.Play.{State, all_stepped, call_asked, call_begun, call_for, call_stepped, call_stopped, call_replied, ending_begun, ending_stepped, making_begun, making_stepped, play, play_act, row_begun, row_stepped, slot_call_of, slot_row_steps, step_call}
use Rattle.run_finds.proofs.Given.General.{same_some}

module _ {K V S : Type 0} (same : K → K → Bool) (hash : S → K → ℕ) (batch_size roots : ℕ) (aborts : ℕ → V) (x y : State K V S) where
  -- something was there, and by it the state is this then
  abbrev pub By : {A : Type 0} → Option A → (A → State K V S) → Type 0
  By {A} there to = (a : A) × (there ≡ Some a) × (y ≡ to a)

  -- something was there, and its step came to something
  abbrev pub BySteps : {A E : Type 0} → Option A → (A → Option E) → (A → E → State K V S) → Type 0
  BySteps {A} {E} there steps to = (a : A) × (there ≡ Some a) × (e : E) × (steps a ≡ Some e) × (y ≡ to a e)

  abbrev pub PlayedAs : Act K V S → Type 0
  PlayedAs (BeginsCall i m wanted) = By (x.now.maps m) (call_begun i m hash (call_for wanted) x)
  PlayedAs (StepsCall i m g) =
      (at : Setting × S) × (x.now.maps m ≡ Some at)
      × BySteps (x.now.calls m i) (λ c. stepped x.now.memory g (machine_plan same same (hash at.1) c.machine))
      (λ c. call_stepped i m c (changed_of x.now.memory g (machine_plan same same (hash at.1) c.machine)) x)
  PlayedAs (TellsCall i m reply) = By (x.now.calls m i) (call_replied i m aborts reply x)
  PlayedAs (AsksCall i m) = By (x.now.calls m i) (call_asked i m x)
  PlayedAs (StopsCall i m) = By (x.now.calls m i) (call_stopped i m x)
  PlayedAs (BeginsMaking i map hasher given places) = y ≡ making_begun i roots map hasher given places x
  PlayedAs (StepsMaking i g) =
      BySteps (x.now.makers i) (λ b. stepped x.now.memory g (new_map_plan {K = K} {V = V} b.machine))
      (λ b. making_stepped i b (changed_of x.now.memory g (new_map_plan {K = K} {V = V} b.machine)) x)
  PlayedAs (BeginsEnding i m) = By (x.now.maps m) (ending_begun i m x)
  PlayedAs (StepsEnding i g) =
      BySteps (x.now.enders i) (λ f. stepped x.now.memory g (end_map_plan {K = K} {V = V} f.machine))
      (λ f. ending_stepped i f (changed_of x.now.memory g (end_map_plan {K = K} {V = V} f.machine)) x)
  PlayedAs (BeginsRow i request) = By (slot_call_of request) (row_begun batch_size i x)
  PlayedAs (StepsRow i g) =
      BySteps (x.now.rows i) (λ row. slot_row_steps row g x.now.memory) (λ row. row_stepped i row (row_changed (row_of row) g x.now.memory) x)

  -- who reclaims all takes a step
  abbrev pub ReclaimedAs : Grant → Type 0
  ReclaimedAs g =
      BySteps x.now.all (λ c. stepped x.now.memory g (reclaim_all_plan deferred_word was_left c)) (λ c. all_stepped (changed_of x.now.memory g (reclaim_all_plan deferred_word was_left c)) x)

  by : {A : Type 0} (there : Option A) (to : A → State K V S) → option_map to there ≡ Some y → By there to
  by None to e = absurd (cc e)
  by (Some a) to e = (a, refl, sym (same_some (to a) y e))

  by_steps : {A E : Type 0} (there : Option A) (steps : A → Option E) (to : A → E → State K V S) → then_on there (λ a. option_map (to a) (steps a)) ≡ Some y → BySteps there steps to
  by_steps there steps to e =
      let at = some there (λ a. option_map (to a) (steps a)) y e in
      let came = by (steps at.0) (to at.0) at.2 in
      (at.0, at.1, came.0, came.1, came.2)

  pub played_as : (act : Act K V S) → play_act same hash batch_size roots aborts act x ≡ Some y → PlayedAs act
  played_as (BeginsCall i m wanted) e = by (x.now.maps m) (call_begun i m hash (call_for wanted) x) e
  played_as (StepsCall i m g) e =
      let at = some (x.now.maps m) (λ p. then_on (x.now.calls m i) (step_call same hash batch_size roots aborts i m g x p)) y e in (
        at.0,
        at.1,
        by_steps (x.now.calls m i) (λ c. stepped x.now.memory g (machine_plan same same (hash at.0.1) c.machine))
            (λ c. call_stepped i m c (changed_of x.now.memory g (machine_plan same same (hash at.0.1) c.machine)) x) at.2,
      )
  played_as (TellsCall i m reply) e = by (x.now.calls m i) (call_replied i m aborts reply x) e
  played_as (AsksCall i m) e = by (x.now.calls m i) (call_asked i m x) e
  played_as (StopsCall i m) e = by (x.now.calls m i) (call_stopped i m x) e
  played_as (BeginsMaking i map hasher given places) e = sym (same_some (making_begun i roots map hasher given places x) y e)
  played_as (StepsMaking i g) e =
      by_steps (x.now.makers i) (λ b. stepped x.now.memory g (new_map_plan {K = K} {V = V} b.machine))
      (λ b. making_stepped i b (changed_of x.now.memory g (new_map_plan {K = K} {V = V} b.machine)) x) e
  played_as (BeginsEnding i m) e = by (x.now.maps m) (ending_begun i m x) e
  played_as (StepsEnding i g) e =
      by_steps (x.now.enders i) (λ f. stepped x.now.memory g (end_map_plan {K = K} {V = V} f.machine))
      (λ f. ending_stepped i f (changed_of x.now.memory g (end_map_plan {K = K} {V = V} f.machine)) x) e
  played_as (BeginsRow i request) e = by (slot_call_of request) (row_begun batch_size i x) e
  played_as (StepsRow i g) e =
      by_steps (x.now.rows i) (λ row. slot_row_steps row g x.now.memory) (λ row. row_stepped i row (row_changed (row_of row) g x.now.memory) x) e

  pub reclaimed_as : (g : Grant) → play same hash batch_size roots aborts (StepsReclaiming g) x ≡ Some y → ReclaimedAs g
  reclaimed_as g e =
      by_steps x.now.all (λ c. stepped x.now.memory g (reclaim_all_plan deferred_word was_left c))
      (λ c. all_stepped (changed_of x.now.memory g (reclaim_all_plan deferred_word was_left c)) x) e
