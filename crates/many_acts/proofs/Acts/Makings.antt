-- A making or an end of a map that begins, or takes a step: all stand together then.
use Rattle.std.specs.Prelude.{◌≡◌, ℕ, Bool, [], ◌∷◌, ◌++◌, Some, None}
use Rattle.std.proofs.Common.{refl}
use Rattle.run_shows.specs.Given.SeizeWorld.{with_at, with_effect}
use Rattle.run_shows.specs.Given.SeizeLaw.{Ended}
use Rattle.run_shows.specs.Given.SeizeDeclared.advance.Advance.{Advance}
use Rattle.run_shows.specs.Given.SeizeDeclared.advance.Advance.TheVariants as progress
use Rattle.run_shows.specs.Given.SeizeDeclared.rows.settle.Settled.{Settled}
use Rattle.run_shows.specs.Given.SeizeDeclared.rows.settle.Settled.TheVariants as settled
use Rattle.seize_acts.specs.Acts.Answers.{Grant, then_on}
use Rattle.seize_acts.proofs.Acts.Answers.{some, was_stepped}
use Rattle.run_shows.specs.Given.SeizeWordsMem.{Mem}
use Rattle.run_shows.specs.Given.TablesDeclared.node.Node.{Node}
use Rattle.run_shows.specs.Given.TablesDeclared.setting.Setting.{Setting}
use Rattle.run_shows.specs.Given.ResizeNewMap.{new_map_plan}
use Rattle.run_shows.specs.Given.ResizeDeclared.new_map.NewMap.{NewMap}
use Rattle.run_shows.specs.Given.RawEndMap.{end_map_plan}
use Rattle.run_shows.specs.Given.RawDeclared.machines.end_map.EndMap.{EndMap}
use Rattle.owner_facts.specs.Given.PointsSteps.{AreLawful}
use Rattle.owner_facts.specs.Given.FinishesEndings.{Finishing, MakingStepsWithEndings, MakingOutcomeWithEndings, StepsOfEnding, FinishingOutcome, waiting_by}
use Rattle.owner_facts.specs.Given.FinishesMakings.{Beginning}
use Rattle.owner_facts.proofs.Given.FinishesAmong.Begins.{endings_begin}
use Rattle.owner_facts.proofs.Given.FinishesAmong.Makings.{makings_stand_among, makings_begin_among}
use Rattle.owner_facts.proofs.Given.FinishesAmong.Own.Steps.{endings_stand}
use Rattle.owner_facts.proofs.Given.FinishesBeside.Makings.Promised.{makings_begin}
use Rattle.run_shows.specs.Scenes.Making.{making_begun}
use Rattle.many_acts.specs.Acts.Acts.{Answer, Nothing, OfMaking, OfEnding, BeginsMaking, StepsMaking, BeginsEnding, StepsEnding}
use Rattle.many_acts.specs.Acts.Leads.{MayBe, AllStand, Led, MakingCame, EndingCame, making_steps, ending_steps}
use Rattle.many_acts.proofs.Acts.Tests.{some_is}
use Rattle.run_shows.proofs.Scenes.NoCall.{none_is}
use Rattle.run_shows.specs.Scenes.Ending.{ending_begun}
use Rattle.run_shows.specs.Scenes.Scene.{Scene}

module _ {K V S : Type 0} (same : K → K → Bool) (hash : S → K → ℕ) (batch_size roots : ℕ) (slot : ℕ → ℕ) (s : Scene K V) (all : AllStand same hash batch_size roots slot s) (i : ℕ) where
  abbrev Stands : Scene K V → Type 0
  Stands n = AllStand same hash batch_size roots slot n

  pub making_begins : (map : ℕ) (hasher : S) → AreLawful same (hash hasher) → (given : Setting) (places : ℕ)
      → MayBe same hash batch_size roots slot (BeginsMaking i map hasher given places) s
      → (n : Scene K V) × Led same hash batch_size roots slot (BeginsMaking i map hasher given places) s Nothing n × Stands n
  making_begins map hasher lawful given places (free, no_map, others, batches, mask, some, power, sized) =
      let b : Beginning K = making_begun (hash hasher) roots map given places in
      let no_call : (m : ℕ) → s.calls m i ≡ None = λ m. none_is (s.calls m i) (free.no_call m) in (
        record s { makers = with_at s.makers i (Some b) },
        (refl, refl),
        makings_begin_among {Q = K} V same same batch_size roots slot s.world s.maps s.calls s.makers s.enders all i (none_is (s.enders i) free.no_ending) b
            (makings_begin {Q = K} V same same batch_size roots slot s.world s.maps s.calls s.makers all.makings i (none_is (s.makers i) free.no_making) no_call
            map (none_is (s.maps map) no_map) others given (hash hasher) places lawful power batches mask some sized) refl,
      )

  -- by what a making tells
  module _ (b : Beginning K) (m2 : Mem (Node K V)) (machine : NewMap) where
    made : (told : Advance Setting) (did : MakingStepsWithEndings V same same batch_size roots slot s.world s.maps s.calls s.makers s.enders i b m2 (machine, told))
        → MakingOutcomeWithEndings V same same batch_size roots slot s.world s.maps s.calls s.makers s.enders i b did.step.w2 (machine, told)
        → (n : Scene K V) × MakingCame same hash batch_size roots slot s i b did.step.w2 machine n told × Stands n
    made progress.Goes did together = (record s { world = did.step.w2; makers = with_at s.makers i (Some (record b { machine = machine })) }, refl, together)
    made progress.Waits did never = absurd never
    made (progress.Done setting) did (standing, is_made, together) =
        (record s { world = did.step.w2; maps = with_at s.maps b.map (Some standing); makers = with_at s.makers i None }, (standing, is_made, refl), together)
    made (progress.Refused fault) did together = (record s { world = did.step.w2; makers = with_at s.makers i None }, refl, together)

  making_came : (g : Grant) (b : Beginning K) → s.makers i ≡ Some b → (m2 : Mem (Node K V)) (machine : NewMap) (told : Advance Setting)
      → making_steps same hash batch_size roots slot s g b ≡ Some (m2, (machine, told))
      → (answer : Answer K V) × (n : Scene K V) × Led same hash batch_size roots slot (StepsMaking i g) s answer n × Stands n
  making_came g b makes m2 machine told computed =
      let did : MakingStepsWithEndings V same same batch_size roots slot s.world s.maps s.calls s.makers s.enders i b m2 (machine, told) =
      (makings_stand_among {Q = K} V same same batch_size roots slot s.world s.maps s.calls s.makers s.enders all i b makes).1 m2 (machine, told)
      (was_stepped s.world.memory g (new_map_plan {K = K} {V = V} b.machine) (m2, (machine, told)) computed) in
      let to = made b m2 machine told did did.told in
      (OfMaking told, to.0, (b, makes, m2, machine, told, computed, refl, did, to.1), to.2)

  pub making_goes_on : (g : Grant) → MayBe same hash batch_size roots slot (StepsMaking i g) s
      → (answer : Answer K V) × (n : Scene K V) × Led same hash batch_size roots slot (StepsMaking i g) s answer n × Stands n
  making_goes_on g may =
      let found = some_is (then_on (s.makers i) (making_steps same hash batch_size roots slot s g)) may in
      let it = some (s.makers i) (making_steps same hash batch_size roots slot s g) found.0 found.1 in
      making_came g it.0 it.1 found.0.0 found.0.1.0 found.0.1.1 it.2

  pub ending_begins : (m : ℕ) → MayBe same hash batch_size roots slot (BeginsEnding i m) s
      → (n : Scene K V) × Led same hash batch_size roots slot (BeginsEnding i m) s Nothing n × Stands n
  ending_begins m (free, there, no_calls) =
      let it = some_is (s.maps m) there in (
        ending_begun m i it.0 s,
        (it.0, it.1, refl, refl),
        (endings_begin {Q = K} V same same batch_size roots slot s.world s.maps s.calls s.makers s.enders all i (none_is (s.enders i) free.no_ending) (none_is (s.makers i) free.no_making)
            (λ n. none_is (s.calls n i) (free.no_call n)) m it.0 it.1 (λ j. none_is (s.calls m j) (no_calls j)) (with_effect s.world (Ended it.0.setting.counter)) refl).0,
      )

  -- by what an end tells
  module _ (f : Finishing K V) (m2 : Mem (Node K V)) (machine : EndMap) where
    ended : (told : Settled (Node K V)) (did : StepsOfEnding V same same batch_size roots slot s.world s.maps s.calls s.makers s.enders i f m2 (machine, told))
        → FinishingOutcome V same same batch_size roots slot s.world s.maps s.calls s.makers s.enders i f did.w2 did.deed (machine, told)
        → (n : Scene K V) × EndingCame same hash batch_size roots slot s i f did.w2 did.deed machine n told × Stands n
    ended settled.Goes did (none, together) =
        (record s { world = did.w2; enders = with_at s.enders i (Some (record f { machine = machine; waits = f.waits ++ waiting_by did.deed })) }, (none, refl), together)
    ended settled.Waits did never = absurd never
    ended (settled.Gave value) did (b, was, taken, together) = (
      record s { world = did.w2; enders = with_at s.enders i (Some (record f { machine = machine; back = f.back ++ b ∷ []; waits = f.waits ++ waiting_by did.deed })) },
      (b, was, taken, refl),
      together,
    )
    ended settled.Done did (none, finished, together) = (record s { world = did.w2; enders = with_at s.enders i None }, (none, finished, refl), together)

  ending_came : (g : Grant) (f : Finishing K V) → s.enders i ≡ Some f → (m2 : Mem (Node K V)) (machine : EndMap) (told : Settled (Node K V))
      → ending_steps same hash batch_size roots slot s g f ≡ Some (m2, (machine, told))
      → (answer : Answer K V) × (n : Scene K V) × Led same hash batch_size roots slot (StepsEnding i g) s answer n × Stands n
  ending_came g f ends m2 machine told computed =
      let did : StepsOfEnding V same same batch_size roots slot s.world s.maps s.calls s.makers s.enders i f m2 (machine, told) =
      (endings_stand {Q = K} V same same batch_size roots slot s.world s.maps s.calls s.makers s.enders all i f ends).1 m2 (machine, told)
      (was_stepped s.world.memory g (end_map_plan {K = K} {V = V} f.machine) (m2, (machine, told)) computed) in
      let to = ended f m2 machine told did did.told in
      (OfEnding told, to.0, (f, ends, m2, machine, told, computed, refl, did, to.1), to.2)

  pub ending_goes_on : (g : Grant) → MayBe same hash batch_size roots slot (StepsEnding i g) s
      → (answer : Answer K V) × (n : Scene K V) × Led same hash batch_size roots slot (StepsEnding i g) s answer n × Stands n
  ending_goes_on g may =
      let found = some_is (then_on (s.enders i) (ending_steps same hash batch_size roots slot s g)) may in
      let it = some (s.enders i) (ending_steps same hash batch_size roots slot s g) found.0 found.1 in
      ending_came g it.0 it.1 found.0.0 found.0.1.0 found.0.1.1 it.2
