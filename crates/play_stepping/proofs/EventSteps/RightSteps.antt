-- An event of steps of a call comes to what is right, where it does so in its case, and makes as many steps as it may.
use Rattle.std.specs.Prelude.{◌≡◌, ◌⊎◌, ◌&&◌, ℕ, Bool, true, false, not, List, Option, Some, None}
use Rattle.std.specs.List.{list_any}
use Rattle.std.proofs.Common.{refl, sym, ap, subst, ◌∙◌, arith, inl, inr}
use Rattle.seize_words.specs.declared.fault.Fault.{Fault}
use Rattle.seize_words.specs.declared.fault.Fault.TheVariants.{Busy, Capacity, Memory, RemoveNothing}
use Rattle.run_schedules.specs.Runs.Stopped.{most_steps}
use Rattle.run_schedules.specs.declared.call.Call.{Call}
use Rattle.run_schedules.specs.declared.call.Call.TheVariants.{On, Reserve, Clear, Retain, Len, Walk}
use Rattle.run_schedules.specs.declared.effect.Effect.{Effect}
use Rattle.run_schedules.specs.declared.event.Event.TheVariants.{Go, OneCall, Step}
use Rattle.run_schedules.specs.declared.outcome.Outcome.{Outcome}
use Rattle.run_schedules.specs.declared.outcome.Outcome.TheVariants.{Answered, Asks, Goes, Ready, Refused, Waits}
use Rattle.run_schedules.specs.Schedules.Coming.{MayCome, Progresses, is_compute}
use Rattle.run_schedules.specs.Schedules.Entry.{IfCall}
use Rattle.run_schedules.specs.Schedules.Growing.{only_looks}
use Rattle.run_schedules.specs.Schedules.Moment.{CallState, Going, Asking, Told, IsReady, UnderWay as CallThere, Moment}
use Rattle.run_schedules.specs.Schedules.Steps.{MakesSteps}
use Rattle.run_schedules.specs.Schedules.Terms.{Terms}
use Rattle.run_schedules.specs.Schedules.Waiting.{WaitsRight, may_wait_for}
use Rattle.play_scheduler.specs.Quiet.{BusyIsSilent}
use Rattle.run_executor.specs.Named.Seen.{far_of}
use Rattle.play_stepping.specs.EventSteps.Stepping.{HasOutcomeOfKind, IsInCase, TakesUpTo}
use Rattle.run_executor.specs.declared.caller.Stands.TheVariants as far

module _ {K V : Type 0} where
  -- a call on one key is refused as out of turn never, and for removing nothing only where it computes
  faults_of : (call : Call K V) (fault : Fault) → HasOutcomeOfKind {K = K} {V = V} call (Refused fault) → (fault ≡ Memory) ⊎ (fault ≡ Capacity) ⊎ ((fault ≡ RemoveNothing) × (is_compute call ≡ true))
  faults_of (On one) fault comes = comes.1
  faults_of (Reserve more) fault (inl memory) = inl memory
  faults_of (Reserve more) fault (inr capacity) = inr (inl capacity)
  faults_of Clear fault (inl memory) = inl memory
  faults_of Clear fault (inr capacity) = inr (inl capacity)
  faults_of Retain fault (inl memory) = inl memory
  faults_of Retain fault (inr capacity) = inr (inl capacity)
  faults_of Len fault comes = absurd comes
  faults_of Walk fault (inl memory) = inl memory
  faults_of Walk fault (inr capacity) = inr (inl capacity)

  other_fault : (call : Call K V) (fault : Fault) → HasOutcomeOfKind {K = K} {V = V} call (Refused fault) → (fault ≡ Memory → ⊥) → (fault ≡ Capacity → ⊥) → (fault ≡ RemoveNothing) × (is_compute call ≡ true)
  other_fault call fault comes no_memory no_capacity = by (faults_of call fault comes)
    where
      by : (fault ≡ Memory) ⊎ (fault ≡ Capacity) ⊎ ((fault ≡ RemoveNothing) × (is_compute call ≡ true)) → (fault ≡ RemoveNothing) × (is_compute call ≡ true)
      by (inl memory) = absurd (no_memory memory)
      by (inr (inl capacity)) = absurd (no_capacity capacity)
      by (inr (inr it)) = it

  -- one that is refused does more than look
  works_so : (call : Call K V) (fault : Fault) → HasOutcomeOfKind {K = K} {V = V} call (Refused fault) → only_looks call ≡ false
  works_so (On one) fault comes = comes.0
  works_so (Reserve more) fault comes = refl
  works_so Clear fault comes = refl
  works_so Retain fault comes = refl
  works_so Len fault comes = absurd comes
  works_so Walk fault comes = refl

  -- none is refused as out of turn
  pub not_busy : (call : Call K V) (o : Outcome V) → HasOutcomeOfKind call o → o ≡ Refused Busy → ⊥
  not_busy call o comes is = let it = (other_fault call Busy (subst (λ (x : Outcome V). HasOutcomeOfKind call x) is comes) (λ e. cc e) (λ e. cc e)).0 in cc it

  module _ (terms : Terms) (c : CallThere K V) (moments : List (Moment K V)) (now : Moment K V) where
    pub may_come : (o : Outcome V) → HasOutcomeOfKind c.call o → (o ≡ Refused Memory → c.is_short ≡ true) → IsInCase terms c moments now o → MayCome terms c moments now o
    may_come Goes comes short within = tt
    may_come (Asks question) comes short within = comes
    may_come Waits comes short within = tt
    may_come Ready comes short within = comes
    may_come (Answered a) comes short within = comes
    may_come (Refused Memory) comes short within = short refl
    may_come (Refused Capacity) comes short within = (works_so c.call Capacity comes, within)
    may_come (Refused RemoveNothing) comes short within = (other_fault c.call RemoveNothing comes (λ e. cc e) (λ e. cc e)).1
    may_come (Refused fault) comes short within = absurd (let it = (other_fault c.call fault comes (λ e. cc e) (λ e. cc e)).0 in cc it)
    may_come _ comes short within = absurd comes

    -- so it progresses, as far as it was
    pub progresses : (stand : CallState) → far_of stand ≡ far.Goes → (o : Outcome V) → MayCome terms c moments now o → Progresses terms stand c moments now o
    progresses Going is o may = may
    progresses Told is o may = may
    progresses (Asking question) is o may = absurd (cc is)
    progresses IsReady is o may = absurd (cc is)

  -- where it waits, it may
  module _ (same : K → K → Bool) (now : Moment K V) where
    pub waits_right : (c : CallThere K V) (o : Outcome V) → (o ≡ Waits → only_looks c.call ≡ false) → (o ≡ Waits → list_any (may_wait_for same c now) now.calls ≡ true) → WaitsRight same o c now
    waits_right c Waits works known = ap (λ (b : Bool). not b && list_any (may_wait_for same c now) now.calls) (works refl) ∙ known refl
    waits_right c _ works known = tt

    pub waits_never : (o : Outcome V) → (o ≡ Waits → ⊥) → (there : Option (CallThere K V)) → IfCall (λ c. WaitsRight same o c now) there
    waits_never o never None = tt
    waits_never o never (Some c) = waits_right c o (λ e. absurd (never e)) (λ e. absurd (never e))

  pub makes_whole : (guard map : List ℕ) (call : Call K V) (stand : CallState) (steps : ℕ) (o : Outcome V) → TakesUpTo most_steps steps o → (o ≡ Refused Busy → ⊥) → MakesSteps (OneCall guard map call) stand steps o
  makes_whole guard map call stand steps (Refused Busy) takes never = absurd (never refl)
  makes_whole guard map call stand steps Goes takes never = (takes.0, takes.2 refl)
  makes_whole guard map call stand steps o takes never = (takes.0, takes.1)

-- how many steps: one,
module _ (K V : Type 0) (own : List ℕ) (refuse : Bool) where
  pub makes_one : (stand : CallState) → far_of stand ≡ far.Goes → (steps : ℕ) → steps ≡ 1 → (o : Outcome V) → (o ≡ Refused Busy → ⊥) → MakesSteps {K = K} {V = V} (Step own refuse) stand steps o
  makes_one stand is steps one o never = subst (λ (n : ℕ). MakesSteps {K = K} {V = V} (Step own refuse) stand n o) (sym one) (of stand is o never)
    where
      of : (x : CallState) → far_of x ≡ far.Goes → (y : Outcome V) → (y ≡ Refused Busy → ⊥) → MakesSteps {K = K} {V = V} (Step own refuse) x 1 y
      of x far_is (Refused Busy) fails = absurd (fails refl)
      of (Asking question) far_is y fails = absurd (cc far_is)
      of IsReady far_is y fails = absurd (cc far_is)
      of Told far_is y fails = omega arith
      of Going far_is (Asks question) fails = omega arith
      of Going far_is Waits fails = omega arith
      of Going far_is Ready fails = omega arith
      of Going far_is y fails = refl

  -- or all that it may, one at least
  pub makes_many : (stand : CallState) → far_of stand ≡ far.Goes → (steps : ℕ) (o : Outcome V) → TakesUpTo most_steps steps o → (o ≡ Refused Busy → ⊥) → MakesSteps {K = K} {V = V} (Go own refuse) stand steps o
  makes_many stand is steps (Refused Busy) takes never = absurd (never refl)
  makes_many (Asking question) is steps o takes never = absurd (cc is)
  makes_many IsReady is steps o takes never = absurd (cc is)
  makes_many Going is steps Goes takes never = (takes.0, takes.2 refl)
  makes_many Told is steps Goes takes never = takes.2 refl
  makes_many Going is steps (Asks question) takes never = (tt, takes.1)
  makes_many Going is steps Waits takes never = (tt, takes.1)
  makes_many Going is steps Ready takes never = (tt, takes.1)
  makes_many Going is steps o takes never = (takes.0, takes.1)
  makes_many Told is steps o takes never = takes.1

-- what is never refused as busy
pub never_quiet : {V : Type 0} (o : Outcome V) (effects : List Effect) → (o ≡ Refused Busy → ⊥) → BusyIsSilent o effects
never_quiet (Refused Busy) effects never = absurd (never refl)
never_quiet _ effects never = tt
