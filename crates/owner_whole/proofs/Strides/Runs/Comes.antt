-- What a run of a machine comes to, where each step of one that is under way leaves it under way, or comes to something.
use Rattle.std.specs.Prelude.{Result, Ok, Err}
use Rattle.std.proofs.Common.{sym, subst}
use Rattle.seize_words.specs.OneMemory.Mem.{Mem, Took, value_at}
use Rattle.seize_words.specs.OneMemory.Plan.{Plan, Steps, plan_as}
use Rattle.seize_words.specs.declared.fault.Fault.{Fault}
use Rattle.seize.specs.declared.advance.Advance.{Advance}
use Rattle.seize.specs.declared.advance.Advance.TheVariants as progress
use Rattle.map_measures.proofs.Given.SeizeRuleRows.Leaving.{steps_back}
use Rattle.owner_whole.specs.Strides.Ending.{Continues, EndsWith, RunsTo, stops, goes}

-- by what is so of a machine that is under way, and of one that has come to this result
module _ {T X A : Type 0} (Under : X → Mem T → Type 0) (Comes : X → Mem T → Result A Fault → Type 0) where
  -- where a step leads, by what the machine tells
  abbrev pub NextOf : X → Mem T → Advance A → Type 0
  NextOf x m progress.Goes = Under x m
  NextOf x m progress.Waits = Under x m
  NextOf x m (progress.Done a) = Comes x m (Ok a)
  NextOf x m (progress.Refused fault) = Comes x m (Err fault)

  pub goes_on : (x : X) (m : Mem T) (told : Advance A) → Continues told → NextOf x m told → Under x m
  goes_on x m progress.Goes on next = next
  goes_on x m progress.Waits on next = next
  goes_on x m (progress.Done a) on next = absurd on
  goes_on x m (progress.Refused fault) on next = absurd on

  stopped : (x : X) (m : Mem T) (told : Advance A) (result : Result A Fault) → NextOf x m told → EndsWith told result → Comes x m result
  stopped x m (progress.Done a) (Ok e) next tells = subst (λ (z : A). Comes x m (Ok z)) (sym tells) next
  stopped x m (progress.Refused f) (Err g) next tells = subst (λ (z : Fault). Comes x m (Err z)) (sym tells) next
  stopped x m (progress.Refused f) (Ok e) next tells = absurd tells
  stopped x m (progress.Done a) (Err g) next tells = absurd tells
  stopped x m progress.Goes (Ok e) next tells = absurd tells
  stopped x m progress.Goes (Err g) next tells = absurd tells
  stopped x m progress.Waits (Ok e) next tells = absurd tells
  stopped x m progress.Waits (Err g) next tells = absurd tells

  -- a step of a machine that is another one turned, by the steps of that
  pub next_turned : {E : Type 0} (f : E → X × Advance A) (m m2 : Mem T) (plan : Plan T E) → ((e : E) → Steps Took value_at m plan m2 e → NextOf (f e).0 m2 (f e).1)
      → (end : X × Advance A) → Steps Took value_at m (plan_as f plan) m2 end → NextOf end.0 m2 end.1
  next_turned f m m2 plan each end s = let k = steps_back f m m2 plan end s in subst (λ (y : X × Advance A). NextOf y.0 m2 y.1) (sym k.2) (each k.0 k.1)

  module _ (plan : X → Plan T (X × Advance A))
      (step : (x : X) (m : Mem T) → Under x m → (m2 : Mem T) (end : X × Advance A) → Steps Took value_at m (plan x) m2 end → NextOf end.0 m2 end.1) where
    pub run_comes : (x : X) (m : Mem T) → Under x m → (x2 : X) (m2 : Mem T) (result : Result A Fault) → RunsTo plan x m x2 m2 result → Comes x2 m2 result
    run_comes x m under x2 m2 result (stops _ _ _ _ told _ s tells) = stopped x2 m2 told result (step x m under m2 (x2, told) s) tells
    run_comes x m under x2 m2 result (goes _ _ x1 m1 told on s _ _ _ runs) = run_comes x1 m1 (goes_on x1 m1 told on (step x m under m1 (x1, told) s)) x2 m2 result runs

-- what is so one way, and the other
module _ {T X A : Type 0} (Under Under2 : X → Mem T → Type 0) (Comes Comes2 : X → Mem T → Result A Fault → Type 0) where
  -- where the one leads to the other, so does a step
  pub next_as : (x : X) (m : Mem T) (told : Advance A) → (Under x m → Under2 x m) → ((result : Result A Fault) → Comes x m result → Comes2 x m result) → NextOf Under Comes x m told → NextOf Under2 Comes2 x m told
  next_as x m progress.Goes under comes next = under next
  next_as x m progress.Waits under comes next = under next
  next_as x m (progress.Done a) under comes next = comes (Ok a) next
  next_as x m (progress.Refused fault) under comes next = comes (Err fault) next

  -- a step that leads to each leads to both
  pub next_both : (x : X) (m : Mem T) (told : Advance A) → NextOf Under Comes x m told → NextOf Under2 Comes2 x m told
      → NextOf (λ (y : X) (n : Mem T). Under y n × Under2 y n) (λ (y : X) (n : Mem T) (result : Result A Fault). Comes y n result × Comes2 y n result) x m told
  next_both x m progress.Goes next next2 = (next, next2)
  next_both x m progress.Waits next next2 = (next, next2)
  next_both x m (progress.Done a) next next2 = (next, next2)
  next_both x m (progress.Refused fault) next next2 = (next, next2)
