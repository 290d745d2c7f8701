-- What was stored at a moment of a run has its number still at each later one.
use Rattle.std.specs.Prelude.{ℕ, ◌==◌, Bool, true, false, List, [], ◌∷◌, Option, Some, None, if◌then◌else◌}
use Rattle.std.specs.List.{AllByRecursion}
use Rattle.run_finds.specs.Given.RunsDeclared.effect.Effect.{Effect}
use Rattle.run_finds.specs.Given.RunsDeclared.effect.Effect.TheVariants as effect
use Rattle.run_finds.specs.Given.SchedulesEffects.{new_pair, stored_by, with_effect, with_effects}
use Rattle.run_finds.specs.Given.SchedulesEntry.{acting}
use Rattle.run_finds.specs.Given.SchedulesMoment.{UnderWay as CallThere, Moment, start}
use Rattle.run_finds.specs.Given.SchedulesTransition.{Past, past}
use Rattle.run_finds.proofs.Given.FollowsContents.{Lasts, lasts_more}
use Rattle.run_finds.specs.Purposes.Purposes.{NumbersLast}
use Rattle.run_sweeps.proofs.Purposes.Lists.{all_on}

module _ {K V : Type 0} where
  stored_on : (c : Option (CallThere K V)) (f : Effect) (stored : List (K × V)) → Lasts stored (stored_by c f stored)
  stored_on (Some c) (effect.Stored n s) stored = lasts_more stored (new_pair c.call c n)
  stored_on None f stored = λ n p e. e
  stored_on (Some c) _ stored = λ n p e. e

  pub effects_stored : (own : Option (List ℕ)) (of : Option ℕ) (effects : List Effect) (m : Moment K V) → Lasts m.stored (with_effects own of effects m).stored
  effects_stored own of [] m n p e = e
  effects_stored own of (f ∷ effects) m n p e = effects_stored own of effects (with_effect own of f m) n p (stored_on (acting own m) f m.stored n p e)

  -- and so what was stored at each of the moments since an entry
  pub numbers_last : (log : Past K V) (m m2 : Moment K V) → Lasts m.stored m2.stored → NumbersLast log m → NumbersLast log m2
  numbers_last log m m2 lasts all begun =
      all_on (λ (x : Moment K V). Lasts x.stored m.stored) (λ (x : Moment K V). Lasts x.stored m2.stored) (λ x was n p is. lasts n p (was n p is)) (log.since begun) (all begun)

-- before all events
pub first_lasts : (K V : Type 0) → NumbersLast {K = K} {V = V} (past []) start
first_lasts K V begun = by (begun == 0)
  where
    by : (b : Bool) → AllByRecursion (λ (x : Moment K V). Lasts x.stored (start {K = K} {V = V}).stored) (if b then start ∷ [] else [])
    by true = (λ n p is. is, tt)
    by false = tt
