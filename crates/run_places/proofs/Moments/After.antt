-- Effects after effects.
use Rattle.std.specs.Prelude.{◌≡◌, ℕ, List, [], ◌∷◌, ◌++◌, Option}
use Rattle.std.proofs.Common.{refl}
use Rattle.run_shows.specs.Given.RunsDeclared.effect.Effect.{Effect}
use Rattle.run_shows.specs.Given.SchedulesEffects.{with_effect, with_effects, AtEachEffect}
use Rattle.run_shows.specs.Given.SchedulesMoment.{Moment}

module _ {K V : Type 0} (caller : Option (List ℕ)) (acted : Option ℕ) where
  -- the moment after them is that after the ones behind, from where the first ones have led
  pub effects_after : (xs ys : List Effect) (m : Moment K V) → with_effects caller acted (xs ++ ys) m ≡ with_effects caller acted ys (with_effects caller acted xs m)
  effects_after [] ys m = refl
  effects_after (f ∷ xs) ys m = effects_after xs ys (with_effect caller acted f m)

  -- what is so at each of them is so at the first ones, and at those behind them
  pub each_parts : (P : Moment K V → Effect → Type 0) (xs ys : List Effect) (m : Moment K V) → AtEachEffect P caller acted (xs ++ ys) m
      → AtEachEffect P caller acted xs m × AtEachEffect P caller acted ys (with_effects caller acted xs m)
  each_parts P [] ys m each = (tt, each)
  each_parts P (f ∷ xs) ys m each = let later = each_parts P xs ys (with_effect caller acted f m) each.1 in ((each.0, later.0), later.1)
