-- What effects find by the promise `life` of their event is what they have to find for pairs to be in their places.
use Rattle.std.specs.Prelude.{◌≡◌, ℕ, ◌+◌, Bool, List, length, Option}
use Rattle.run_executor.specs.Given.RunsDeclared.effect.Effect.{Effect}
use Rattle.run_executor.specs.Given.RunsDeclared.effect.Effect.TheVariants.{Stored}
use Rattle.run_executor.specs.Given.SchedulesEffects.{stored_by}
use Rattle.run_executor.specs.Given.SchedulesEntry.{acting}
use Rattle.run_executor.specs.Given.SchedulesLives.{Finds}
use Rattle.run_executor.specs.Given.SchedulesMoment.{Moment}
use Rattle.run_executor.specs.Given.SchedulesTerms.{Terms}
use Rattle.run_finds.specs.Waiting.{FindsPlaced}

module _ {K V : Type 0} where
  -- an effect that stores a pair is of a call that has one to store
  abbrev pub StoresOne : Option (List ℕ) → Moment K V → Effect → Type 0
  StoresOne caller m (Stored n s) = length (stored_by (acting caller m) (Stored n s) m.stored) ≡ length m.stored + 1
  StoresOne caller m _ = Unit {0}

-- The promise: so it is of each effect.
abbrev pub LifeFindsPlaced : Type 0 → Type 0 → Type 0
LifeFindsPlaced K V =
    (terms : Terms) (caller : Option (List ℕ)) (acted : Option ℕ) (everything : Bool) (moments : List (Moment K V)) (m : Moment K V) (f : Effect)
    → Finds terms caller acted everything moments m f → StoresOne caller m f → FindsPlaced caller m f
