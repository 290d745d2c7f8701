-- What is left of what effects of calls find, by three parts: why a block is asked for, which table is linked, and where a pair is handed over. They make it up.
use Rattle.std.specs.Prelude.{◌≡◌, ℕ, List, Some}
use Rattle.run_executor.specs.Given.RunsDeclared.effect.Effect.{Effect}
use Rattle.run_executor.specs.Given.RunsDeclared.effect.Effect.TheVariants.{Deferred, Retired}
use Rattle.run_executor.specs.Given.RunsDeclared.effect.Thing.TheVariants.{APair}
use Rattle.run_executor.specs.Given.SchedulesEffects.{AtEachEffect}
use Rattle.run_executor.specs.Given.SchedulesEntry.{ByCall, acting}
use Rattle.run_executor.specs.Given.SchedulesLives.{IsPast, MayDefer}
use Rattle.run_executor.specs.Given.SchedulesMoment.{UnderWay as CallThere, Moment}
use Rattle.run_executor.specs.Given.SchedulesTerms.{Terms}
use Rattle.run_executor.specs.Given.SchedulesViews.{first_of}
use Rattle.run_finds.specs.Growing.{FindAsked}
use Rattle.run_finds.specs.Linking.{FindShapes}
use Rattle.run_finds.specs.Parts.{FindRest}

module _ {K V : Type 0} where
  -- a pair is put behind a table where it may wait, and retired once the root has come to where it lies
  abbrev pub FindsHanded : Moment K V → Effect → CallThere K V → Type 0
  FindsHanded m (Deferred n t) c = MayDefer c.map m n t
  FindsHanded m (Retired (APair n)) c = IsPast (m.born n).turn (m.spot n).turn (first_of c.map m)
  FindsHanded m _ c = Unit {0}

  abbrev pub FindHanded : List ℕ → ℕ → List Effect → Moment K V → Type 0
  FindHanded own map effects m = AtEachEffect (λ v f. ByCall (FindsHanded v f) (acting (Some own) v)) (Some own) (Some map) effects m

-- The promise: the three are all that is left.
abbrev pub RestIsAll : Type 0 → Type 0 → Type 0
RestIsAll K V =
    (terms : Terms) (moments : List (Moment K V)) (own : List ℕ) (map : ℕ) (effects : List Effect) (m : Moment K V)
    → FindAsked terms moments own map effects m → FindShapes terms moments own map effects m → FindHanded own map effects m → FindRest terms moments own map effects m
