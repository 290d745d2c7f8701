-- What is promised of effects that store pairs: they store one each.
use Rattle.std.specs.Prelude.{◌≡◌, ℕ, List, ◌++◌, Some}
use Rattle.run_executor.specs.Given.RunsDeclared.effect.Effect.{Effect}
use Rattle.run_executor.specs.Given.SchedulesEffects.{with_effects, AtEachEffect}
use Rattle.run_executor.specs.Given.SchedulesMoment.{Moment}
use Rattle.run_finds.specs.Life.{StoresOne}

-- Effects of several steps store one each, if those before do and those of the last step.
abbrev pub SeveralStoreOne : Type 0 → Type 0 → Type 0
SeveralStoreOne K V =
    (own : List ℕ) (map : ℕ) (done effects : List Effect) (m : Moment K V)
    → AtEachEffect (StoresOne (Some own)) (Some own) (Some map) done m → AtEachEffect (StoresOne (Some own)) (Some own) (Some map) effects (with_effects (Some own) (Some map) done m)
    → AtEachEffect (StoresOne (Some own)) (Some own) (Some map) (done ++ effects) m
