-- How a run begins: nothing is noted, and the scene has no map and no caller.
use Rattle.std.specs.Prelude.{ℕ, Bool, List}
use Rattle.run_effects.specs.Given.SchedulesMoment.{start}
use Rattle.run_effects.specs.Effects.Known.{nothing_known}
use Rattle.run_shows.specs.Follows.Shows.{Refines}
use Rattle.run_shows.specs.Scenes.Scene.{at_first}

-- The promise: the moment before all events shows the first scene.
abbrev pub RunsBegin : Type 0 → Type 0 → Type 0
RunsBegin K V = (same : K → K → Bool) (roots : ℕ) (name : ℕ → List ℕ) → Refines {K = K} {V = V} same name start nothing_known (at_first roots)
