-- How a run begins: no call was told anything.
use Rattle.std.specs.Prelude.{ℕ, Bool, List}
use Rattle.run_shows.specs.Given.SchedulesMoment.{start}
use Rattle.run_shows.specs.Given.EffectsKnown.{nothing_known}
use Rattle.run_places.specs.Hands.Shows.{RefinesHeld}
use Rattle.run_shows.specs.Scenes.Scene.{at_first}

-- The promise: the moment before all events shows the first scene.
abbrev pub RunsBeginSo : Type 0 → Type 0 → Type 0
RunsBeginSo K V = (same : K → K → Bool) (roots : ℕ) (name : ℕ → List ℕ) → RefinesHeld {K = K} {V = V} same name start nothing_known (at_first roots)
