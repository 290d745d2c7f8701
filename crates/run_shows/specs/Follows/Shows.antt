-- How a moment of a run, with what is noted of the memory, shows a scene.
use Rattle.std.specs.Prelude.{◌≡◌, ℕ, Bool, List, Some}
use Rattle.run_effects.specs.Given.SchedulesMoment.{Moment}
use Rattle.many_maps.specs.Maps.{Standing}
use Rattle.run_effects.specs.Effects.Known.{Known}
use Rattle.run_shows.specs.Follows.Blocks.{RefinesBlocks}
use Rattle.run_shows.specs.Follows.Calls.{RefinesCalls}
use Rattle.run_shows.specs.Follows.Maps.{RefinesMap}
use Rattle.run_shows.specs.Scenes.Scene.{Scene}

-- The blocks have the roles that are noted, each map that stands is shown, and so are the calls under way, by the names of their callers. The pairs of a map
-- have numbers of the run by the order in which they were stored there.
pub record Refines {K V : Type 0} (same : K → K → Bool) (name : ℕ → List ℕ) (m : Moment K V) (known : Known) (s : Scene K V) : Type 0 where
  pub blocks : RefinesBlocks m known s.world
  pub number : ℕ → ℕ → ℕ  -- by map
  pub maps : (map : ℕ) (standing : Standing K) → s.maps map ≡ Some standing → RefinesMap map (number map) standing m known
  pub calls : RefinesCalls same name m s.calls
