-- A map that ends goes on to end: what it has still to reclaim, as it is noted, is next, one after another, and then nothing of the map is there.
use Rattle.std.specs.Prelude.{◌≡◌, ◌++◌, ℕ, false, List, [], Some}
use Rattle.many_acts.specs.Given.FinishesEndings.{Finishing}
use Rattle.many_acts.specs.Given.FinishesFactsEnds.{back_of}
use Rattle.run_schedules.specs.Schedules.Moment.{MapThere, Moment}
use Rattle.run_schedules.specs.Schedules.Views.{map_at}
use Rattle.run_kept.specs.Given.EffectsKnown.{Known}
use Rattle.run_kept.specs.Ends.{ended_as}
use Rattle.play_lists.specs.MapsEnd.Ends.{AreStored, EndsWell}

-- the map of this number is there yet, and these blocks are to be reclaimed
pub record ContinuesToEnd {K V : Type 0} (map : ℕ) (f : Finishing K V) (known : Known) (m : Moment K V) : Type 0 where
  pub rest : List ℕ
  pub back_is : back_of f.setting f.chart f.blocks (λ t. []) false ≡ f.back ++ rest
  pub there : MapThere
  pub there_is : map_at map m ≡ Some there
  pub stored : AreStored map m
  pub well : EndsWell map (ended_as map known rest) m
