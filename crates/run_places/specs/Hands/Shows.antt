-- How a moment of a run, with what is noted of the memory, shows a scene, what its calls were told, in whose hands blocks are, and what rows do.
use Rattle.std.specs.Prelude.{ℕ, Bool, List}
use Rattle.run_shows.specs.Given.SchedulesMoment.{Moment}
use Rattle.run_shows.specs.Given.EffectsKnown.{Known}
use Rattle.run_shows.specs.Follows.Shows.{Refines}
use Rattle.run_places.specs.Hands.Asked.{RefinesAsked}
use Rattle.run_places.specs.Hands.Hands.{RefinesHands}
use Rattle.run_places.specs.Hands.Rows.{RowsReclaimNone}
use Rattle.run_shows.specs.Scenes.Scene.{Scene}

-- It shows what the scene has, and of each call under way what it was told, and asks; what is in maps nobody has in hand, and rows within calls reclaim
-- nothing.
pub record RefinesHeld {K V : Type 0} (same : K → K → Bool) (name : ℕ → List ℕ) (m : Moment K V) (known : Known) (s : Scene K V) : Type 0 where
  pub shown : Refines same name m known s
  pub asked : RefinesAsked name shown.number m known s
  pub hands : RefinesHands m known s
  pub rows : RowsReclaimNone s
