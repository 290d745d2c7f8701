-- With which places the makings are under way: each makes a first table for those that it was asked for.
use Rattle.std.specs.Prelude.{◌≡◌, ℕ, Some}
use Rattle.run_legal.specs.Given.FinishesMakings.{Beginning}
use Rattle.run_legal.specs.Given.ScenesScene.{Scene}
use Rattle.play_linear.specs.Given.AgreesPlaces.{ArePlaces}
use Rattle.run_legal.specs.Given.NeedsFirsts.{AllMakingsOpen}

-- Each making that is under way makes a first table for its places.
pub record OpensFor {K V : Type 0} (s : Scene K V) : Type 0 where
  pub opens : AllMakingsOpen s
  pub places : (i : ℕ) (b : Beginning K) → s.makers i ≡ Some b → ArePlaces b.given b.places
