-- The word of the place at which a pair lies names the pair's block.
use Rattle.std.specs.Prelude.{◌≡◌, ℕ, ◌+◌, ◌≤◌, Bool, true, false}
use Rattle.std.proofs.Common.{arith}
use Rattle.run_shows.specs.Given.RunsDeclared.effect.Spot.{Spot}
use Rattle.run_shows.specs.Given.RuleChart.{Chart}
use Rattle.run_places.specs.Spots.Spots.{ThePair, named_by, LiesAt}

-- in either mode a place from the root on names the pair
pub lies_named : {K : Type 0} (c : Chart K) (q : Bool) (n : ℕ) (s : Spot) (born : ℕ) → LiesAt c q n s born → (c.first ≤ s.turn) × (b : Bool) × (named_by (c.place s.turn s.place) ≡ ThePair n b)
lies_named c true n s born h = (h.0, _, h.1)
lies_named c false n s born h = ((let e = h.0 in omega (arith, e)), false, h.1)
