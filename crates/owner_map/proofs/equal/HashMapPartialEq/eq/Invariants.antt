-- What the walk has shown so far is found in the other one.
use Rattle.std.specs.Prelude.{map}
use Rattle.map_straight.specs.Shown.Lent.{pair_shown}
use Rattle.owner_asks.proofs.Pairs.Equals.{AreFound}
use Rattle.owner_map.proofs.equal.HashMapPartialEq.eq.Given as goal

abbrev pub invariant-loop-key : goal.invariant-loop-key
invariant-loop-key g l = AreFound g.K.PartialEq.eq g.met.K.Eq.laws g.V.PartialEq.eq l.self.pairs l.other.pairs (map pair_shown l.yielded)
