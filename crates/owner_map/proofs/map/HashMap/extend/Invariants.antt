-- What the iterator has given so far is stored.
use Rattle.std.specs.Prelude.{◌≡◌}
use Rattle.owner_rests.proofs.ShowsPairs.Stored.{HasStored}
use Rattle.owner_map.proofs.map.HashMap.extend.Given as goal

abbrev pub invariant-loop-key : goal.invariant-loop-key
invariant-loop-key g l =
    HasStored g.K.PartialEq.eq l.fn.self.pairs l.fn.self.held l.fn.self.taken l.fn.self.met l.yielded l.self × (l.self.hasher ≡ l.fn.self.hasher)
