-- What the iterator has given so far is stored.
use Rattle.std.specs.Prelude.{◌≡◌}
use Rattle.papaya_seq.proofs.Stored.{HasStoredIn}
use Rattle.papaya_seq.proofs.set.HashSet.extend.Given as goal

abbrev pub invariant-loop-element : goal.invariant-loop-element
invariant-loop-element g l =
    HasStoredIn g.K.PartialEq.eq l.fn.self.elements l.fn.self.held l.fn.self.taken l.fn.self.met l.yielded l.self × (l.self.hasher ≡ l.fn.self.hasher)
