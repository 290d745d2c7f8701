-- Clones of so many items are stored, and the hasher is one by default.
use Rattle.std.specs.Prelude.{take}
use Rattle.papaya_seq.specs.Stored.{IsSetMadeOfClones}
use Rattle.papaya_seq.proofs.set.clones.HashSet+K+S.from_array.Given as goal

abbrev pub invariant-loop-item : goal.invariant-loop-item
invariant-loop-item g l = IsSetMadeOfClones g.K.PartialEq.eq g.K.Clone.is_clone (take l.item-index l.items) l.set × g.S.Default.is_default l.set.hasher
