-- Clones of so many items are stored, and the hasher is one by default.
use Rattle.std.specs.Prelude.{take}
use Rattle.owner_rests.specs.ShowsPairs.Stored.{IsMadeOfClones}
use Rattle.owner_map.proofs.clones.HashMap+K+V+S.from_array.Given as goal

abbrev pub invariant-loop-item : goal.invariant-loop-item
invariant-loop-item g l = IsMadeOfClones g.K.PartialEq.eq g.K.Clone.is_clone g.V.Clone.is_clone (take l.item-index l.items) l.map × g.S.Default.is_default l.map.hasher
