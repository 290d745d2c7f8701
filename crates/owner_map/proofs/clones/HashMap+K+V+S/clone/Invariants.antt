-- Clones of what the walk has shown so far are stored.
use Rattle.std.specs.Prelude.{◌≡◌, map}
use Rattle.map_straight.specs.Shown.Lent.{pair_shown}
use Rattle.owner_rests.specs.ShowsPairs.Stored.{IsMadeOfClones}
use Rattle.owner_map.proofs.clones.HashMap+K+V+S.clone.Given as goal

abbrev pub invariant-loop-key : goal.invariant-loop-key
invariant-loop-key g l = IsMadeOfClones g.K.PartialEq.eq g.K.Clone.is_clone g.V.Clone.is_clone (map pair_shown l.yielded) l.map × (l.map.hasher ≡ l.initial.map.hasher)
