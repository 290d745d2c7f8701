use Rattle.std.specs.Prelude.{◌≡◌}
use Rattle.map_straight.specs.Shown.Coming.{pairs_to_come, can_go_on}
use Rattle.map_straight.proofs.iter.PairsIterator.next.Given as goal

-- the same pairs are still to come
abbrev pub invariant-loop-self : goal.invariant-loop-self
invariant-loop-self g l = can_go_on l.self × (pairs_to_come l.self ≡ pairs_to_come l.fn.self)

abbrev pub decreases-loop-self : goal.decreases-loop-self
decreases-loop-self g l = l.self.tables.count.0
