use Rattle.std.proofs.Common.{ℕ, ◌-◌}
use Rattle.seize_words.proofs.OneMemory.FreeTrees.{IsOnWay}
use Rattle.seize_words.proofs.free_numbers.lowest.Given as goal

abbrev pub invariant-loop-node : goal.invariant-loop-node
invariant-loop-node l = (row : ℕ) × IsOnWay l.first l.nodes row l.node

-- a row further down each time
abbrev pub decreases-loop-node : goal.decreases-loop-node
decreases-loop-node l = l.first - l.node
