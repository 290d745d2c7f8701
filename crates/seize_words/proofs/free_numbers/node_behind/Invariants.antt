use Rattle.std.proofs.Common.{◌-◌, length}
use Rattle.seize_words.proofs.OneMemory.FreeTrees.{IsScanned}
use Rattle.seize_words.proofs.free_numbers.node_behind.Given as goal

abbrev pub invariant-loop-left : goal.invariant-loop-left
invariant-loop-left l = IsScanned l.first l.nodes l.before l.node l.left

-- a word further each time
abbrev pub decreases-loop-left : goal.decreases-loop-left
decreases-loop-left l = length l.nodes - l.node
