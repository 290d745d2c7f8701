use Rattle.seize_words.proofs.OneMemory.FreeTrees.{IsMended}
use Rattle.seize_words.proofs.free_numbers.mend.Given as goal

abbrev pub invariant-loop-node : goal.invariant-loop-node
invariant-loop-node l = IsMended l.fn.first l.fn.nodes l.nodes l.node l.was

-- a row further up each time
abbrev pub decreases-loop-node : goal.decreases-loop-node
decreases-loop-node l = l.node
