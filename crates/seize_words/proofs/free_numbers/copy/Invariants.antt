use Rattle.std.proofs.Common.{length}
use Rattle.seize_words.proofs.OneMemory.FreeGrown.{IsCopied}
use Rattle.seize_words.proofs.free_numbers.copy.Given as goal

abbrev pub invariant-loop-place : goal.invariant-loop-place
invariant-loop-place l = IsCopied l.first (length l.nodes) l.nodes l.place l.more
