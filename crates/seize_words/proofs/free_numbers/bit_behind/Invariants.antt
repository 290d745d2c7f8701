use Rattle.std.proofs.Common.{◌-◌}
use Rattle.seize_words.proofs.OneMemory.FreeTrees.{IsSought}
use Rattle.seize_words.proofs.free_numbers.bit_behind.Given as goal

abbrev pub invariant-loop-bit : goal.invariant-loop-bit
invariant-loop-bit l = IsSought l.word l.before l.bit l.left

-- a bit further each time
abbrev pub decreases-loop-bit : goal.decreases-loop-bit
decreases-loop-bit l = 64 - l.bit
