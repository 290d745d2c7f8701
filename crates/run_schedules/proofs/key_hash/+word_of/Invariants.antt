use Rattle.std.proofs.Common.{length}
use Rattle.run_schedules.proofs.key_hash.+word_of.Given as goal

-- each byte taken off leaves fewer
abbrev pub decreases-word_of : goal.decreases-word_of
decreases-word_of l = length l.bytes.now
