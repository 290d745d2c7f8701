-- A name gets shorter.
use Rattle.std.proofs.Common.{length}
use Rattle.reclaimed_engine.proofs.finals.+name_number.Given as goal

abbrev pub decreases-name_number : goal.decreases-name_number
decreases-name_number l = length l.name.now
