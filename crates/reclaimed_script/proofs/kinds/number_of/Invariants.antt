use Rattle.std.proofs.Common.{◌≡◌, drop}
use Rattle.reclaimed_script.specs.Words.{value_from}
use Rattle.reclaimed_script.proofs.kinds.number_of.Given as goal

abbrev pub invariant-loop-byte : goal.invariant-loop-byte
invariant-loop-byte l = value_from l.number (drop l.byte-index l.word) ≡ value_from 0 l.word
