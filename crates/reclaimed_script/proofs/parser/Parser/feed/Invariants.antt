use Rattle.std.proofs.Common.{ℕ, List, ◌++◌, take}
use Rattle.reclaimed_script.specs.Reading.{StandsAfter}
use Rattle.reclaimed_script.proofs.parser.Parser.feed.Given as goal

abbrev pub invariant-loop-byte : goal.invariant-loop-byte
invariant-loop-byte l = (read : List ℕ) → StandsAfter read l.initial.self → StandsAfter (read ++ take l.byte-index l.bytes) l.self
