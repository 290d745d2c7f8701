-- The texts of the faults of a line.
use Rattle.std.specs.Prelude.{ℕ, List, codes}
use Rattle.reclaimed_script.specs.declared.fault.LineFault.{LineFault}
use Rattle.reclaimed_script.specs.declared.fault.LineFault.TheVariants.{TooLong, TooManyLines, UnknownEvent, WrongNumberOfWords, BadWord}

abbrev pub fault_text : LineFault → List ℕ
fault_text TooLong = codes "line too long"
fault_text TooManyLines = codes "too many lines"
fault_text UnknownEvent = codes "unknown event"
fault_text WrongNumberOfWords = codes "wrong number of words"
fault_text BadWord = codes "bad word"
