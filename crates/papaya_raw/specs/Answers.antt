-- How calls tell their ends.
use Rattle.papaya_raw.specs.declared.machines.answer.End.{End}
use Rattle.papaya_raw.specs.declared.machines.answer.End.TheVariants as ends
use Rattle.papaya_raw.specs.declared.machines.answer.Called.{Called}
use Rattle.papaya_raw.specs.declared.machines.answer.Called.TheVariants.{Done, Refused}

module _ {T : Type 0} where
  abbrev pub ended : End → Called T
  ended (ends.Answered answer) = Done answer
  ended (ends.Refused fault) = Refused fault
