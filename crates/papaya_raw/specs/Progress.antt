-- How far a call of a map is, by what the machine of its kind says.
use Rattle.std.specs.Prelude.{ℕ, Some}
use Rattle.map_sweeps.specs.Given.SeizeDeclared.advance.Advance.{Advance as Counting}
use Rattle.map_sweeps.specs.Given.SeizeDeclared.advance.Advance.TheVariants as counting
use Rattle.map_sweeps.specs.Given.ResizeDeclared.yielding.Yielding.{Yielding}
use Rattle.map_sweeps.specs.Given.ResizeDeclared.yielding.Yielding.TheVariants as outcome
use Rattle.map_sweeps.specs.declared.sweep.Swept.{Swept}
use Rattle.map_sweeps.specs.declared.sweep.Swept.TheVariants as swept
use Rattle.papaya_raw.specs.declared.machines.answer.Called.{Called}
use Rattle.papaya_raw.specs.declared.machines.answer.Called.TheVariants as called
use Rattle.papaya_raw.specs.declared.machines.progress.Answer.TheVariants as answers
use Rattle.papaya_raw.specs.declared.machines.progress.Progress.{Progress}
use Rattle.papaya_raw.specs.declared.machines.progress.Progress.TheVariants.{Goes, Asks, Waits, Ready, Pair, Gave, Unstored, Done, Refused}

module _ {T : Type 0} where
  -- of a call on one key
  abbrev pub of_called : Called T → Progress T
  of_called called.Goes = Goes
  of_called called.Waits = Waits
  of_called (called.Gave value) = Gave value
  of_called (called.Unstored value) = Unstored value
  of_called (called.Asks pair) = Asks pair
  of_called (called.Done answer) = Done (answers.Key answer)
  of_called (called.Refused fault) = Refused fault

  -- of a reservation
  abbrev pub of_outcome : Yielding T Unit → Progress T
  of_outcome outcome.Goes = Goes
  of_outcome outcome.Waits = Waits
  of_outcome (outcome.Gave value) = Gave value
  of_outcome (outcome.Done _) = Done answers.Reserved
  of_outcome (outcome.Refused fault) = Refused fault

  -- Of a sweep. The pair that it asks for is named as that of a call on one key.
  abbrev pub of_swept : Swept T → Progress T
  of_swept swept.Goes = Goes
  of_swept swept.Waits = Waits
  of_swept (swept.Gave value) = Gave value
  of_swept swept.Ready = Ready
  of_swept (swept.Pair pair) = Pair pair
  of_swept (swept.Asks pair) = Asks (Some pair)
  of_swept swept.Done = Done answers.Swept
  of_swept (swept.Refused fault) = Refused fault

  -- of a counting
  abbrev pub of_counting : Counting ℕ → Progress T
  of_counting counting.Goes = Goes
  of_counting counting.Waits = Waits
  of_counting (counting.Done count) = Done (answers.Count count)
  of_counting (counting.Refused fault) = Refused fault
