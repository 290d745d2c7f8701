use Rattle.run_executor.proofs.vacating.vacate.Given as goal
use Rattle.run_executor.proofs.Executing.Vacated.{AreVacant}

abbrev pub invariant-loop-slot : goal.invariant-loop-slot
invariant-loop-slot l = AreVacant l.slot l.fn.slots.items l.slots.items
