-- The section stays open while it goes on.
use Rattle.seize_tests.specs.Tests.Section.{IsInside}
use Rattle.seize_tests.proofs.section.goes_so.Given as goal

abbrev pub invariant-loop-number : goal.invariant-loop-number
invariant-loop-number l = IsInside 5 l.memory l.slot
