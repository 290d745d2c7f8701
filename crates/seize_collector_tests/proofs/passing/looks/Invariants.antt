use Rattle.std.proofs.Common.{◌≡◌}
use Rattle.seize_collector_tests.proofs.passing.looks.Given as goal

-- the pass is of the memory that it was of
abbrev pub invariant-loop-turn : goal.invariant-loop-turn
invariant-loop-turn l = l.pass.pass.seat.base ≡ l.initial.pass.pass.seat.base
