use Rattle.std.proofs.Common.{◌≡◌}
use Rattle.seize_tests.proofs.counting.sees.Given as goal

-- the seat is one of this memory
abbrev pub invariant-loop : goal.invariant-loop
invariant-loop l = l.seat.base ≡ l.blocks.words.id.views_name
