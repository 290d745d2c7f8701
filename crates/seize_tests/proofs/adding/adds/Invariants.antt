use Rattle.std.proofs.Common.{◌≡◌}
use Rattle.seize_tests.proofs.adding.adds.Given as goal

-- the seat is one of this memory, and knows of the block
abbrev pub invariant-loop : goal.invariant-loop
invariant-loop l = (l.seat.base ≡ l.blocks.words.id.views_name) × (l.seat.view ≡ l.block)
