use Rattle.std.proofs.Common.{◌≡◌, ◌≤◌}
use Rattle.seize_tests.proofs.rooming.adds.Given as goal

-- the seat is one of this memory, and knows of so many slots
abbrev pub invariant-loop : goal.invariant-loop
invariant-loop l = (l.seat.base ≡ l.blocks.words.id.views_name) × (224 ≤ l.seat.view)
