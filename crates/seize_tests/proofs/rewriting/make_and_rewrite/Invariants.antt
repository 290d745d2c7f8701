use Rattle.std.proofs.Common.{◌≡◌, ◌≤◌}
use Rattle.seize_tests.proofs.rewriting.make_and_rewrite.Given as goal

-- the seat is one of this memory, and no more blocks are made than there are turns
abbrev pub invariant-loop-turn : goal.invariant-loop-turn
invariant-loop-turn l = (l.seat.base ≡ l.blocks.words.id.views_name) × (l.made ≤ l.turn)
