use Rattle.std.proofs.Common.{◌≡◌, ◌≤◌}
use Rattle.seize_tests.proofs.meeting.raises.Given as goal

-- the seat is one of this memory, and no turn counts twice
abbrev pub invariant-loop-turn : goal.invariant-loop-turn
invariant-loop-turn l = (l.seat.base ≡ l.blocks.words.id.views_name) × (l.done ≤ l.turn)
