use Rattle.std.proofs.Common.{◌≡◌, ◌+◌, ◌≤◌}
use Rattle.seize_words.specs.OneMemory.Place.{capacity}
use Rattle.seize_tests.proofs.rooming.makes_room.Given as goal

-- the seat is one of this memory, and knows that the buckets before this one are there
abbrev pub invariant-loop-bucket : goal.invariant-loop-bucket
invariant-loop-bucket l = (l.seat.base ≡ l.blocks.words.id.views_name) × (capacity l.bucket ≤ l.seat.view + 32)
