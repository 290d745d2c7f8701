use Rattle.std.proofs.Common.{◌≡◌, ◌-◌, ◌*◌}
use Rattle.core.specs.Mem.Slots.{slots_items, slots_filled, slots_ptr, slots_len}
use Rattle.core.specs.Mem.Slots.Ownership.{Filled}
use Rattle.seize_words.specs.OneMemory.Place.{capacity}
use Rattle.seize_seats.specs.Plots.Pieces.{AreBucketsBehind}
use Rattle.seize_seats.proofs.rooms.clear_rooms.Given as goal

-- the doors from here on have the addresses of the buckets that are left, and the next one has so many words
abbrev pub invariant-loop-door : goal.invariant-loop-door
invariant-loop-door l =
    (l.count ≡ capacity (l.door - 31) * 16) × AreBucketsBehind l.door l.left.spots (slots_items l.doors) × Filled (slots_filled l.doors) l.door (slots_len l.doors)
    × (slots_len l.doors ≡ 64) × (slots_ptr l.doors ≡ slots_ptr l.initial.doors)
