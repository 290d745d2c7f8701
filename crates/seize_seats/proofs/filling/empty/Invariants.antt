use Rattle.std.proofs.Common.{◌≡◌, ◌<◌, ℕ, None}
use Rattle.std.specs.Prelude.{slice_index_or}
use Rattle.core.specs.Mem.Slots.{slots_items, slots_filled, slots_ptr, slots_len}
use Rattle.core.specs.Mem.Slots.Ownership.{Filled}
use Rattle.seize_seats.proofs.filling.empty.Given as goal

-- the places so far hold none
abbrev pub invariant-loop-index : goal.invariant-loop-index
invariant-loop-index g l =
    ((k : ℕ) → k < l.index → slice_index_or (slots_items l.slots) k None ≡ None) × Filled (slots_filled l.slots) 0 l.index ×
    (slots_ptr l.slots ≡ slots_ptr l.initial.slots)
    × (slots_len l.slots ≡ slots_len l.initial.slots)
