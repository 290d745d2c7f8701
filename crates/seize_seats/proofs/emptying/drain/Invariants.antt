use Rattle.std.proofs.Common.{◌≡◌, drop}
use Rattle.std.specs.Prelude.{map}
use Rattle.core.specs.Mem.Slots.{slots_items, slots_filled, slots_ptr, slots_len}
use Rattle.core.specs.Mem.Slots.Ownership.{Filled}
use Rattle.seize_seats.specs.Seats.Plots.{AreEmpty}
use Rattle.seize_seats.specs.Plots.Pieces.{spot_of}
use Rattle.seize_seats.proofs.emptying.drain.Given as goal

-- the places from here on hold what they held, with the words beside it, and those before hold none
abbrev pub invariant-loop-index : goal.invariant-loop-index
invariant-loop-index g l =
    Filled (slots_filled l.slots) l.index (slots_len l.slots) × AreEmpty (slots_filled l.slots) l.index × (slots_ptr l.slots ≡ slots_ptr l.initial.slots)
    × (slots_len l.slots ≡ slots_len l.initial.slots) × (slots_items l.slots ≡ slots_items l.initial.slots)
    × (l.left.spots ≡ drop l.index (map spot_of (slots_items l.initial.slots)))
