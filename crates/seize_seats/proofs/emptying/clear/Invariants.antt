use Rattle.std.proofs.Common.{◌≡◌, ◌*◌, ◌^◌, take, drop}
use denote.Param.{param}
use Rattle.core.specs.Mem.Slots.{slots_items, slots_filled, slots_ptr, slots_len}
use Rattle.core.specs.Mem.Slots.Ownership.{Filled}
use Rattle.seize_seats.specs.Seats.Doors.{IsFurther, AreBehind}
use Rattle.seize_seats.specs.contracts.kept.Kept.{the_row as KeptOf}
use Rattle.seize_seats.proofs.emptying.clear.Given as goal

-- the doors from here on have the addresses of the strips that are left, and so many numbers come before the next one
abbrev pub invariant-loop-door : goal.invariant-loop-door
invariant-loop-door g l =
    (l.count ≡ l.least * 2 ^ l.door) × AreBehind (IsFurther (KeptOf (param 0 g.row.T)) l.least) l.door l.left.strips (drop l.door (take 32 (slots_items l.doors)))
    × Filled (slots_filled l.doors) l.door (slots_len l.doors) × (slots_len l.doors ≡ 64) × (slots_ptr l.doors ≡ slots_ptr l.initial.doors)
    × (slots_items l.doors ≡ slots_items l.initial.doors)
