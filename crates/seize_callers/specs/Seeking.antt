-- Registering that only takes a slot, as the view of its seat.
use Rattle.std.specs.Prelude.{ℕ, ◌+◌, nat_lt, if◌then◌else◌}
use Rattle.seize.specs.declared.states.TheConstants.{LAST_SLOT}
use Rattle.seize.specs.declared.rows.register.Registering.TheVariants as at
use Rattle.seize_views.specs.Views.Begun.{seeker_at}
use Rattle.seize_views.specs.declared.view.SlotView.{SlotView}
use Rattle.seize_views.specs.declared.view.SlotView.TheVariants.{Rests, Registers}

-- this slot is the next one to be looked at, if there is such a slot
abbrev pub seeks : {T : Type 0} → ℕ → SlotView T
seeks slot = if nat_lt slot (LAST_SLOT + 1) then Registers (seeker_at slot at.Look) else Rests
