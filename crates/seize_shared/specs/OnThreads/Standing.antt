-- How a seat stands that has a slot and no block in its hand.
use Rattle.std.specs.Prelude.{ℕ, Bool, true, false, Option, Some, None, ◌==◌, if◌then◌else◌}
use Rattle.seize_views.specs.declared.view.SlotView.{SlotView}
use Rattle.seize_views.specs.declared.view.SlotView.TheVariants.{Outside, Inside}
use Rattle.seize_views.specs.declared.view.Has.TheVariants.{Nothing, Seen}

-- the slot; whether its section is open; and which block it has seen there, 0 for none
abbrev pub standing : {T : Type 0} → SlotView T → Option (ℕ × Bool × ℕ)
standing (Outside t) = Some (t, false, 0)
standing (Inside t Nothing) = Some (t, true, 0)
standing (Inside t (Seen b)) = if b == 0 then None else Some (t, true, b)
standing _ = None
