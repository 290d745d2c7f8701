-- The block that a seat has made for a chain, and the one that its link names.
use Rattle.std.specs.Prelude.{ℕ, Option, Some, None}
use Rattle.seize_views.specs.declared.view.SlotView.{SlotView}
use Rattle.seize_views.specs.declared.view.SlotView.TheVariants.{Joins}

abbrev pub joined_by : {T : Type 0} → SlotView T → Option (ℕ × ℕ)
joined_by (Joins (Some made)) = Some (made.0, made.2)
joined_by _ = None
