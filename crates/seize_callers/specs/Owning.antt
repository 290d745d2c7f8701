-- The block that a seat has that has no slot.
use Rattle.std.specs.Prelude.{ℕ, Option, Some, None}
use Rattle.seize_views.specs.declared.view.SlotView.{SlotView}
use Rattle.seize_views.specs.declared.view.SlotView.TheVariants.{Brings, Bears}

-- which it has made
abbrev pub brought_by : {T : Type 0} → SlotView T → Option ℕ
brought_by (Brings b x) = Some b
brought_by _ = None

-- or unlinked
abbrev pub borne_by : {T : Type 0} → SlotView T → Option ℕ
borne_by (Bears b) = Some b
borne_by _ = None
