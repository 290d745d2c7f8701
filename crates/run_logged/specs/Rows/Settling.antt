-- Rows that settle: they leave their slot, refresh it, or flush its batch.
use Rattle.std.specs.Prelude.{◌≡◌}
use Rattle.run_shows.specs.declared.row.SlotRow.{SlotRow}
use Rattle.run_shows.specs.declared.row.SlotRow.TheVariants as rows

-- a row that settles, by itself or as it leaves
abbrev pub IsSettling : SlotRow → Type 0
IsSettling (rows.Leaves c) = Unit {0}
IsSettling (rows.Flushes c) = Unit {0}
IsSettling _ = ⊥
