-- Rows that make one store.
use Rattle.std.specs.Prelude.{◌≡◌}
use Rattle.run_shows.specs.declared.row.SlotRow.{SlotRow}
use Rattle.run_shows.specs.declared.row.SlotRow.TheVariants as rows

-- a row that makes one store
abbrev pub StoresOnce : SlotRow → Type 0
StoresOnce (rows.Enters c) = Unit {0}
StoresOnce (rows.Frees c) = Unit {0}
StoresOnce _ = ⊥
