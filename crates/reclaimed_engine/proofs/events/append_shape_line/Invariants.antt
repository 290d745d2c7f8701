use Rattle.std.proofs.Common.{◌≡◌, ◌++◌, take}
use Rattle.std.specs.Prelude.{codes}
use Rattle.std.specs.List.{flat_map}
use Rattle.reclaimed_engine.specs.PrintedText.Text.{table_shape}
use Rattle.reclaimed_engine.proofs.events.append_shape_line.Given as goal

abbrev pub invariant-loop-table : goal.invariant-loop-table
invariant-loop-table l = l.out.items ≡ l.fn.out.items ++ codes "shape" ++ flat_map table_shape (take l.table-index l.tables)
