-- What is shown of a table.
use Rattle.papaya_raw.specs.Given.TablesDeclared.table.Table.{Table}
use Rattle.run_schedules.specs.declared.shapes.TableShape.{TableShape}

abbrev pub shape_of : Table → TableShape
shape_of table = record { len = table.len; limit = table.limit }
