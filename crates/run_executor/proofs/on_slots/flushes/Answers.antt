-- A step of a row, as one on a slot.
use Rattle.std.proofs.Common.{ap}
use Rattle.run_places.specs.Given.ScenesDeclared.row.SlotRow.TheVariants as rows
use Rattle.run_executor.proofs.on_slots.flushes.Goals as goal

pub returns : goal.returns
returns g c =
    ((c.step_telling-settled.new.row, c.step_telling-settled.result), c.step_telling-settled.ensures, ap (λ x. (rows.Flushes c.step_telling-settled.new.row, x)) c.of_settling-told.ensures)
