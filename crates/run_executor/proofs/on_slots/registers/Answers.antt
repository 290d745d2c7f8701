-- A step of a row, as one on a slot.
use Rattle.std.proofs.Common.{ap}
use Rattle.run_places.specs.Given.ScenesDeclared.row.SlotRow.TheVariants as rows
use Rattle.run_executor.proofs.on_slots.registers.Goals as goal

pub returns : goal.returns
returns g c =
    ((c.step_telling-progress.new.row, c.step_telling-progress.result), c.step_telling-progress.ensures, ap (λ x. (rows.Registers c.step_telling-progress.new.row, x)) c.of_registering-told.ensures)
