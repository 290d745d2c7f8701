use Rattle.seize_views.proofs.Views.Notes.{comings_are_noted}
use Rattle.seize_callers.proofs.caller.pass.PassSeat.new.Goals as goal

pub seat-seat-requires : goal.seat-seat-requires
seat-seat-requires g c = comings_are_noted g.row.T.Denot g.T.Defers.defers c.args.blocks.now.words.fixed
