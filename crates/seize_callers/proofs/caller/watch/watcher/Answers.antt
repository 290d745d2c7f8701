use Rattle.seize_views.proofs.Views.Notes.{comings_are_noted}
use Rattle.seize_callers.proofs.caller.watch.watcher.Goals as goal

pub seat-requires : goal.seat-requires
seat-requires g c = comings_are_noted g.row.T.Denot g.T.Defers.defers c.args.blocks.now.words.fixed
