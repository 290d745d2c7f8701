use Rattle.seize_views.proofs.Views.Guarding.{watched_are_shown}
use Rattle.seize_guards.proofs.desk.held.Watcher.value.Goals as goal

pub value-requires-clause-shown : goal.value-requires-clause-shown
value-requires-clause-shown g c =
    let x = c.args.self.now in
    watched_are_shown g.row.T.Denot g.T.Defers.defers c.args.blocks.now.words.fixed x.seat.id x.slot x.last x.seat.view x.watches c.requires.some
