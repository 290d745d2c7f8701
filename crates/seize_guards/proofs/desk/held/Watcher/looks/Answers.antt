use Rattle.seize_views.proofs.Views.Guarding.{watchers_see}
use Rattle.seize_guards.proofs.desk.held.Watcher.looks.Goals as goal

pub load-word-requires-clause-may : goal.load-word-requires-clause-may
load-word-requires-clause-may g c =
    let x = c.args.self.now in
    watchers_see g.row.T.Denot g.T.Defers.defers c.args.blocks.now.words.fixed x.seat.id x.slot x.last c.args.root x.seat.view x.watches c.requires.root
