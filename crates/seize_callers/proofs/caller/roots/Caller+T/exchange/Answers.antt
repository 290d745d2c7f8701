use Rattle.seize_callers.proofs.Calls.{may_exchange}
use Rattle.seize_callers.proofs.caller.roots.Caller+T.exchange.Goals as goal

pub exchange-requires-clause-may : goal.exchange-requires-clause-may
exchange-requires-clause-may g c =
    let x = c.args.self.now in
    may_exchange g.T.Defers.defers x.blocks.now.words.fixed x.seat.id x.seat.view c.args._slot c.args.block c.requires.has.0 c.args.seen c.args.root c.to-there.result
    c.to-word.result c.requires.has.1 c.requires.root c.requires.fits.0 c.to-word.ensures
