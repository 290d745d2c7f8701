use Rattle.seize_callers.proofs.Owning.{may_exchange_own}
use Rattle.seize_callers.proofs.caller.alone.Caller+T.exchanges.Goals as goal

pub exchange-requires-clause-may : goal.exchange-requires-clause-may
exchange-requires-clause-may g c =
    let x = c.args.self.now in
    may_exchange_own g.T.Defers.defers x.blocks.now.words.fixed x.seat.id x.seat.view c.args.block c.args.root c.args.old c.marked-word.result
    c.requires.brings c.requires.root c.marked-word.ensures.names
