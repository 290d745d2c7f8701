use Rattle.seize_callers.proofs.Calls.{may_take_beside}
use Rattle.seize_callers.proofs.caller.roots.Caller+T.take_beside.Goals as goal

pub take-requires-clause-may : goal.take-requires-clause-may
take-requires-clause-may g c =
    let x = c.args.self.now in
    may_take_beside g.T.Defers.defers x.blocks.now.words.fixed x.seat.id x.seat.view c.args._slot c.args.block c.requires.has.0 c.args._seen c.requires.has.1
