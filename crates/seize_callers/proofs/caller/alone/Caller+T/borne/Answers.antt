use Rattle.seize_callers.proofs.Owning.{is_borne}
use Rattle.seize_callers.proofs.caller.alone.Caller+T.borne.Goals as goal

pub value-requires-clause-shown : goal.value-requires-clause-shown
value-requires-clause-shown g c =
    let x = c.args.self.now in is_borne g.T.Defers.defers x.blocks.now.words.fixed x.seat.id x.seat.view c.args.block c.requires.bears
