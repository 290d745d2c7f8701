use Rattle.seize_callers.proofs.Owning.{is_brought, brought_value}
use Rattle.seize_callers.proofs.caller.alone.Caller+T.brought.Goals as goal

pub value-requires-clause-shown : goal.value-requires-clause-shown
value-requires-clause-shown g c =
    let x = c.args.self.now in is_brought g.T.Defers.defers x.blocks.now.words.fixed x.seat.id x.seat.view c.args.block c.requires.brings

pub returns : goal.returns
returns g c =
    let x = c.args.self.now in
    record { same = λ value is. brought_value g.T.Defers.defers x.blocks.now.words.fixed x.seat.id x.seat.view c.args.block value c.value.result.now is c.value.ensures }
