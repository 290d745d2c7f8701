use Rattle.seize_callers.proofs.Owning.{may_take_own, own_rests_told}
use Rattle.seize_callers.proofs.caller.alone.Caller+T.takes_back.Goals as goal

pub take-requires-clause-may : goal.take-requires-clause-may
take-requires-clause-may g c =
    let x = c.args.self.now in may_take_own g.T.Defers.defers x.blocks.now.words.fixed x.seat.id x.seat.view c.args.block c.requires.brings

pub returns-clause-rests : goal.returns-clause-rests
returns-clause-rests g c =
    own_rests_told g.T.Defers.defers c.args.self.now.seat.view.knows c.take.new.seat.view.knows c.args.block c.take.result c.requires.brings c.take.ensures.goes.0
