use Rattle.seize_callers.proofs.Deeds.{marked_noted}
use Rattle.seize_callers.proofs.Calls.{may_mark, marked_told}
use Rattle.seize_callers.proofs.caller.roots.Caller+T.mark.Goals as goal

pub or-requires-clause-may : goal.or-requires-clause-may
or-requires-clause-may g c =
    let x = c.args.self.now in let i = c.requires.inside in
    may_mark g.T.Defers.defers x.blocks.now.words.fixed x.seat.id x.seat.view c.args._slot i.0 c.args.root c.args.bits i.1 i.2 c.requires.bits c.requires.root

pub returns-clause-seen : goal.returns-clause-seen
returns-clause-seen g c =
    let x = c.args.self.now in let i = c.requires.inside in
    marked_told g.T.Defers.defers x.seat.view.knows c.or.new.seat.view.knows c.args._slot i.0 c.args.root c.args.bits c.or.result i.1 i.2 c.or.ensures.goes.0

pub returns-clause-marked : goal.returns-clause-marked
returns-clause-marked g c =
    let x = c.args.self.now in let i = c.requires.inside in
    marked_noted x.seat.view.knows x.seat.view.did c.or.new.seat.view.did c.args._slot c.args.root 0 c.or.result i.0 c.args.bits i.2 c.or.ensures.goes.1
