use Rattle.seize_callers.proofs.Deeds.{looked_noted}
use Rattle.seize_callers.proofs.Calls.{may_see, seen_told}
use Rattle.seize_callers.proofs.caller.roots.Caller+T.protect.Goals as goal

pub load-requires-clause-may : goal.load-requires-clause-may
load-requires-clause-may g c =
    let x = c.args.self.now in let i = c.requires.inside in
    may_see g.T.Defers.defers x.blocks.now.words.fixed x.seat.id x.seat.view c.args._slot i.0 c.args.root i.1 i.2 c.requires.root

pub returns-clause-seen : goal.returns-clause-seen
returns-clause-seen g c =
    let x = c.args.self.now in let i = c.requires.inside in
    seen_told g.T.Defers.defers x.seat.view.knows c.load.new.seat.view.knows c.args._slot i.0 c.args.root c.load.result i.1 i.2 c.load.ensures.goes.0

pub returns-clause-looked : goal.returns-clause-looked
returns-clause-looked g c =
    let x = c.args.self.now in let i = c.requires.inside in
    looked_noted x.seat.view.knows x.seat.view.did c.load.new.seat.view.did c.args._slot c.args.root 0 c.load.result i.0 i.2 c.load.ensures.goes.1
