use Rattle.seize_guards.proofs.Chains.{may_copy}
use Rattle.seize_guards.proofs.walking.copies_link.Goals as goal

pub exchange-requires-clause-may : goal.exchange-requires-clause-may
exchange-requires-clause-may g c =
    let s = c.args.seat.now in may_copy g.T.Defers.defers c.args.blocks.now.words.fixed s.id s.view c.args._slot c.args.root c.args.old c.args.link c.requires.walks c.requires.some c.requires.root
