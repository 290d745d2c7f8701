use Rattle.seize_guards.proofs.Chains.{may_see_link}
use Rattle.seize_guards.proofs.walking.sees_link.Goals as goal

pub load-requires-clause-may : goal.load-requires-clause-may
load-requires-clause-may g c =
    let s = c.args.seat.now in let i = c.requires.walks in may_see_link g.T.Defers.defers c.args.blocks.now.words.fixed s.id s.view c.args._slot c.args.block i.0 i.1 c.requires.some
