use Rattle.seize_guards.proofs.Chains.{may_see_first}
use Rattle.seize_guards.proofs.walking.sees_first.Goals as goal

pub load-requires-clause-may : goal.load-requires-clause-may
load-requires-clause-may g c =
    let s = c.args.seat.now in let i = c.requires.walks in may_see_first g.T.Defers.defers c.args.blocks.now.words.fixed s.id s.view c.args._slot i.0 c.args.root i.1 i.2 c.requires.root
