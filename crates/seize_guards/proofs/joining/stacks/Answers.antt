use Rattle.seize_guards.proofs.Chains.{may_stack}
use Rattle.seize_guards.proofs.joining.stacks.Goals as goal

pub exchange-requires-clause-may : goal.exchange-requires-clause-may
exchange-requires-clause-may g c =
    let s = c.args.seat.now in
    may_stack g.T.Defers.defers c.args.blocks.now.words.fixed s.id s.view c.args.block c.args.root c.args.old c.marked-word.result c.requires.joins c.requires.root c.marked-word.ensures.names
