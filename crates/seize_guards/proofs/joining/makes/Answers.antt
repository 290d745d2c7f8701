use Rattle.seize_guards.proofs.Chains.{may_join}
use Rattle.seize_guards.proofs.joining.makes.Goals as goal

pub make-requires-clause-may : goal.make-requires-clause-may
make-requires-clause-may g c =
    let s = c.args.seat.now in may_join g.T.Defers.defers c.args.blocks.now.words.fixed s.id s.view c.requires.joins c.args.value c.args.words c.requires.list c.requires.long c.requires.link
