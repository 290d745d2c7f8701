use Rattle.seize_guards.proofs.Chains.{is_met}
use Rattle.seize_guards.proofs.walking.met.Goals as goal

pub value-requires-clause-shown : goal.value-requires-clause-shown
value-requires-clause-shown g c =
    let s = c.args.seat.now in let i = c.requires.walks in is_met g.T.Defers.defers c.args.blocks.now.words.fixed s.id s.view c.args._slot c.args.block i.0 i.1 c.requires.some
