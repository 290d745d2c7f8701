use Rattle.std.proofs.Common.{refl}
use Rattle.seize_views.specs.declared.view.Has.TheVariants.{Made}
use Rattle.seize_callers.proofs.Calls.{is_shown}
use Rattle.seize_callers.proofs.caller.roots.Caller+T.own.Goals as goal

pub value-requires-clause-shown : goal.value-requires-clause-shown
value-requires-clause-shown g c =
    let x = c.args.self.now in
    is_shown g.T.Defers.defers x.blocks.now.words.fixed x.seat.id x.seat.view c.args._slot (Made c.args.block c.requires.made.0) c.args.block c.requires.made.1 refl
