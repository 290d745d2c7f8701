use Rattle.std.proofs.Common.{refl}
use Rattle.seize_views.specs.declared.view.Has.TheVariants.{Seen}
use Rattle.seize_callers.proofs.Calls.{is_shown}
use Rattle.seize_callers.proofs.caller.roots.Caller+T.value.Goals as goal

pub value-requires-clause-shown : goal.value-requires-clause-shown
value-requires-clause-shown g c =
    let x = c.args.self.now in
    is_shown g.T.Defers.defers x.blocks.now.words.fixed x.seat.id x.seat.view c.args._slot (Seen c.args.block) c.args.block c.requires.seen refl
