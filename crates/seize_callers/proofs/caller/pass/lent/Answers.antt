use Rattle.std.proofs.Common.{ap, sym, ◌∙◌}
use Rattle.seize_views.specs.declared.view.SlotView.TheVariants.{Under}
use Rattle.seize_views.proofs.Views.Notes.{comings_are_noted}
use Rattle.seize_views.proofs.Views.Passing.{leanings_keep, kept_are_there}
use Rattle.seize_callers.proofs.caller.pass.lent.Goals as goal

pub value_by-requires-clause-own : goal.value_by-requires-clause-own
value_by-requires-clause-own g c = (c.requires.own.0, c.requires.own.1, c.requires.own.1)

pub value_by-requires-clause-kept : goal.value_by-requires-clause-kept
value_by-requires-clause-kept g c =
    let s = c.args.seat.now in let k = c.args.guard.now in let n = c.in_ok-block.ensures.some in
    leanings_keep g.row.T.Denot g.T.Defers.defers c.args.blocks.now.words.fixed s.id k.id c.requires.under.0 c.in_ok-block.block s.view k.view
    (c.requires.under.1 ∙ ap (Under k.id c.requires.under.0) (sym n.0)) n.2

pub value_by-requires-clause-there : goal.value_by-requires-clause-there
value_by-requires-clause-there g c = kept_are_there g.row.T.Denot g.T.Defers.defers c.args.blocks.now.words.fixed

pub value_by-requires-clause-comes : goal.value_by-requires-clause-comes
value_by-requires-clause-comes g c = comings_are_noted g.row.T.Denot g.T.Defers.defers c.args.blocks.now.words.fixed
