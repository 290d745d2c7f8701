use Rattle.std.proofs.Common.{ap, ◌∙◌}
use Rattle.seize_views.specs.Views.Deferring.{cutting}
use Rattle.seize_views.specs.declared.view.Has.TheVariants.{Cut}
use Rattle.seize_views.specs.declared.view.SlotView.TheVariants.{Inside}
use Rattle.seize_guards.proofs.Chains.{way_leans}
use Rattle.seize_guards.proofs.Deferrals.{may_unlink}
use Rattle.seize_guards.proofs.deferring.unlinks.Goals as goal

pub part-requires-clause-may : goal.part-requires-clause-may
part-requires-clause-may g c =
    let s = c.args.seat.now in let i = c.requires.parts in
    may_unlink g.T.Defers.defers c.args.blocks.now.words.fixed s.id s.view c.args._slot c.args._seen c.args._block i.0 i.1 i.2

pub part-requires-clause-errand : goal.part-requires-clause-errand
part-requires-clause-errand g c = λ home rests w so. absurd (c.requires.away home)

pub part-requires-clause-leans : goal.part-requires-clause-leans
part-requires-clause-leans g c = λ w so n leans.
    let i = c.requires.parts in absurd (way_leans w.knows (Inside c.args._slot (Cut c.args._block)) n (so.0 ∙ ap cutting i.2) (λ x. x) leans)

pub returns-clause-cut : goal.returns-clause-cut
returns-clause-cut g c = let i = c.requires.parts in c.part.ensures.goes.0 ∙ ap cutting i.2
