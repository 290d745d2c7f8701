use Rattle.std.proofs.Common.{ap, ◌∙◌}
use Rattle.seize_views.specs.Views.Deferring.{returning}
use Rattle.seize_views.specs.declared.view.Has.TheVariants.{Seen}
use Rattle.seize_views.specs.declared.view.SlotView.TheVariants.{Inside}
use Rattle.seize_guards.proofs.Chains.{way_leans}
use Rattle.seize_guards.proofs.Deferrals.{may_end}
use Rattle.seize_guards.proofs.deferring.ends.Goals as goal

pub part-requires-clause-may : goal.part-requires-clause-may
part-requires-clause-may g c =
    let s = c.args.seat.now in
    may_end g.T.Defers.defers c.args.blocks.now.words.fixed s.id s.view c.args._slot c.args._seen c.args._block c.args._field c.requires.over

pub part-requires-clause-errand : goal.part-requires-clause-errand
part-requires-clause-errand g c = λ home rests w so. absurd (c.requires.away home)

pub part-requires-clause-leans : goal.part-requires-clause-leans
part-requires-clause-leans g c = λ w so n leans.
    absurd (way_leans w.knows (Inside c.args._slot (Seen c.args._seen)) n (so.0 ∙ ap returning c.requires.over) (λ x. x) leans)

pub returns-clause-seen : goal.returns-clause-seen
returns-clause-seen g c = c.part.ensures.goes.0 ∙ ap returning c.requires.over
