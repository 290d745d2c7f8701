use Rattle.std.proofs.Common.{inl, refl, ap, ◌∙◌}
use Rattle.std.specs.Prelude.{None}
use Rattle.seize_views.specs.Views.Stacking.{walking}
use Rattle.seize_views.specs.declared.view.SlotView.TheVariants.{Inside}
use Rattle.seize_views.specs.declared.view.Has.TheVariants.{Walks}
use Rattle.seize_callers.proofs.Resting.{at_rest}
use Rattle.seize_guards.proofs.Chains.{may_go, way_leans, walks_next}
use Rattle.seize_guards.proofs.walking.walks.Goals as goal

pub part-requires-clause-may : goal.part-requires-clause-may
part-requires-clause-may g c =
    let s = c.args.seat.now in let i = c.requires.inside in
    may_go g.T.Defers.defers c.args.blocks.now.words.fixed s.id s.view walking (Inside c.args._slot i.0) (Inside c.args._slot (Walks 0 None)) i.2 refl tt tt (inl refl) (walks_next c.args._slot i.0 i.1)

pub part-requires-clause-errand : goal.part-requires-clause-errand
part-requires-clause-errand g c = λ home rests w so. let i = c.requires.inside in at_rest w.knows (Inside c.args._slot (Walks 0 None)) (so.0 ∙ ap walking i.2) tt

pub part-requires-clause-leans : goal.part-requires-clause-leans
part-requires-clause-leans g c = λ w so n leans. let i = c.requires.inside in absurd (way_leans w.knows (Inside c.args._slot (Walks 0 None)) n (so.0 ∙ ap walking i.2) (λ k. k) leans)

pub returns-clause-walks : goal.returns-clause-walks
returns-clause-walks g c = let i = c.requires.inside in c.part.ensures.goes.0 ∙ ap walking i.2
