use Rattle.std.proofs.Common.{inl, refl, ap, ◌∙◌}
use Rattle.seize_views.specs.Views.Stacking.{stopping}
use Rattle.seize_views.specs.declared.view.SlotView.TheVariants.{Inside}
use Rattle.seize_views.specs.declared.view.Has.TheVariants.{Nothing, Walks}
use Rattle.seize_callers.proofs.Resting.{at_rest}
use Rattle.seize_guards.proofs.Chains.{may_go, way_leans, stops_next}
use Rattle.seize_guards.proofs.walking.stops.Goals as goal

pub part-requires-clause-may : goal.part-requires-clause-may
part-requires-clause-may g c =
    let s = c.args.seat.now in let i = c.requires.walks in
    may_go g.T.Defers.defers c.args.blocks.now.words.fixed s.id s.view stopping (Inside c.args._slot (Walks i.0 i.1)) (Inside c.args._slot Nothing) i.2 refl tt tt (inl refl) (stops_next g.row.T.Denot c.args._slot i.0 i.1)

pub part-requires-clause-errand : goal.part-requires-clause-errand
part-requires-clause-errand g c = λ home rests w so. let i = c.requires.walks in at_rest w.knows (Inside c.args._slot Nothing) (so.0 ∙ ap stopping i.2) tt

pub part-requires-clause-leans : goal.part-requires-clause-leans
part-requires-clause-leans g c = λ w so n leans. let i = c.requires.walks in absurd (way_leans w.knows (Inside c.args._slot Nothing) n (so.0 ∙ ap stopping i.2) (λ k. k) leans)

pub returns-clause-inside : goal.returns-clause-inside
returns-clause-inside g c = let i = c.requires.walks in c.part.ensures.goes.0 ∙ ap stopping i.2
