use Rattle.std.proofs.Common.{inl, refl, ap, ◌∙◌}
use Rattle.std.specs.Prelude.{Some, None}
use Rattle.seize_views.specs.Views.Stacking.{going}
use Rattle.seize_views.specs.declared.view.SlotView.TheVariants.{Inside}
use Rattle.seize_views.specs.declared.view.Has.TheVariants.{Walks}
use Rattle.seize_callers.proofs.Resting.{at_rest}
use Rattle.seize_guards.proofs.Chains.{may_go, way_leans}
use Rattle.seize_guards.proofs.walking.goes_down.Goals as goal

pub part-requires-clause-may : goal.part-requires-clause-may
part-requires-clause-may g c =
    let s = c.args.seat.now in let i = c.requires.walks in
    may_go g.T.Defers.defers c.args.blocks.now.words.fixed s.id s.view going (Inside c.args._slot (Walks c.args._block (Some c.args._next))) (Inside c.args._slot (Walks c.args._next None)) i refl tt tt (inl refl) (inl refl)

pub part-requires-clause-errand : goal.part-requires-clause-errand
part-requires-clause-errand g c = λ home rests w so. let i = c.requires.walks in at_rest w.knows (Inside c.args._slot (Walks c.args._next None)) (so.0 ∙ ap going i) tt

pub part-requires-clause-leans : goal.part-requires-clause-leans
part-requires-clause-leans g c = λ w so n leans. let i = c.requires.walks in absurd (way_leans w.knows (Inside c.args._slot (Walks c.args._next None)) n (so.0 ∙ ap going i) (λ k. k) leans)

pub returns-clause-walks : goal.returns-clause-walks
returns-clause-walks g c = let i = c.requires.walks in c.part.ensures.goes.0 ∙ ap going i
