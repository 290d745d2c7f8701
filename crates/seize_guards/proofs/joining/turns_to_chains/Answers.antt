use Rattle.std.proofs.Common.{inl, inr, refl, ap, ◌∙◌}
use Rattle.std.specs.Prelude.{None}
use Rattle.seize_views.specs.Views.Stacking.{joining}
use Rattle.seize_views.specs.declared.view.SlotView.TheVariants.{Rests, Joins}
use Rattle.seize_callers.proofs.Resting.{at_rest}
use Rattle.seize_guards.proofs.Chains.{may_go, way_leans}
use Rattle.seize_guards.proofs.joining.turns_to_chains.Goals as goal

pub part-requires-clause-may : goal.part-requires-clause-may
part-requires-clause-may g c =
    let s = c.args.seat.now in let i = c.requires.rests in
    may_go g.T.Defers.defers c.args.blocks.now.words.fixed s.id s.view joining Rests (Joins None) i refl tt tt (inr (inl refl)) refl

pub part-requires-clause-errand : goal.part-requires-clause-errand
part-requires-clause-errand g c = λ home rests w so. let i = c.requires.rests in at_rest w.knows (Joins None) (so.0 ∙ ap joining i) tt

pub part-requires-clause-leans : goal.part-requires-clause-leans
part-requires-clause-leans g c = λ w so n leans. let i = c.requires.rests in absurd (way_leans w.knows (Joins None) n (so.0 ∙ ap joining i) (λ k. k) leans)

pub returns-clause-joins : goal.returns-clause-joins
returns-clause-joins g c = let i = c.requires.rests in c.part.ensures.goes.0 ∙ ap joining i
