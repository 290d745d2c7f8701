use Rattle.std.proofs.Common.{inl, subst}
use Rattle.seize_callers.proofs.Resting.{at_rest}
use Rattle.seize_views.specs.Views.Resting.{upright}
use Rattle.seize_views.specs.Views.Watched.{LeansOn}
use Rattle.seize_views.specs.declared.view.SlotView.{SlotView}
use Rattle.seize_views.specs.declared.view.SlotView.TheVariants.{Rests}
use Rattle.seize_views.proofs.Views.Guarding.{watches_end}
use Rattle.seize_callers.proofs.caller.watch.Caller+T.excuses.Goals as goal

pub meet-requires-clause-may : goal.meet-requires-clause-may
meet-requires-clause-may g c =
    let x = c.args.self.now in
    watches_end g.row.T.Denot g.T.Defers.defers x.blocks.now.words.fixed c.args.seat.now.id x.seat.id c.args._slot c.requires.watches.0 c.args.seat.now.view x.seat.view
    c.requires.watches.1 c.requires.inside

pub meet-requires-clause-errand : goal.meet-requires-clause-errand
meet-requires-clause-errand g c = λ p q so.
    (λ home rests. at_rest p.knows Rests so.0 tt, λ home rests. at_rest q.knows c.args.self.now.seat.view.knows so.2 rests)

pub meet-requires-clause-leans : goal.meet-requires-clause-leans
meet-requires-clause-leans g c = λ p q so. (
  λ n leans. absurd (upright p n (at_rest p.knows Rests so.0 tt) leans),
  λ n leans. inl (subst (λ (x : SlotView g.row.T.Denot). LeansOn x n) so.2 leans),
)
