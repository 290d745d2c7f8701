-- Straight code reclaims what it can after each step.
use Rattle.seize_callers.specs.Made.{IsAllowed, IsSettling, Task}
use Rattle.seize_callers.specs.Kept.{kept}
use Rattle.std.proofs.Common.{◌∙◌, arith}
use Rattle.seize_callers.proofs.Straight.{Comes, led, may_drop}
use Rattle.seize_callers.proofs.within.Within.settles.Given as given
use Rattle.seize_callers.proofs.within.Within.settles.Goals as goal
use Rattle.seize_callers.proofs.within.Within.settles.Goals.{After-reclaims}

pub reclaims-requires : goal.reclaims-requires
reclaims-requires g c =
    let i = c.loop-self.invariant.0 in
    may_drop g.T.Defers.defers (λ m. g.C.Content.notes m.seat.now.view) (λ m. g.C.Content.beside m.seat.now.view) (λ m. kept m.blocks m.seat.ghost_name m.seat.now.id m.seat.now.away) (λ m. IsAllowed g.C.Rule.holds g.C.Rule.keeps g.C.Content.notes g.C.Content.beside g.T.Defers.defers g.C.Rule.then m.blocks.now.words.fixed m.seat.now.id m.seat.now.view) i.0 c.steps.new.row c.steps.new.self
    (c.steps.ensures.settling i.0 i.1)

reclaimed : (g : given.Over) (c : After-reclaims g) (task : Task _) → IsSettling task c.loop-self.row (g.C.Content.notes c.loop-self.self.seat.now.view)
    → Comes g.T.Defers.defers (λ m. g.C.Content.notes m.seat.now.view) (λ m. g.C.Content.beside m.seat.now.view) (λ m. kept m.blocks m.seat.ghost_name m.seat.now.id m.seat.now.away) (λ m. IsAllowed g.C.Rule.holds g.C.Rule.keeps g.C.Content.notes g.C.Content.beside g.T.Defers.defers g.C.Rule.then m.blocks.now.words.fixed m.seat.now.id m.seat.now.view) task c.steps.new.row c.steps.new.self
    c.reclaims.new.settle c.reclaims.new.memory
reclaimed g c task is =
    led g.T.Defers.defers (λ m. g.C.Content.notes m.seat.now.view) (λ m. g.C.Content.beside m.seat.now.view) (λ m. kept m.blocks m.seat.ghost_name m.seat.now.id m.seat.now.away) (λ m. IsAllowed g.C.Rule.holds g.C.Rule.keeps g.C.Content.notes g.C.Content.beside g.T.Defers.defers g.C.Rule.then m.blocks.now.words.fixed m.seat.now.id m.seat.now.view) task c.steps.new.row c.reclaims.new.settle
    c.steps.new.self c.reclaims.new.memory c.reclaims.ensures (c.steps.ensures.settling task is)

pub loop-self-preserved : goal.loop-self-preserved
loop-self-preserved g c =
    let i = c.loop-self.invariant in let l = reclaimed g (goal.at.loop-self-preserved g c).After-reclaims in let k = l i.0.0 i.0.1 in (
      (i.0.0, k.0),
      λ task is. (l task (i.1 task is)).0,
      k.1 ∙ c.steps.ensures.slot ∙ i.2,
      k.2 ∙ c.steps.ensures.same ∙ i.3,
      k.4 ∙ c.steps.ensures.beside ∙ i.4,
    )

pub loop-self-smaller : goal.loop-self-smaller
loop-self-smaller g c =
    let i = c.loop-self.invariant in let k = reclaimed g (goal.at.loop-self-smaller g c).After-reclaims i.0.0 i.0.1 in
    let after = k.3 in let falls = c.steps.ensures.falls in omega (arith, after, falls)
