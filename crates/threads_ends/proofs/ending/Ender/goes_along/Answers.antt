use Rattle.std.proofs.Common.{arith, refl, sym, subst, ◌∙◌}
use Rattle.seize.specs.declared.rows.settle.Settled.{Settled}
use Rattle.map_tables.specs.declared.node.Node.{Node}
use Rattle.threads_ends.specs.Ending.{EndedSo}
use Rattle.threads_ends.proofs.Ends.{along_less, stays_on, stays_there}
use Rattle.threads_ends.proofs.ending.Ender.goes_along.Goals as goal

pub list-init : goal.list-init
list-init g c = (c.requires.ends, omega arith, stays_there c.args.self.now.within.seat.now.view, refl)

pub list-preserved : goal.list-preserved
list-preserved g c =
    let v = c.list.self.within.seat.now.view in let w = c.steps.new.self.within.seat.now.view in
    let on = sym c.follows.ensures ∙ c.list-test.true in
    let goes = c.steps.ensures.along on in
    let less = along_less c.list.machine c.steps.new.machine c.steps.result v w on goes c.steps.ensures.left in
    let before = c.list.invariant.1 in
    let now = less.0 in (
      subst (λ (t : Settled (Node g.row.K.Denot g.row.V.Denot)). EndedSo c.steps.new.machine t w) goes c.steps.ensures.told,
      omega (arith, before, now),
      stays_on c.args.self.now.within.seat.now.view v w c.list.invariant.2 c.steps.ensures.stays,
      c.steps.ensures.same ∙ c.list.invariant.3,
    )

pub list-smaller : goal.list-smaller
list-smaller g c =
    let on = sym c.follows.ensures ∙ c.list-test.true in
    (along_less c.list.machine c.steps.new.machine c.steps.result c.list.self.within.seat.now.view c.steps.new.self.within.seat.now.view on (c.steps.ensures.along on) c.steps.ensures.left).1

pub returns-clause-off : goal.returns-clause-off
returns-clause-off g c = sym c.follows.ensures ∙ c.list-test.false
