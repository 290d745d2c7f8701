-- Driver by driver.
use Rattle.std.specs.List.{AllByRecursion}
use Rattle.std.proofs.Common.{◌≡◌, sym, subst, ◌∙◌}
use Rattle.run_names.specs.Crews.Crew.{HoldsJust, held_by, same_list}
use Rattle.run_names.proofs.finished.agree.Goals as goal

pub returns-else-holds_just : goal.returns-else-holds_just
returns-else-holds_just g c =
    let told : c.holds_just.result ≡ same_list g.R.Runner.same_event g.R.Runner.same_outcome (held_by c.in-Some.driver.now.number c.args.schedule.now c.args.outcomes.now) c.in-Some.driver.now.list =
    c.holds_just.ensures
    ∙ (λ i. same_list g.R.Runner.same_event g.R.Runner.same_outcome (held_by (c.number.ensures i) c.args.schedule.now c.args.outcomes.now) (c.list.ensures i)) in (
      λ no. absurd (cc no),
      λ all. sym c.if-holds_just.false ∙ told
          ∙ (subst (AllByRecursion (HoldsJust g.R.Runner.same_event g.R.Runner.same_outcome c.args.schedule.now c.args.outcomes.now)) c.in-Some.ensures.cases.0 (c.loop-driver.invariant.0 all)).0,
    )

pub loop-driver-preserved : goal.loop-driver-preserved
loop-driver-preserved g c =
    let told : c.holds_just.result ≡ same_list g.R.Runner.same_event g.R.Runner.same_outcome (held_by c.in-Some.driver.now.number c.args.schedule.now c.args.outcomes.now) c.in-Some.driver.now.list =
    c.holds_just.ensures
    ∙ (λ i. same_list g.R.Runner.same_event g.R.Runner.same_outcome (held_by (c.number.ensures i) c.args.schedule.now c.args.outcomes.now) (c.list.ensures i)) in (
      λ all. (subst (AllByRecursion (HoldsJust g.R.Runner.same_event g.R.Runner.same_outcome c.args.schedule.now c.args.outcomes.now)) c.in-Some.ensures.cases.0 (c.loop-driver.invariant.0 all)).1,
      λ rest. c.loop-driver.invariant.1
          (subst (AllByRecursion (HoldsJust g.R.Runner.same_event g.R.Runner.same_outcome c.args.schedule.now c.args.outcomes.now)) (sym c.in-Some.ensures.cases.0)
          (sym told ∙ c.if-holds_just.true, rest)),
    )
