-- A call takes steps while it goes on.
use Rattle.std.proofs.Common.{◌+◌, suc, refl, sym, ap, subst, ◌∙◌, arith}
use Rattle.std.proofs.lemmas.List.{append-nil}
use Rattle.play_scheduler.proofs.Given.ShedsKeptGiven.{given_on}
use Rattle.play_stepping.specs.EventSteps.Stepping.{IsStepped, MayStep}
use Rattle.play_stepping.proofs.EventSteps.ComesOn.{midst_first}
use Rattle.play_stepping.proofs.EventSteps.StepsOn.{goes_further, may_step, placed_on, stops_at, takes_all}
use Rattle.play_stepping.proofs.stepping.go_on.Goals as goal

pub loop-steps-init : goal.loop-steps-init
loop-steps-init g c = (
  0,
  refl,
  (refl, refl, refl, refl),
  λ place placed terms m own stands at. midst_first g.K.PartialEq.eq (g.S.Hashes.hash c.args.scheduler.now.logged.executor.hasher) terms own place m c.args.scheduler.now stands at c.args.effects.now.items
      (sym (append-nil c.args.effects.now.items)),
  0,
  refl,
  λ place placed. (refl, refl),
  λ refused. refl,
)

pub take_step-requires : goal.take_step-requires
take_step-requires g c =
    let r = c.requires.goes in
    let i = c.loop-steps.invariant in
    subst (λ h. MayStep g.K.PartialEq.eq (g.S.Hashes.hash h) c.args.caller.now c.loop-steps.scheduler) (sym i.2.0)
    (may_step g.K.PartialEq.eq (g.S.Hashes.hash c.args.scheduler.now.logged.executor.hasher) r.2 c.args.scheduler.now c.args.effects.now.items r.0 r.1 c.args.caller.now r.3 r.4 i.0 c.loop-steps.effects.items
    c.loop-steps.scheduler (i.3 r.2 r.4.0))

pub returns-then-not-goes_on-clause-comes : goal.returns-then-not-goes_on-clause-comes
returns-then-not-goes_on-clause-comes g c = λ place placed.
    let i = c.loop-steps.invariant in
    let hash = g.S.Hashes.hash c.args.scheduler.now.logged.executor.hasher in
    let on = placed_on g.K.PartialEq.eq hash place c.args.scheduler.now c.args.effects.now.items c.args.caller.now c.requires.goes placed i.0 c.loop-steps.effects.items c.loop-steps.scheduler (i.3 place placed) in
    stops_at g.K.PartialEq.eq hash place c.args.scheduler.now c.args.effects.now.items i.0 c.loop-steps.effects.items c.take_step.new.effects.items
    c.loop-steps.scheduler c.take_step.new.scheduler c.in_ok-outcome.outcome (i.3 place placed)
    (subst (λ h. IsStepped g.K.PartialEq.eq (g.S.Hashes.hash h) place c.in_ok-outcome.outcome c.loop-steps.effects.items c.take_step.new.effects.items c.loop-steps.scheduler c.take_step.new.scheduler) i.2.0
    (c.in_ok-outcome.ensures.stepped place on))
    c.args.most c.loop-steps.steps i.1 c.loop-steps-test.true (sym c.goes_on.ensures ∙ c.if-not-goes_on.true) i.4 i.5 (i.6 place placed)

pub loop-steps-preserved : goal.loop-steps-preserved
loop-steps-preserved g c =
    let i = c.loop-steps.invariant in
    let hash = g.S.Hashes.hash c.args.scheduler.now.logged.executor.hasher in (
      i.0 + 1,
      ap (λ k. k + 1) i.1,
      given_on c.args.scheduler.now.logged.executor c.loop-steps.scheduler.logged.executor c.take_step.new.scheduler.logged.executor i.2 c.take_step.ensures.given,
      λ place placed.
          let on = placed_on g.K.PartialEq.eq hash place c.args.scheduler.now c.args.effects.now.items c.args.caller.now c.requires.goes placed i.0 c.loop-steps.effects.items c.loop-steps.scheduler (i.3 place placed) in
          goes_further g.K.PartialEq.eq hash place c.args.scheduler.now c.args.effects.now.items i.0 c.loop-steps.effects.items c.take_step.new.effects.items
          c.loop-steps.scheduler c.take_step.new.scheduler c.in_ok-outcome.outcome (i.3 place placed)
          (subst (λ h. IsStepped g.K.PartialEq.eq (g.S.Hashes.hash h) place c.in_ok-outcome.outcome c.loop-steps.effects.items c.take_step.new.effects.items c.loop-steps.scheduler c.take_step.new.scheduler) i.2.0
          (c.in_ok-outcome.ensures.stepped place on))
          (sym c.goes_on.ensures ∙ c.if-not-goes_on.false),
      suc i.4,
      (let is = i.5 in omega (arith, is)),
      λ place placed.
          let on = placed_on g.K.PartialEq.eq hash place c.args.scheduler.now c.args.effects.now.items c.args.caller.now c.requires.goes placed i.0 c.loop-steps.effects.items c.loop-steps.scheduler (i.3 place placed) in (
            c.loop-steps.effects.items,
            c.loop-steps.scheduler,
            c.in_ok-outcome.outcome,
            i.6 place placed,
            sym c.goes_on.ensures ∙ c.if-not-goes_on.false,
            subst (λ h. IsStepped g.K.PartialEq.eq (g.S.Hashes.hash h) place c.in_ok-outcome.outcome c.loop-steps.effects.items c.take_step.new.effects.items c.loop-steps.scheduler c.take_step.new.scheduler) i.2.0
                (c.in_ok-outcome.ensures.stepped place on),
          ),
      λ refused. c.in_ok-outcome.ensures.refused refused ∙ i.7 refused,
    )

pub take_step-requires-2 : goal.take_step-requires-2
take_step-requires-2 g c =
    let r = c.requires.goes in
    let i = c.loop-steps.invariant in
    subst (λ h. MayStep g.K.PartialEq.eq (g.S.Hashes.hash h) c.args.caller.now c.loop-steps.scheduler) (sym i.2.0)
    (may_step g.K.PartialEq.eq (g.S.Hashes.hash c.args.scheduler.now.logged.executor.hasher) r.2 c.args.scheduler.now c.args.effects.now.items r.0 r.1 c.args.caller.now r.3 r.4 i.0 c.loop-steps.effects.items
    c.loop-steps.scheduler (i.3 r.2 r.4.0))

pub returns-clause-comes : goal.returns-clause-comes
returns-clause-comes g c = λ place placed.
    let i = c.loop-steps.invariant in
    let hash = g.S.Hashes.hash c.args.scheduler.now.logged.executor.hasher in
    let ended = c.loop-steps-test.false in
    let few = c.loop-steps.auto.steps-end c.requires.some in
    let is = i.1 in
    let on = placed_on g.K.PartialEq.eq hash place c.args.scheduler.now c.args.effects.now.items c.args.caller.now c.requires.goes placed i.0 c.loop-steps.effects.items c.loop-steps.scheduler (i.3 place placed) in
    takes_all g.K.PartialEq.eq hash place c.args.scheduler.now c.args.effects.now.items i.0 c.loop-steps.effects.items c.take_step-2.new.effects.items
    c.loop-steps.scheduler c.take_step-2.new.scheduler c.in_ok-outcome-2.outcome (i.3 place placed)
    (subst (λ h. IsStepped g.K.PartialEq.eq (g.S.Hashes.hash h) place c.in_ok-outcome-2.outcome c.loop-steps.effects.items c.take_step-2.new.effects.items c.loop-steps.scheduler c.take_step-2.new.scheduler) i.2.0
    (c.in_ok-outcome-2.ensures.stepped place on))
    c.args.most (omega (arith, ended, few, is)) i.4 (let kept = i.5 in omega (arith, ended, few, kept)) (i.6 place placed)

pub returns-then-not-goes_on-clause-refused : goal.returns-then-not-goes_on-clause-refused
returns-then-not-goes_on-clause-refused g c = λ refused. c.in_ok-outcome.ensures.refused refused ∙ c.loop-steps.invariant.7 refused

pub returns-clause-refused : goal.returns-clause-refused
returns-clause-refused g c = λ refused. c.in_ok-outcome-2.ensures.refused refused ∙ c.loop-steps.invariant.7 refused

pub returns-in_err-outcome-clause-given : goal.returns-in_err-outcome-clause-given
returns-in_err-outcome-clause-given g c = given_on c.args.scheduler.now.logged.executor c.loop-steps.scheduler.logged.executor c.take_step.new.scheduler.logged.executor c.loop-steps.invariant.2 c.take_step.ensures.given

pub returns-then-not-goes_on-clause-given : goal.returns-then-not-goes_on-clause-given
returns-then-not-goes_on-clause-given g c = given_on c.args.scheduler.now.logged.executor c.loop-steps.scheduler.logged.executor c.take_step.new.scheduler.logged.executor c.loop-steps.invariant.2 c.take_step.ensures.given

pub returns-in_err-outcome-2-clause-given : goal.returns-in_err-outcome-2-clause-given
returns-in_err-outcome-2-clause-given g c = given_on c.args.scheduler.now.logged.executor c.loop-steps.scheduler.logged.executor c.take_step-2.new.scheduler.logged.executor c.loop-steps.invariant.2 c.take_step-2.ensures.given

pub returns-clause-given : goal.returns-clause-given
returns-clause-given g c = given_on c.args.scheduler.now.logged.executor c.loop-steps.scheduler.logged.executor c.take_step-2.new.scheduler.logged.executor c.loop-steps.invariant.2 c.take_step-2.ensures.given
