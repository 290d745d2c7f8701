-- A walk takes steps to its next pair.
use Rattle.std.specs.Prelude.{suc, slice_get}
use Rattle.std.proofs.Common.{◌+◌, refl, sym, ap, subst, ◌∙◌, arith}
use Rattle.std.proofs.lemmas.List.{append-nil}
use Rattle.play_scheduler.proofs.Given.ShedsKeptGiven.{given_on}
use Rattle.play_scheduler.specs.Given.LoggedCalling.{CallContinues, CallSteps}
use Rattle.play_scheduler.specs.Given.LoggedShown.{IsShown}
use Rattle.play_stepping.specs.EventSteps.Stepping.{ReadyAt}
use Rattle.play_stepping.proofs.EventSteps.NextOn.{logged_on, may_walk, mid_few, mid_first, mid_next}
use Rattle.play_stepping.proofs.walking.walk_on.Goals as goal
use Rattle.run_executor.specs.Executing.IsThere.{IsThere}
use Rattle.play_scheduler.specs.Given.ScenesScene.{HasCall}
use Rattle.seize_words.proofs.General.{same_some as the}

pub way_of-number-requires : goal.way_of-number-requires
way_of-number-requires g c = let r = c.requires in (r.2, r.4.1, (r.4.0, r.4.2))

pub loop-steps-init : goal.loop-steps-init
loop-steps-init g c = (
  0,
  refl,
  refl,
  (refl, refl, refl, refl),
  λ place placed terms m own stands at. mid_first g.K.PartialEq.eq (g.S.Hashes.hash c.args.scheduler.now.logged.executor.hasher) terms own place m c.args.scheduler.now stands at c.args.effects.now.items
      (sym (append-nil c.args.effects.now.items)),
  0,
  refl,
  λ place placed. (refl, refl),
)

pub step-requires : goal.step-requires
step-requires g c =
    let r = c.requires in
    let i = c.loop-steps.invariant in
    let there = ap (λ p. slice_get p.calls r.2) i.2 ∙ r.4.2 in
    let read = c.way_of-number.ensures r.2 r.4.1 (r.4.0, r.4.2) in
    let may = may_walk g.K.PartialEq.eq (g.S.Hashes.hash c.args.scheduler.now.logged.executor.hasher) r.0 c.args.caller.now r.2 r.1 i.0 c.args.effects.now.items c.loop-steps.effects.items c.loop-steps.scheduler
    (i.4 r.2 r.4.0 r.0 r.1 c.args.caller.now r.3 r.4) r.4.1 there in
    (may.0, subst (λ h. IsThere g.K.PartialEq.eq (g.S.Hashes.hash h) c.loop-steps.scheduler.logged.executor may.0) (sym i.3.0) may.1, subst (λ x. HasCall may.0 x.0) (sym read) may.2)

pub returns-then-not-just_goes-clause-comes : goal.returns-then-not-just_goes-clause-comes
returns-then-not-just_goes-clause-comes g c = λ place placed.
    let r = c.requires in
    let i = c.loop-steps.invariant in
    let ready = subst (λ k. ReadyAt c.args.caller.now k c.args.scheduler.now) (the r.2 place (r.4.0 ∙ sym placed)) r.4 in
    let there = ap (λ p. slice_get p.calls place) i.2 ∙ ready.2 in
    let read = c.way_of-number.ensures place ready.1 (placed, ready.2) in (
      λ goes. (let holds = c.just_goes.ensures.0 goes in let fails = c.if-not-just_goes.true in cc (holds, fails)),
      i.0,
      i.1,
      c.loop-steps.effects.items,
      c.loop-steps.scheduler,
      record {
        caller = ready.1;
        at = there;
        leads = λ name m s shown.
            subst (λ x. CallContinues g.K.PartialEq.eq (g.S.Hashes.hash c.args.scheduler.now.logged.executor.hasher) name m s x.0 x.1 c.in_ok-progress.progress c.loop-steps.effects.items c.step.new.effects.items
            c.loop-steps.scheduler.logged c.step.new.self) read
            (subst (λ h. CallContinues g.K.PartialEq.eq (g.S.Hashes.hash h) name m s c.way_of-number.result.0 c.way_of-number.result.1 c.in_ok-progress.progress c.loop-steps.effects.items c.step.new.effects.items
            c.loop-steps.scheduler.logged c.step.new.self) i.3.0 (c.in_ok-progress.ensures.leads name m s (subst (λ h. IsShown g.K.PartialEq.eq (g.S.Hashes.hash h) name m c.loop-steps.scheduler.logged s) (sym i.3.0) shown)));
        steps = subst (λ x. CallSteps g.K.PartialEq.eq (g.S.Hashes.hash c.args.scheduler.now.logged.executor.hasher) x.0 x.1 c.in_ok-progress.progress c.loop-steps.effects.items c.step.new.effects.items
            c.loop-steps.scheduler.logged c.step.new.self) read
            (subst (λ h. CallSteps g.K.PartialEq.eq (g.S.Hashes.hash h) c.way_of-number.result.0 c.way_of-number.result.1 c.in_ok-progress.progress c.loop-steps.effects.items c.step.new.effects.items
            c.loop-steps.scheduler.logged c.step.new.self) i.3.0 c.in_ok-progress.ensures.steps);
        rest = refl;
        given = c.step.ensures.given;
      },
      i.4 place placed,
      i.5,
      i.6,
      i.7 place placed,
    )

pub loop-steps-preserved : goal.loop-steps-preserved
loop-steps-preserved g c =
    let r = c.requires in
    let i = c.loop-steps.invariant in
    let goes = c.just_goes.ensures.1 c.if-not-just_goes.false in (
      i.0 + 1,
      ap (λ k. k + 1) i.1,
      logged_on c.loop-steps.scheduler c.args.scheduler.now c.step.new.self i.2,
      given_on c.args.scheduler.now.logged.executor c.loop-steps.scheduler.logged.executor c.step.new.self.executor i.3 c.step.ensures.given,
      λ place placed terms m own stands at.
          let ready = subst (λ k. ReadyAt c.args.caller.now k c.args.scheduler.now) (the r.2 place (r.4.0 ∙ sym placed)) r.4 in
          let there = ap (λ p. slice_get p.calls place) i.2 ∙ ready.2 in
          let read = c.way_of-number.ensures place ready.1 (placed, ready.2) in
          mid_next g.K.PartialEq.eq (g.S.Hashes.hash c.args.scheduler.now.logged.executor.hasher) terms own place m i.0 c.args.effects.now.items c.loop-steps.effects.items
          c.step.new.effects.items c.loop-steps.scheduler (record c.loop-steps.scheduler { logged = c.step.new.self }) (i.4 place placed terms m own stands at) (record {
            caller = ready.1;
            at = there;
            leads = λ name m2 s shown.
                subst (λ said. CallContinues g.K.PartialEq.eq (g.S.Hashes.hash c.args.scheduler.now.logged.executor.hasher) name m2 s ready.1.number ready.1.map said c.loop-steps.effects.items c.step.new.effects.items
                c.loop-steps.scheduler.logged c.step.new.self) goes
                (subst (λ x. CallContinues g.K.PartialEq.eq (g.S.Hashes.hash c.args.scheduler.now.logged.executor.hasher) name m2 s x.0 x.1 c.in_ok-progress.progress c.loop-steps.effects.items c.step.new.effects.items
                c.loop-steps.scheduler.logged c.step.new.self) read
                (subst (λ h. CallContinues g.K.PartialEq.eq (g.S.Hashes.hash h) name m2 s c.way_of-number.result.0 c.way_of-number.result.1 c.in_ok-progress.progress c.loop-steps.effects.items c.step.new.effects.items
                c.loop-steps.scheduler.logged c.step.new.self) i.3.0 (c.in_ok-progress.ensures.leads name m2 s (subst (λ h. IsShown g.K.PartialEq.eq (g.S.Hashes.hash h) name m2 c.loop-steps.scheduler.logged s) (sym i.3.0) shown))));
            steps = subst (λ said. CallSteps g.K.PartialEq.eq (g.S.Hashes.hash c.args.scheduler.now.logged.executor.hasher) ready.1.number ready.1.map said c.loop-steps.effects.items c.step.new.effects.items
                c.loop-steps.scheduler.logged c.step.new.self) goes
                (subst (λ x. CallSteps g.K.PartialEq.eq (g.S.Hashes.hash c.args.scheduler.now.logged.executor.hasher) x.0 x.1 c.in_ok-progress.progress c.loop-steps.effects.items c.step.new.effects.items
                c.loop-steps.scheduler.logged c.step.new.self) read
                (subst (λ h. CallSteps g.K.PartialEq.eq (g.S.Hashes.hash h) c.way_of-number.result.0 c.way_of-number.result.1 c.in_ok-progress.progress c.loop-steps.effects.items c.step.new.effects.items
                c.loop-steps.scheduler.logged c.step.new.self) i.3.0 c.in_ok-progress.ensures.steps));
            rest = refl;
            given = c.step.ensures.given;
          }),
      suc i.5,
      (let is = i.6 in omega (arith, is)),
      λ place placed.
          let ready = subst (λ k. ReadyAt c.args.caller.now k c.args.scheduler.now) (the r.2 place (r.4.0 ∙ sym placed)) r.4 in
          let there = ap (λ p. slice_get p.calls place) i.2 ∙ ready.2 in
          let read = c.way_of-number.ensures place ready.1 (placed, ready.2) in (
            c.loop-steps.effects.items,
            c.loop-steps.scheduler,
            i.7 place placed,
            record {
              caller = ready.1;
              at = there;
              leads = λ name m s shown.
                  subst (λ said. CallContinues g.K.PartialEq.eq (g.S.Hashes.hash c.args.scheduler.now.logged.executor.hasher) name m s ready.1.number ready.1.map said c.loop-steps.effects.items c.step.new.effects.items
                  c.loop-steps.scheduler.logged c.step.new.self) goes
                  (subst (λ x. CallContinues g.K.PartialEq.eq (g.S.Hashes.hash c.args.scheduler.now.logged.executor.hasher) name m s x.0 x.1 c.in_ok-progress.progress c.loop-steps.effects.items c.step.new.effects.items
                  c.loop-steps.scheduler.logged c.step.new.self) read
                  (subst (λ h. CallContinues g.K.PartialEq.eq (g.S.Hashes.hash h) name m s c.way_of-number.result.0 c.way_of-number.result.1 c.in_ok-progress.progress c.loop-steps.effects.items c.step.new.effects.items
                  c.loop-steps.scheduler.logged c.step.new.self) i.3.0 (c.in_ok-progress.ensures.leads name m s (subst (λ h. IsShown g.K.PartialEq.eq (g.S.Hashes.hash h) name m c.loop-steps.scheduler.logged s) (sym i.3.0) shown))));
              steps = subst (λ said. CallSteps g.K.PartialEq.eq (g.S.Hashes.hash c.args.scheduler.now.logged.executor.hasher) ready.1.number ready.1.map said c.loop-steps.effects.items c.step.new.effects.items
                  c.loop-steps.scheduler.logged c.step.new.self) goes
                  (subst (λ x. CallSteps g.K.PartialEq.eq (g.S.Hashes.hash c.args.scheduler.now.logged.executor.hasher) x.0 x.1 c.in_ok-progress.progress c.loop-steps.effects.items c.step.new.effects.items
                  c.loop-steps.scheduler.logged c.step.new.self) read
                  (subst (λ h. CallSteps g.K.PartialEq.eq (g.S.Hashes.hash h) c.way_of-number.result.0 c.way_of-number.result.1 c.in_ok-progress.progress c.loop-steps.effects.items c.step.new.effects.items
                  c.loop-steps.scheduler.logged c.step.new.self) i.3.0 c.in_ok-progress.ensures.steps));
              rest = refl;
              given = c.step.ensures.given;
            },
          ),
    )

pub unreachable-requires : goal.unreachable-requires
unreachable-requires g c =
    let r = c.requires in
    let i = c.loop-steps.invariant in
    let few = mid_few g.K.PartialEq.eq (g.S.Hashes.hash c.args.scheduler.now.logged.executor.hasher) r.0 c.args.caller.now r.2 r.1 i.0 c.args.effects.now.items c.loop-steps.effects.items c.loop-steps.scheduler
    (i.4 r.2 r.4.0 r.0 r.1 c.args.caller.now r.3 r.4) in
    let ended = c.loop-steps-test.false in
    let is = i.1 in
    omega (arith, ended, is, few)

pub returns-in_err-progress-clause-given : goal.returns-in_err-progress-clause-given
returns-in_err-progress-clause-given g c = given_on c.args.scheduler.now.logged.executor c.loop-steps.scheduler.logged.executor c.step.new.self.executor c.loop-steps.invariant.3 c.step.ensures.given

pub returns-then-not-just_goes-clause-given : goal.returns-then-not-just_goes-clause-given
returns-then-not-just_goes-clause-given g c = given_on c.args.scheduler.now.logged.executor c.loop-steps.scheduler.logged.executor c.step.new.self.executor c.loop-steps.invariant.3 c.step.ensures.given
