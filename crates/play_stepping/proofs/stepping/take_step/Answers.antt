-- A call takes one step.
use Rattle.std.proofs.Common.{◌≡◌, sym, ap, subst}
use Rattle.run_executor.specs.Given.EffectsKnown.{known}
use Rattle.play_scheduler.specs.Given.LoggedCalling.{CallContinues, CallSteps}
use Rattle.play_scheduler.proofs.KeptGiven.{given_as}
use Rattle.run_sweeps.specs.Says.{callers_then, outcome_of}
use Rattle.play_stepping.proofs.EventSteps.ByName.{caller_here}
use Rattle.play_stepping.proofs.stepping.take_step.Goals as goal
use Rattle.play_scheduler.specs.Given.ScenesScene.{HasCall}

pub way_of-number-requires : goal.way_of-number-requires
way_of-number-requires g c = (c.requires.0, c.requires.1, c.requires.2)

pub step-requires : goal.step-requires
step-requires g c =
    let read = c.way_of-number.ensures c.requires.0 c.requires.1 c.requires.2 in
    (c.requires.3, c.requires.4, subst (λ n. HasCall c.requires.3 n) (ap (λ x. x.0) (sym read)) c.requires.5)

pub come_to-requires : goal.come_to-requires
come_to-requires g c = (c.requires.0, c.requires.1, c.requires.2)

pub returns-clause-stepped : goal.returns-clause-stepped
returns-clause-stepped g c = λ place placed.
    let d = c.requires.1 in
    let it = caller_here c.args.caller.now c.args.scheduler.now.calls place placed (c.requires.0, c.requires.1, c.requires.2) in
    let read = c.way_of-number.ensures place d it in
    let logged_is = ap (λ x. x.logged) c.come_to.ensures.rest in
    record {
      caller = d;
      at = it.1;
      said = c.in_ok-progress.progress;
      leads = λ name m s shown.
          subst (λ l. CallContinues g.K.PartialEq.eq (g.S.Hashes.hash c.args.scheduler.now.logged.executor.hasher) name m s d.number d.map c.in_ok-progress.progress c.args.effects.now.items
          c.step.new.effects.items c.args.scheduler.now.logged l) (sym logged_is)
          (subst (λ x. CallContinues g.K.PartialEq.eq (g.S.Hashes.hash c.args.scheduler.now.logged.executor.hasher) name m s x.0 x.1 c.in_ok-progress.progress c.args.effects.now.items c.step.new.effects.items
          c.args.scheduler.now.logged c.step.new.self) read (c.in_ok-progress.ensures.leads name m s shown));
      steps = subst (λ l. CallSteps g.K.PartialEq.eq (g.S.Hashes.hash c.args.scheduler.now.logged.executor.hasher) d.number d.map c.in_ok-progress.progress c.args.effects.now.items c.step.new.effects.items
          c.args.scheduler.now.logged l) (sym logged_is)
          (subst (λ x. CallSteps g.K.PartialEq.eq (g.S.Hashes.hash c.args.scheduler.now.logged.executor.hasher) x.0 x.1 c.in_ok-progress.progress c.args.effects.now.items c.step.new.effects.items
          c.args.scheduler.now.logged c.step.new.self) read c.in_ok-progress.ensures.steps);
      outcome_is = subst (λ l. c.come_to.result ≡ outcome_of (known l.notes) d.kind d.value c.in_ok-progress.progress) (sym logged_is) (c.come_to.ensures.outcome place d it);
      calls = subst (λ l. c.come_to.new.scheduler.calls ≡ callers_then (known l.notes) place d c.in_ok-progress.progress c.args.scheduler.now.calls) (sym logged_is)
          (c.come_to.ensures.calls place d it);
      rest = subst (λ l. c.come_to.new.scheduler ≡ record c.args.scheduler.now { logged = l; calls = c.come_to.new.scheduler.calls }) (sym logged_is) c.come_to.ensures.rest;
      given = given_as c.args.scheduler.now (record c.args.scheduler.now { logged = c.step.new.self; calls = c.come_to.new.scheduler.calls }) c.come_to.new.scheduler c.step.ensures.given
          c.come_to.ensures.rest;
    }

pub returns-clause-refused : goal.returns-clause-refused
returns-clause-refused g c = c.in_ok-progress.ensures.refused

pub returns-clause-given : goal.returns-clause-given
returns-clause-given g c =
    given_as c.args.scheduler.now (record c.args.scheduler.now { logged = c.step.new.self; calls = c.come_to.new.scheduler.calls }) c.come_to.new.scheduler c.step.ensures.given c.come_to.ensures.rest
