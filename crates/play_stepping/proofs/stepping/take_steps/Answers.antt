-- A call takes steps, or says again that it asks, or is ready.
use Rattle.std.specs.List.{list_any}
use Rattle.std.proofs.Common.{refl, sym, ap, subst, ◌∙◌}
use Rattle.run_schedules.specs.Schedules.Handing.{is_made}
use Rattle.play_stepping.specs.EventSteps.Stepping.{StepsCome, TakenBy}
use Rattle.play_scheduler.proofs.Here.{here_at}
use Rattle.play_stepping.proofs.stepping.take_steps.Goals as goal

pub far_of-requires : goal.far_of-requires
far_of-requires g c =
    let r = c.requires.stands in
    let here = here_at g.K.PartialEq.eq (g.S.Hashes.hash c.args.scheduler.now.logged.executor.hasher) r.0 r.1 c.args.scheduler.now r.3 c.args.caller.now r.2 r.4 in
    (r.2, here.caller, (r.4, here.at))

pub returns-in-Asks-clause-taken : goal.returns-in-Asks-clause-taken
returns-in-Asks-clause-taken g c = λ place placed d at.
    let stands = sym (c.far_of.ensures place d (placed, at)) ∙ c.in-Asks.is in
    subst (λ h. TakenBy g.K.PartialEq.eq (g.S.Hashes.hash c.args.scheduler.now.logged.executor.hasher) place c.args.most h c.quietly.result c.args.scheduler.now c.args.scheduler.now) (sym stands)
    (c.quietly.ensures.outcome, c.quietly.ensures.steps, c.quietly.ensures.effects, refl)

pub returns-in-Ready-clause-taken : goal.returns-in-Ready-clause-taken
returns-in-Ready-clause-taken g c = λ place placed d at.
    let stands = sym (c.far_of.ensures place d (placed, at)) ∙ c.in-Ready.is in
    subst (λ h. TakenBy g.K.PartialEq.eq (g.S.Hashes.hash c.args.scheduler.now.logged.executor.hasher) place c.args.most h c.quietly-in-Ready.result c.args.scheduler.now c.args.scheduler.now) (sym stands)
    (c.quietly-in-Ready.ensures.outcome, c.quietly-in-Ready.ensures.steps, c.quietly-in-Ready.ensures.effects, refl)

pub go_on-requires : goal.go_on-requires
go_on-requires g c =
    let r = c.requires.stands in
    let here = here_at g.K.PartialEq.eq (g.S.Hashes.hash c.args.scheduler.now.logged.executor.hasher) r.0 r.1 c.args.scheduler.now r.3 c.args.caller.now r.2 r.4 in
    let read = c.far_of.ensures r.2 here.caller (r.4, here.at) in
    record {
      some = c.requires.some;
      goes = (r.0, r.1, r.2, r.3, (r.4, here.caller, here.at, sym read ∙ c.in-Goes.is));
    }

pub returns-clause-taken : goal.returns-clause-taken
returns-clause-taken g c = λ place placed d at.
    let stands = sym (c.far_of.ensures place d (placed, at)) ∙ c.in-Goes.is in
    subst (λ h. TakenBy g.K.PartialEq.eq (g.S.Hashes.hash c.args.scheduler.now.logged.executor.hasher) place c.args.most h
    (record { outcome = c.in_ok-come.come.0; steps = c.in_ok-come.come.1; effects = c.go_on.new.effects }) c.args.scheduler.now c.go_on.new.scheduler) (sym stands)
    (subst (λ l. StepsCome g.K.PartialEq.eq (g.S.Hashes.hash c.args.scheduler.now.logged.executor.hasher) place c.args.most c.in_ok-come.come.1 c.in_ok-come.come.0 l c.go_on.new.effects.items
    c.args.scheduler.now c.go_on.new.scheduler) c.no_effects-effects.ensures (c.in_ok-come.ensures.comes place placed))

pub returns-in-Asks-clause-refused : goal.returns-in-Asks-clause-refused
returns-in-Asks-clause-refused g c = λ refused. ap (list_any is_made) c.quietly.ensures.effects

pub returns-in-Ready-clause-refused : goal.returns-in-Ready-clause-refused
returns-in-Ready-clause-refused g c = λ refused. ap (list_any is_made) c.quietly-in-Ready.ensures.effects

pub returns-clause-refused : goal.returns-clause-refused
returns-clause-refused g c = λ refused. c.in_ok-come.ensures.refused refused ∙ ap (list_any is_made) c.no_effects-effects.ensures

pub returns-in_err-come-clause-given : goal.returns-in_err-come-clause-given
returns-in_err-come-clause-given g c = c.go_on.ensures.given

pub returns-clause-given : goal.returns-clause-given
returns-clause-given g c = c.go_on.ensures.given
