-- A caller's call goes on.
use Rattle.std.specs.Prelude.{position}
use Rattle.std.specs.List.{list_any}
use Rattle.std.proofs.Common.{refl, sym, ap, subst, ◌∙◌, arith}
use Rattle.std.proofs.lemmas.Result.{IfOk-weaker}
use Rattle.seize_words.specs.declared.fault.Fault.TheVariants.{Busy}
use Rattle.run_schedules.specs.Schedules.After.{moment}
use Rattle.run_schedules.specs.Schedules.Handing.{is_made}
use Rattle.run_schedules.specs.declared.event.Event.TheVariants.{Go}
use Rattle.run_schedules.specs.declared.outcome.Outcome.TheVariants.{Refused}
use Rattle.run_executor.specs.Named.Seen.{is_named}
use Rattle.play_stepping.specs.EventSteps.Stepping.{PlaysOn}
use Rattle.play_stepping.proofs.EventSteps.ByName.{some_there}
use Rattle.play_stepping.proofs.EventSteps.PlaysAgain.{go_busy}
use Rattle.play_scheduler.proofs.Rights.{entry_is}
use Rattle.play_stepping.proofs.EventSteps.TakenBy.{plays_gone}
use Rattle.play_stepping.proofs.stepping.go.Goals as goal
use Rattle.seize_words.proofs.General.{none_of as none_there}

pub take_steps-requires : goal.take_steps-requires
take_steps-requires g c =
    let r = c.requires in
    let there = some_there (position (is_named c.args.caller.now) c.args.scheduler.now.calls) (sym c.has.ensures ∙ c.if-has.true) in
    record { some = omega arith; stands = (r.0, moment r.1, there.0, r.2.played, sym there.1) }

pub returns-then-has : goal.returns-then-has
returns-then-has g c =
    let there = some_there (position (is_named c.args.caller.now) c.args.scheduler.now.calls) (sym c.has.ensures ∙ c.if-has.true) in
    record {
      plays = IfOk-weaker c.take_steps.result _ _ (λ played taken. λ terms log due.
          plays_gone g.K.PartialEq.eq (g.S.Hashes.hash c.args.scheduler.now.logged.executor.hasher) terms log c.args.caller.now c.args.refuse c.args.scheduler.now c.take_steps.new.scheduler there.0
          (sym there.1) played due (taken there.0 (sym there.1))) c.take_steps.ensures.taken;
      took = IfOk-weaker c.take_steps.result _ _ (λ played taken. (taken, λ none. absurd (let some = sym there.1 ∙ none in cc some))) c.take_steps.ensures.taken;
      refused = c.take_steps.ensures.refused;
      given = c.take_steps.ensures.given;
    }

pub returns-else-has : goal.returns-else-has
returns-else-has g c =
    let none = none_there (position (is_named c.args.caller.now) c.args.scheduler.now.calls) (sym c.has.ensures ∙ c.if-has.false) in
    record {
      plays = λ terms log due.
          let hash = g.S.Hashes.hash c.args.scheduler.now.logged.executor.hasher in
          subst (λ e. PlaysOn g.K.PartialEq.eq hash terms log e c.args.scheduler.now)
          (sym (entry_is (Go c.args.caller.now c.args.refuse) c.busy.result (Refused Busy) 0 _ c.busy.ensures.outcome c.busy.ensures.steps c.busy.ensures.effects))
          (go_busy g.K.PartialEq.eq hash terms log c.args.caller.now c.args.refuse c.args.scheduler.now due none);
      took = (
        λ place is. absurd (let some = is ∙ none in cc some),
        λ absent. (c.busy.ensures.outcome, c.busy.ensures.steps, c.busy.ensures.effects, refl),
      );
      refused = λ refused. ap (list_any is_made) c.busy.ensures.effects;
      given = (refl, refl, refl, refl);
    }
