-- A call without a name begins, and goes on, or does not begin.
use Rattle.std.proofs.Common.{rules, ◌≡◌, Bool, true, false, refl, sym, subst, arith}
use Rattle.std.proofs.lemmas.Result.{IfOk-weaker}
use Rattle.seize_words.specs.declared.fault.Fault.TheVariants.{Busy}
use Rattle.run_schedules.specs.Runs.Stopped.{most_steps}
use Rattle.run_schedules.specs.Schedules.After.{moment}
use Rattle.run_schedules.specs.Schedules.Entry.{nameless}
use Rattle.run_schedules.specs.Schedules.Views.{number_of}
use Rattle.run_schedules.specs.declared.event.Event.TheVariants.{OneCall}
use Rattle.run_schedules.specs.declared.outcome.Outcome.TheVariants.{Refused}
use Rattle.play_scheduler.proofs.Given.ShedsKeptGiven.{given_on}
use Rattle.play_scheduler.specs.Played.{BeginsSo}
use Rattle.play_stepping.specs.EventSteps.Stepping.{IsPlaced, MayTake, PlaysOn, TakenAs}
use Rattle.play_stepping.proofs.EventSteps.PlaysWhole.{goes_first, map_there, plays_begun, whole_busy}
use Rattle.play_scheduler.proofs.Rights.{entry_is}
use Rattle.play_stepping.proofs.stepping.one_call.Goals as goal

pub begins-requires : goal.begins-requires
begins-requires g c = let r = c.requires in (r.0, moment r.1, r.2.played)

pub returns : goal.returns
returns g c = record {
  plays = λ terms log due.
      let hash = g.S.Hashes.hash c.args.scheduler.now.logged.executor.hasher in
      let named : c.in_ok-own.own ≡ nameless = search (rules, c.in_ok-own.ensures) in
      let so = subst (λ (b : Bool). BeginsSo g.K.PartialEq.eq hash terms (moment log) nameless c.args.guard c.args.map.now c.args.call b c.args.scheduler.now c.begins.new.self) c.if-branch.false
      (subst (λ own. BeginsSo g.K.PartialEq.eq hash terms (moment log) own c.args.guard c.args.map.now c.args.call c.in_ok-begins.field-0 c.args.scheduler.now c.begins.new.self) named
      (c.in_ok-begins.ensures.begins terms (moment log) due.played)) in
      subst (λ e. PlaysOn g.K.PartialEq.eq hash terms log e c.begins.new.self)
      (sym (entry_is (OneCall c.args.guard c.args.map.now c.args.call) c.busy.result (Refused Busy) 0 _ c.busy.ensures.outcome c.busy.ensures.steps c.busy.ensures.effects))
      (whole_busy g.K.PartialEq.eq hash terms log c.args.guard c.args.map.now c.args.call c.args.scheduler.now c.begins.new.self due so);
  took = λ terms m stands.
      let hash = g.S.Hashes.hash c.args.scheduler.now.logged.executor.hasher in
      let named : c.in_ok-own.own ≡ nameless = search (rules, c.in_ok-own.ensures) in
      let so = subst (λ (b : Bool). BeginsSo g.K.PartialEq.eq hash terms m nameless c.args.guard c.args.map.now c.args.call b c.args.scheduler.now c.begins.new.self) c.if-branch.false
      (subst (λ own. BeginsSo g.K.PartialEq.eq hash terms m own c.args.guard c.args.map.now c.args.call c.in_ok-begins.field-0 c.args.scheduler.now c.begins.new.self) named
      (c.in_ok-begins.ensures.begins terms m stands)) in
      (false, c.begins.new.self, so, c.begins.ensures.given.1, λ begun. absurd (cc begun), λ none. (c.busy.ensures.outcome, c.busy.ensures.steps, c.busy.ensures.effects, refl));
  given = c.begins.ensures.given;
}

pub take_steps-requires : goal.take_steps-requires
take_steps-requires g c =
    let r = c.requires in
    let hash = g.S.Hashes.hash c.args.scheduler.now.logged.executor.hasher in
    let named : c.in_ok-own.own ≡ nameless = search (rules, c.in_ok-own.ensures) in
    let begun = subst (λ (b : Bool). BeginsSo g.K.PartialEq.eq hash r.0 (moment r.1) nameless c.args.guard c.args.map.now c.args.call b c.args.scheduler.now c.begins.new.self) c.if-branch.true
    (subst (λ own. BeginsSo g.K.PartialEq.eq hash r.0 (moment r.1) own c.args.guard c.args.map.now c.args.call c.in_ok-begins.field-0 c.args.scheduler.now c.begins.new.self) named
    (c.in_ok-begins.ensures.begins r.0 (moment r.1) r.2.played)) in
    let told : c.in_ok-nameless.nameless ≡ nameless = search (rules, c.in_ok-nameless.ensures) in
    let first = goes_first g.K.PartialEq.eq hash r.0 (moment r.1) nameless c.args.guard c.args.call (number_of c.args.map.now (moment r.1)) (map_there (moment r.1) c.args.guard c.args.map.now begun.so)
    c.begins.new.self (begun.stands refl) in
    record {
      some = omega arith;
      stands = subst (λ own. MayTake g.K.PartialEq.eq (g.S.Hashes.hash c.begins.new.self.logged.executor.hasher) own c.begins.new.self) (sym told)
          (subst (λ h. MayTake g.K.PartialEq.eq (g.S.Hashes.hash h) nameless c.begins.new.self) (sym c.begins.ensures.given.0) (r.0, _, 0, begun.stands refl, first.0));
    }

pub returns-then-branch : goal.returns-then-branch
returns-then-branch g c =
    let hash = g.S.Hashes.hash c.args.scheduler.now.logged.executor.hasher in
    let named : c.in_ok-own.own ≡ nameless = search (rules, c.in_ok-own.ensures) in
    let told : c.in_ok-nameless.nameless ≡ nameless = search (rules, c.in_ok-nameless.ensures) in
    record {
      plays = IfOk-weaker c.take_steps.result _ _ (λ played taken. λ terms log due.
          let begun = subst (λ (b : Bool). BeginsSo g.K.PartialEq.eq hash terms (moment log) nameless c.args.guard c.args.map.now c.args.call b c.args.scheduler.now c.begins.new.self) c.if-branch.true
          (subst (λ own. BeginsSo g.K.PartialEq.eq hash terms (moment log) own c.args.guard c.args.map.now c.args.call c.in_ok-begins.field-0 c.args.scheduler.now c.begins.new.self) named
          (c.in_ok-begins.ensures.begins terms (moment log) due.played)) in
          let first = goes_first g.K.PartialEq.eq hash terms (moment log) nameless c.args.guard c.args.call (number_of c.args.map.now (moment log))
          (map_there (moment log) c.args.guard c.args.map.now begun.so) c.begins.new.self (begun.stands refl) in
          let taken_there = taken 0 (subst (λ own. IsPlaced own 0 c.begins.new.self.calls) (sym told) first.0) in
          plays_begun g.K.PartialEq.eq hash terms log c.args.guard c.args.map.now c.args.call c.args.scheduler.now c.begins.new.self due begun played c.take_steps.new.scheduler
          (subst (λ h. TakenAs g.K.PartialEq.eq (g.S.Hashes.hash h) 0 most_steps played c.begins.new.self c.take_steps.new.scheduler) c.begins.ensures.given.0 taken_there)) c.take_steps.ensures.taken;
      took = IfOk-weaker c.take_steps.result _ _ (λ played taken. λ terms m stands.
          let begun = subst (λ (b : Bool). BeginsSo g.K.PartialEq.eq hash terms m nameless c.args.guard c.args.map.now c.args.call b c.args.scheduler.now c.begins.new.self) c.if-branch.true
          (subst (λ own. BeginsSo g.K.PartialEq.eq hash terms m own c.args.guard c.args.map.now c.args.call c.in_ok-begins.field-0 c.args.scheduler.now c.begins.new.self) named
          (c.in_ok-begins.ensures.begins terms m stands)) in
          let first = goes_first g.K.PartialEq.eq hash terms m nameless c.args.guard c.args.call (number_of c.args.map.now m) (map_there m c.args.guard c.args.map.now begun.so) c.begins.new.self
          (begun.stands refl) in
          let taken_there = taken 0 (subst (λ own. IsPlaced own 0 c.begins.new.self.calls) (sym told) first.0) in (
            true,
            c.begins.new.self,
            begun,
            c.begins.ensures.given.1,
            λ so. subst (λ h. TakenAs g.K.PartialEq.eq (g.S.Hashes.hash h) 0 most_steps played c.begins.new.self c.take_steps.new.scheduler) c.begins.ensures.given.0 taken_there,
            λ none. absurd (cc none),
          )) c.take_steps.ensures.taken;
      given = given_on c.args.scheduler.now.logged.executor c.begins.new.self.logged.executor c.take_steps.new.scheduler.logged.executor c.begins.ensures.given c.take_steps.ensures.given;
    }
