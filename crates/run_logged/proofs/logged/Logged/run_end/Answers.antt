-- Each step may be taken, leads on, and leaves less to do, until the end is over.
use Rattle.std.proofs.Common.{◌++◌, sym, ap, ◌∙◌}
use Rattle.run_logged.specs.Log.Back.{settled_back}
use Rattle.run_logged.specs.Log.Goes.{EndOn, far}
use Rattle.run_logged.proofs.Log.BroughtBack.{brings_end, end_brings_none, end_comes}
use Rattle.run_logged.proofs.Log.EndSteps.{end_is_over}
use Rattle.run_logged.proofs.Log.EndsRun.{ends_none, ends_last, ending_under, still_ending, ran_goes, ending_less}
use Rattle.run_logged.proofs.Log.Goes.{end_step, goes_more, goes_none}
use Rattle.run_kept.proofs.Sheds.KeptGiven.{given_none, given_on}
use Rattle.run_logged.proofs.logged.Logged.run_end.Goals as goal

pub loop-self-init : goal.loop-self-init
loop-self-init g c = record {
  ran = ends_none c.args.caller c.args.map c.args.self.now c.args.effects.now.items;
  gone = goes_none (EndOn c.args.caller c.args.map) (far c.args.effects.now.items c.args.self.now);
  given = given_none c.args.self.now.executor;
  back = end_brings_none c.args.caller c.args.map c.args.self.now c.args.effects.now.items c.args.back.now.items;
}

pub step_end-requires : goal.step_end-requires
step_end-requires g c =
    let r = c.requires in
    let t = still_ending c.args.caller c.args.map r.0 r.1 r.2 _ _ _ _ r.3 r.4 c.loop-self.invariant.ran in
    (r.0, r.1, t.0, t.1, t.2)

pub returns-then-is_done-clause-ran : goal.returns-then-is_done-clause-ran
returns-then-is_done-clause-ran g c =
    let e = c.in_ok-told.ensures in
    ends_last c.args.caller c.args.map _ _ _ _ _ _ c.in_ok-told.told c.loop-self.invariant.ran e.leads e.steps (sym c.is_done.ensures ∙ c.if-is_done.true)

pub returns-then-is_done-clause-over : goal.returns-then-is_done-clause-over
returns-then-is_done-clause-over g c = end_is_over _

pub returns-then-is_done-clause-gone : goal.returns-then-is_done-clause-gone
returns-then-is_done-clause-gone g c =
    let r = c.requires in
    let e = c.in_ok-told.ensures in (
      far c.loop-self.effects.items c.loop-self.self,
      c.loop-self.invariant.gone,
      end_step c.args.self.now c.loop-self.self c.step_end.new.self c.args.effects.now.items c.loop-self.effects.items c.step_end.new.effects.items c.args.caller c.args.map c.in_ok-told.told
          (ending_under c.args.caller c.args.map r.0 r.1 r.2 _ _ _ _ r.3 r.4 c.loop-self.invariant.ran) e.did e.noted c.step_end.ensures.given e.steps,
      sym c.is_done.ensures ∙ c.if-is_done.true,
    )

pub returns-then-is_done-clause-given : goal.returns-then-is_done-clause-given
returns-then-is_done-clause-given g c = given_on c.args.self.now.executor c.loop-self.self.executor c.step_end.new.self.executor c.loop-self.invariant.given c.step_end.ensures.given

pub returns-then-is_done-clause-back : goal.returns-then-is_done-clause-back
returns-then-is_done-clause-back g c =
    let i = c.loop-self.invariant in
    let e = c.in_ok-told.ensures in
    brings_end c.args.caller c.args.map c.args.self.now c.loop-self.self c.step_end.new.self _ _ _ c.in_ok-told.told i.ran e.leads e.did _ _ _ i.back
    (c.reserve.ensures.items ∙ end_comes c.in_ok-told.told _ c.loop-self.back.items (sym c.is_done.ensures ∙ c.if-is_done.true))

pub returns-in_err-told-clause-given : goal.returns-in_err-told-clause-given
returns-in_err-told-clause-given g c = given_on c.args.self.now.executor c.loop-self.self.executor c.step_end.new.self.executor c.loop-self.invariant.given c.step_end.ensures.given

pub loop-self-smaller : goal.loop-self-smaller
loop-self-smaller g c =
    let r = c.requires in
    let e = c.in_ok-told.ensures in
    ending_less c.args.caller c.args.map r.0 r.1 r.2 _ _ _ _ _ _ c.in_ok-told.told r.3 r.4 c.loop-self.invariant.ran e.leads e.steps (sym c.is_done.ensures ∙ c.if-is_done.false)

pub loop-self-preserved : goal.loop-self-preserved
loop-self-preserved g c =
    let r = c.requires in
    let e = c.in_ok-told.ensures in
    record {
      ran = ran_goes c.args.caller c.args.map r.0 r.1 r.2 _ _ _ _ _ _ c.in_ok-told.told r.3 r.4 c.loop-self.invariant.ran e.leads e.steps (sym c.is_done.ensures ∙ c.if-is_done.false);
      gone = goes_more (EndOn c.args.caller c.args.map) _ (far c.loop-self.effects.items c.loop-self.self) (far c.step_end.new.effects.items c.step_end.new.self) c.loop-self.invariant.gone (
        end_step c.args.self.now c.loop-self.self c.step_end.new.self c.args.effects.now.items c.loop-self.effects.items c.step_end.new.effects.items c.args.caller c.args.map c.in_ok-told.told
            (ending_under c.args.caller c.args.map r.0 r.1 r.2 _ _ _ _ r.3 r.4 c.loop-self.invariant.ran) e.did e.noted c.step_end.ensures.given e.steps,
        sym c.is_done.ensures ∙ c.if-is_done.false,
      );
      given = given_on c.args.self.now.executor c.loop-self.self.executor c.step_end.new.self.executor c.loop-self.invariant.given c.step_end.ensures.given;
      back = brings_end c.args.caller c.args.map c.args.self.now c.loop-self.self c.step_end.new.self _ _ _ c.in_ok-told.told c.loop-self.invariant.ran e.leads e.did _ _ _ c.loop-self.invariant.back
          (c.keep_settled.ensures ∙ ap (λ l. l ++ settled_back c.in_ok-told.told c.as_slice.result.now) c.reserve.ensures.items
          ∙ ap (λ xs. c.loop-self.back.items ++ settled_back c.in_ok-told.told xs) c.as_slice.ensures.value);
    }
