-- Each step may be taken, and leads on, until nothing is left.
use Rattle.std.proofs.Common.{◌++◌, sym, ap, ◌∙◌}
use Rattle.run_logged.specs.Log.Back.{settled_back}
use Rattle.run_logged.specs.Log.Goes.{ReclaimingOn, far}
use Rattle.run_logged.proofs.Log.BroughtBack.{end_comes}
use Rattle.run_logged.proofs.Log.Goes.{all_last, all_more, goes_none}
use Rattle.run_kept.proofs.Sheds.KeptGiven.{given_none, given_on}
use Rattle.run_logged.proofs.Log.ReclaimBack.{brings_all, brought_all, brought_none}
use Rattle.run_logged.proofs.Log.ReclaimsRun.{reclaims_none, reclaims_on, reclaims_last}
use Rattle.run_logged.proofs.logged.Logged.run_reclaiming.Goals as goal

pub loop-left-init : goal.loop-left-init
loop-left-init g c = record {
  so_far = reclaims_none c.args.self.now c.args.effects.now.items c.begin_reclaiming-reclaiming.result.all;
  gone = goes_none ReclaimingOn (far c.args.effects.now.items c.args.self.now, c.begin_reclaiming-reclaiming.result.all);
  given = given_none c.args.self.now.executor;
  back = brought_none _ c.args.self.now c.args.effects.now.items c.args.back.now.items;
}

pub step_reclaiming-requires : goal.step_reclaiming-requires
step_reclaiming-requires g c =
    let r = c.requires in
    let first = c.begin_reclaiming-reclaiming.ensures.shown r.0 r.1 r.2 r.3 r.4 0 r.5 r.6 r.7 r.8 in
    let u = c.loop-left.invariant.so_far.2 r.0 r.1 r.4 0 r.5 first.under_way in
    (r.0, r.1, u.0, 0, u.1, u.2)

pub loop-left-preserved : goal.loop-left-preserved
loop-left-preserved g c =
    record {
      so_far = reclaims_on _ _ _ c.args.self.now c.loop-left.self c.step_reclaiming.new.self _ _ _ c.loop-left.invariant.so_far c.in_ok-told.told c.in_ok-told.ensures.leads c.in_ok-told.ensures.steps (sym c.is_done.ensures ∙ c.if-is_done.false);
      gone = all_more c.args.self.now c.loop-left.self c.step_reclaiming.new.self c.args.effects.now.items c.loop-left.effects.items c.step_reclaiming.new.effects.items _ _ _ c.in_ok-told.told
          (sym c.is_done.ensures ∙ c.if-is_done.false) c.loop-left.invariant.gone c.in_ok-told.ensures.did c.in_ok-told.ensures.noted c.step_reclaiming.ensures.given c.in_ok-told.ensures.steps;
      given = given_on c.args.self.now.executor c.loop-left.self.executor c.step_reclaiming.new.self.executor c.loop-left.invariant.given c.step_reclaiming.ensures.given;
      back = brings_all _ _ _ c.args.self.now c.loop-left.self c.step_reclaiming.new.self _ _ _ c.in_ok-told.told c.loop-left.invariant.so_far c.in_ok-told.ensures.leads c.in_ok-told.ensures.did _ _ _ c.loop-left.invariant.back
          (c.keep_settled.ensures ∙ ap (λ l. l ++ settled_back c.in_ok-told.told c.as_slice.result.now) c.reserve.ensures.items
          ∙ ap (λ xs. c.loop-left.back.items ++ settled_back c.in_ok-told.told xs) c.as_slice.ensures.value);
    }

pub returns-then-is_done-clause-ran : goal.returns-then-is_done-clause-ran
returns-then-is_done-clause-ran g c =
    reclaims_last c.args.taken _ _ _ c.args.self.now c.loop-left.self c.step_reclaiming.new.self _ _ _
    (λ same hash name m s i lists shown nobody may. c.begin_reclaiming-reclaiming.ensures.shown same hash name m s i lists shown nobody may) c.loop-left.invariant.given.2 c.loop-left.invariant.so_far c.in_ok-told.told (sym c.is_done.ensures ∙ c.if-is_done.true)
    c.in_ok-told.ensures.leads c.in_ok-told.ensures.steps

pub returns-then-is_done-clause-gone : goal.returns-then-is_done-clause-gone
returns-then-is_done-clause-gone g c = (
  _,
  λ same hash name m s i lists shown nobody may. (c.begin_reclaiming-reclaiming.ensures.shown same hash name m s i lists shown nobody may).under_way,
  _,
  c.loop-left.invariant.gone,
  _,
  all_last c.loop-left.self c.loop-left.self c.step_reclaiming.new.self c.loop-left.effects.items c.loop-left.effects.items c.step_reclaiming.new.effects.items _ _ c.in_ok-told.told
      c.in_ok-told.ensures.did c.in_ok-told.ensures.noted c.step_reclaiming.ensures.given c.in_ok-told.ensures.steps,
  sym c.is_done.ensures ∙ c.if-is_done.true,
  c.begin_reclaiming-reclaiming.ensures.is,
)

pub returns-then-is_done-clause-back : goal.returns-then-is_done-clause-back
returns-then-is_done-clause-back g c =
    brought_all c.args.taken _ _ _ c.args.self.now _ _
    (λ same hash name m s i lists shown nobody may. c.begin_reclaiming-reclaiming.ensures.shown same hash name m s i lists shown nobody may)
    (brings_all _ _ _ c.args.self.now c.loop-left.self c.step_reclaiming.new.self _ _ _ c.in_ok-told.told c.loop-left.invariant.so_far c.in_ok-told.ensures.leads c.in_ok-told.ensures.did _ _ _ c.loop-left.invariant.back
    (c.reserve.ensures.items ∙ end_comes c.in_ok-told.told _ c.loop-left.back.items (sym c.is_done.ensures ∙ c.if-is_done.true)))

pub returns-then-is_done-clause-given : goal.returns-then-is_done-clause-given
returns-then-is_done-clause-given g c = given_on c.args.self.now.executor c.loop-left.self.executor c.step_reclaiming.new.self.executor c.loop-left.invariant.given c.step_reclaiming.ensures.given

pub returns-in_err-told-clause-given : goal.returns-in_err-told-clause-given
returns-in_err-told-clause-given g c = given_on c.args.self.now.executor c.loop-left.self.executor c.step_reclaiming.new.self.executor c.loop-left.invariant.given c.step_reclaiming.ensures.given

pub returns-clause-given : goal.returns-clause-given
returns-clause-given g c = c.loop-left.invariant.given
