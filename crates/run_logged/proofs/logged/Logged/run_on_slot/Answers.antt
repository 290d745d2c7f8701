-- Each step may be taken, leads on, and leaves less to go, until the row has come so far.
use Rattle.std.proofs.Common.{◌++◌, refl, suc, sym, ap, ◌∙◌}
use Rattle.run_effects.specs.Effects.Known.{known}
use Rattle.run_logged.specs.Log.Back.{row_back}
use Rattle.run_logged.specs.Log.Goes.{RowGoes, far}
use Rattle.run_logged.proofs.Log.BroughtBack.{brings_none, brings_row, row_comes}
use Rattle.run_logged.proofs.Log.Goes.{goes_none, row_more, row_step}
use Rattle.run_kept.proofs.Sheds.KeptGiven.{given_none, given_on}
use Rattle.run_logged.proofs.Log.Runs.{ends_at_first, ends_now, ran_none, ran_on, run_goes, still_there}
use Rattle.run_logged.proofs.logged.Logged.run_on_slot.Goals as goal

pub loop-self-init : goal.loop-self-init
loop-self-init g c = record {
  ran = ran_none c.args.self.now c.args.effects.now.items;
  goes = (0, refl);
  gone = goes_none (RowGoes c.args.caller) (far c.args.effects.now.items c.args.self.now);
  used = ends_at_first c.args.caller c.args.self.now;
  under = (c.requires.4, c.requires.5);
  given = given_none c.args.self.now.executor;
  back = brings_none c.args.self.now c.args.effects.now.items c.args.back.now.items;
}

pub step_on_slot-requires : goal.step_on_slot-requires
step_on_slot-requires g c =
    let r = c.requires in
    let i = c.loop-self.invariant in
    let t = still_there r.0 r.1 r.2 _ _ _ _ r.3 i.ran in
    (r.0, r.1, t.0, t.1, i.under.0, i.under.1)

pub returns-then-has_come-clause-comes : goal.returns-then-has_come-clause-comes
returns-then-has_come-clause-comes g c =
    let r = c.requires in
    let i = c.loop-self.invariant in
    let t = still_there r.0 r.1 r.2 _ _ _ _ r.3 i.ran in
    let to = c.in_ok-told.ensures.steps r.0 r.1 t.0 t.1 i.under.0 i.under.1 in
    (sym c.has_come.ensures ∙ c.if-has_come.true, (to.1, to.3))

pub returns-then-has_come-clause-last : goal.returns-then-has_come-clause-last
returns-then-has_come-clause-last g c = (c.loop-self.self.executor, c.loop-self.invariant.goes.0, c.loop-self.invariant.goes.1, c.in_ok-told.ensures.steps)

pub returns-then-has_come-clause-goes : goal.returns-then-has_come-clause-goes
returns-then-has_come-clause-goes g c =
    let e = c.in_ok-told.ensures in
    let i = c.loop-self.invariant in (
      far c.loop-self.effects.items c.loop-self.self,
      i.gone,
      row_step c.args.self.now c.loop-self.self c.step_on_slot.new.self c.args.effects.now.items c.loop-self.effects.items c.step_on_slot.new.effects.items c.args.caller c.in_ok-told.told i.under e.did e.noted
          c.step_on_slot.ensures.given e.steps,
      refl,
    )

pub returns-then-has_come-clause-used : goal.returns-then-has_come-clause-used
returns-then-has_come-clause-used g c =
    let r = c.requires in
    let i = c.loop-self.invariant in
    let t = still_there r.0 r.1 r.2 _ _ _ _ r.3 i.ran in
    λ row here ended. ends_now c.args.caller r.0 r.1 t.0 c.args.self.now c.loop-self.self c.step_on_slot.new.self c.in_ok-told.told i.under.0 i.under.1 (c.in_ok-told.ensures.steps r.0 r.1 t.0 t.1) i.used row here ended

pub returns-then-has_come-clause-ran : goal.returns-then-has_come-clause-ran
returns-then-has_come-clause-ran g c =
    let i = c.loop-self.invariant in
    let e = c.in_ok-told.ensures in
    ran_on _ _ _ _ _ _ c.args.caller c.in_ok-told.told i.under.0 i.under.1 i.ran e.leads e.steps

pub returns-then-has_come-clause-tells : goal.returns-then-has_come-clause-tells
returns-then-has_come-clause-tells g c = (known c.loop-self.self.notes, c.loop-self.effects.items, c.in_ok-told.ensures.did)

pub returns-then-has_come-clause-given : goal.returns-then-has_come-clause-given
returns-then-has_come-clause-given g c = given_on c.args.self.now.executor c.loop-self.self.executor c.step_on_slot.new.self.executor c.loop-self.invariant.given c.step_on_slot.ensures.given

pub returns-then-has_come-clause-back : goal.returns-then-has_come-clause-back
returns-then-has_come-clause-back g c =
    let i = c.loop-self.invariant in
    let e = c.in_ok-told.ensures in
    brings_row c.args.self.now c.loop-self.self c.step_on_slot.new.self _ _ _ c.args.caller c.in_ok-told.told i.under.0 i.under.1 i.ran e.did e.steps _ _ _ i.back
    (c.reserve.ensures.items ∙ row_comes c.in_ok-told.told _ c.loop-self.back.items (sym c.has_come.ensures ∙ c.if-has_come.true))

pub returns-in_err-told-clause-given : goal.returns-in_err-told-clause-given
returns-in_err-told-clause-given g c = given_on c.args.self.now.executor c.loop-self.self.executor c.step_on_slot.new.self.executor c.loop-self.invariant.given c.step_on_slot.ensures.given

pub loop-self-smaller : goal.loop-self-smaller
loop-self-smaller g c =
    let r = c.requires in
    let i = c.loop-self.invariant in
    let e = c.in_ok-told.ensures in
    let on = run_goes r.0 r.1 r.2 _ _ _ c.args.caller _ _ _ c.in_ok-told.told r.3 i.under.0 i.under.1 i.ran i.used e.leads e.steps (sym c.has_come.ensures ∙ c.if-has_come.false) in
    on.less

pub loop-self-preserved : goal.loop-self-preserved
loop-self-preserved g c =
    let r = c.requires in
    let i = c.loop-self.invariant in
    let e = c.in_ok-told.ensures in
    let on = run_goes r.0 r.1 r.2 _ _ _ c.args.caller _ _ _ c.in_ok-told.told r.3 i.under.0 i.under.1 i.ran i.used e.leads e.steps (sym c.has_come.ensures ∙ c.if-has_come.false) in
    record {
      ran = on.ran;
      goes = (suc i.goes.0, (c.loop-self.self.executor, c.in_ok-told.told, i.goes.1, sym c.has_come.ensures ∙ c.if-has_come.false, e.steps));
      gone = row_more c.args.self.now c.loop-self.self c.step_on_slot.new.self c.args.effects.now.items c.loop-self.effects.items c.step_on_slot.new.effects.items c.args.caller c.in_ok-told.told
          i.under i.gone e.did e.noted c.step_on_slot.ensures.given e.steps;
      used = on.used;
      under = on.under;
      given = given_on c.args.self.now.executor c.loop-self.self.executor c.step_on_slot.new.self.executor c.loop-self.invariant.given c.step_on_slot.ensures.given;
      back = brings_row c.args.self.now c.loop-self.self c.step_on_slot.new.self _ _ _ c.args.caller c.in_ok-told.told i.under.0 i.under.1 i.ran e.did e.steps _ _ _ i.back
          (c.keep_row.ensures ∙ ap (λ l. l ++ row_back c.in_ok-told.told c.as_slice.result.now) c.reserve.ensures.items ∙ ap (λ xs. c.loop-self.back.items ++ row_back c.in_ok-told.told xs) c.as_slice.ensures.value);
    }
