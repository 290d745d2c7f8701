-- Each step may be taken, leads on, and leaves less to do, until the making is over.
use Rattle.std.proofs.Common.{length, refl, ap, sym, ◌∙◌}
use Rattle.run_logged.specs.Log.Goes.{MakingOn, far}
use Rattle.run_logged.specs.Log.Makings.{numbers_then}
use Rattle.run_logged.proofs.Log.GivenBack.{has_place, numbers_given, ran_given}
use Rattle.run_logged.proofs.Log.Goes.{goes_more, goes_none, making_step}
use Rattle.run_kept.proofs.Sheds.KeptGiven.{given_none, given_on, stays_so}
use Rattle.run_logged.proofs.Log.MakingsRun.{makes_none, makes_on, still_making, still_under, ran_goes, making_less}
use Rattle.run_logged.proofs.Log.RootsFound.{none_found, goes_found, last_found}
use Rattle.run_logged.proofs.logged.Logged.run_making.Goals as goal

pub loop-told-init : goal.loop-told-init
loop-told-init g c = record {
  ran = makes_none c.args.caller c.args.map c.args.self.now c.args.effects.now.items;
  finds = none_found c.args.caller c.args.map c.args.self.now c.args.effects.now.items;
  gone = goes_none (MakingOn c.args.caller c.args.map) (far c.args.effects.now.items c.args.self.now);
  numbers = refl;
  given = given_none c.args.self.now.executor;
}

pub step_making-requires : goal.step_making-requires
step_making-requires g c =
    let r = c.requires in
    let t = still_making c.args.caller c.args.map r.0 r.1 r.2 _ _ _ _ r.3 r.4 r.5 r.6 c.loop-told.invariant.ran in
    (r.0, r.1, t.0, t.1, t.2)

pub give_back-requires : goal.give_back-requires
give_back-requires g c =
    let r = c.requires in
    has_place r.0 r.1 r.2 c.args.caller c.args.map r.3 r.4 r.5 r.6 _ (c.in_ok-told.ensures.numbers ∙ c.loop-told.invariant.numbers)

pub returns-then-is_over-clause-numbers : goal.returns-then-is_over-clause-numbers
returns-then-is_over-clause-numbers g c =
    ap length c.give_back.ensures ∙ numbers_given c.args.map c.in_ok-told.told _ ∙ ap (numbers_then c.args.map c.in_ok-told.told) (c.in_ok-told.ensures.numbers ∙ c.loop-told.invariant.numbers)

pub returns-then-is_over-clause-ran : goal.returns-then-is_over-clause-ran
returns-then-is_over-clause-ran g c =
    let e = c.in_ok-told.ensures in
    ran_given c.args.caller c.args.map c.in_ok-told.told _ _ _ _ _ (makes_on c.args.caller c.args.map _ _ _ _ _ _ c.in_ok-told.told c.loop-told.invariant.ran e.leads e.steps) refl refl c.give_back.ensures

pub returns-then-is_over-clause-finds : goal.returns-then-is_over-clause-finds
returns-then-is_over-clause-finds g c =
    let e = c.in_ok-told.ensures in
    last_found c.args.caller c.args.map c.args.self.now c.loop-told.self c.step_making.new.self _ _ _ c.in_ok-told.told c.loop-told.invariant.ran c.loop-told.invariant.finds e.steps e.did (sym c.is_over.ensures ∙ c.if-is_over.true)

pub returns-then-is_over-clause-gone : goal.returns-then-is_over-clause-gone
returns-then-is_over-clause-gone g c =
    let r = c.requires in
    let e = c.in_ok-told.ensures in (
      far c.loop-told.effects.items c.loop-told.self,
      c.loop-told.invariant.gone,
      c.step_making.new.self,
      making_step c.args.self.now c.loop-told.self c.step_making.new.self c.args.effects.now.items c.loop-told.effects.items c.step_making.new.effects.items c.args.caller c.args.map c.in_ok-told.told
          (still_under c.args.caller c.args.map r.0 r.1 r.2 _ _ _ _ r.3 r.4 r.5 r.6 c.loop-told.invariant.ran) e.did e.noted c.step_making.ensures.given e.steps,
      refl,
      refl,
      refl,
      c.give_back.ensures,
    )

pub returns-then-is_over-clause-given : goal.returns-then-is_over-clause-given
returns-then-is_over-clause-given g c = stays_so c.args.self.now.executor c.step_making.new.self.executor
    (given_on c.args.self.now.executor c.loop-told.self.executor c.step_making.new.self.executor c.loop-told.invariant.given c.step_making.ensures.given)

pub returns-in_err-told-clause-given : goal.returns-in_err-told-clause-given
returns-in_err-told-clause-given g c = stays_so c.args.self.now.executor c.step_making.new.self.executor
    (given_on c.args.self.now.executor c.loop-told.self.executor c.step_making.new.self.executor c.loop-told.invariant.given c.step_making.ensures.given)

pub loop-told-smaller : goal.loop-told-smaller
loop-told-smaller g c =
    let r = c.requires in
    let e = c.in_ok-told.ensures in
    making_less c.args.caller c.args.map r.0 r.1 r.2 _ _ _ _ _ _ c.in_ok-told.told r.3 r.4 r.5 r.6 c.loop-told.invariant.ran e.leads e.steps (sym c.is_over.ensures ∙ c.if-is_over.false)

pub loop-told-preserved : goal.loop-told-preserved
loop-told-preserved g c =
    let r = c.requires in
    let e = c.in_ok-told.ensures in
    record {
      ran = ran_goes c.args.caller c.args.map r.0 r.1 r.2 _ _ _ _ _ _ c.in_ok-told.told r.3 r.4 r.5 r.6 c.loop-told.invariant.ran e.leads e.steps (sym c.is_over.ensures ∙ c.if-is_over.false);
      finds = goes_found c.args.caller c.args.map r.0 r.1 r.2 c.args.self.now c.loop-told.self c.step_making.new.self _ _ _ c.in_ok-told.told r.3 r.4 r.5 r.6 c.loop-told.invariant.ran c.loop-told.invariant.finds e.steps e.did (sym c.is_over.ensures ∙ c.if-is_over.false);
      gone = goes_more (MakingOn c.args.caller c.args.map) _ (far c.loop-told.effects.items c.loop-told.self) (far c.step_making.new.effects.items c.step_making.new.self) c.loop-told.invariant.gone (
        making_step c.args.self.now c.loop-told.self c.step_making.new.self c.args.effects.now.items c.loop-told.effects.items c.step_making.new.effects.items c.args.caller c.args.map c.in_ok-told.told
            (still_under c.args.caller c.args.map r.0 r.1 r.2 _ _ _ _ r.3 r.4 r.5 r.6 c.loop-told.invariant.ran) e.did e.noted c.step_making.ensures.given e.steps,
        sym c.is_over.ensures ∙ c.if-is_over.false,
      );
      numbers = e.numbers ∙ c.loop-told.invariant.numbers;
      given = given_on c.args.self.now.executor c.loop-told.self.executor c.step_making.new.self.executor c.loop-told.invariant.given c.step_making.ensures.given;
    }
