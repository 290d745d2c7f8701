-- A map is made.
use Rattle.std.proofs.Common.{◌≡◌, [], length, ap, inl, inr, sym, refl, subst, ◌∙◌, arith, rules}
use Rattle.seize.specs.declared.advance.Advance.{Advance}
use Rattle.papaya_raw.specs.Given.TablesDeclared.setting.Setting.{Setting}
use Rattle.play_scheduler.specs.Given.LoggedMakings.{MakingRan, numbers_then}
use Rattle.play_scheduler.specs.Given.LoggedRoots.{MakingFinds}
use Rattle.play_scheduler.proofs.Given.ShedsKeptGiven.{stays_on}
use Rattle.seize_words.specs.declared.fault.Fault.TheVariants.{Busy, RootsUsedUp}
use Rattle.run_schedules.specs.Schedules.After.{moment}
use Rattle.run_schedules.specs.declared.event.Event.TheVariants.{MakeMap}
use Rattle.run_schedules.specs.declared.outcome.Outcome.{Outcome}
use Rattle.run_schedules.specs.declared.outcome.Outcome.TheVariants.{Refused}
use Rattle.play_scheduler.specs.Mapping.{numbers_made}
use Rattle.play_stepping.proofs.Mapping.MapNumbers.{given_up}
use Rattle.play_scheduler.proofs.Busy.{none_quiet}
use Rattle.play_stepping.proofs.Mapping.MapsMade.{has_fault, not_now, no_roots, may_run, not_made, made, refused_quiet}
use Rattle.play_scheduler.proofs.Rights.{so_played}
use Rattle.play_scheduler.proofs.Works.{finds_as, gone_as, run_as}
use Rattle.play_stepping.proofs.makings.make_map.Goals as goal

pub returns-in-Err-clause-plays : goal.returns-in-Err-clause-plays
returns-in-Err-clause-plays g c =
    λ same hash terms log may.
    so_played same hash terms log _ (MakeMap c.args.map c.args.mode c.args.capacity) c.quietly.result (Refused c.in-Err.fault) 0 [] c.quietly.ensures.outcome c.quietly.ensures.steps c.quietly.ensures.effects
    (has_fault same hash terms log c.args.scheduler.now c.args.map c.args.mode c.args.capacity may c.in-Err.fault c.in-Err.ensures.fault)

pub returns-then-not-may_make-clause-plays : goal.returns-then-not-may_make-clause-plays
returns-then-not-may_make-clause-plays g c =
    λ same hash terms log may.
    so_played same hash terms log _ (MakeMap c.args.map c.args.mode c.args.capacity) c.busy.result (Refused Busy) 0 [] c.busy.ensures.outcome c.busy.ensures.steps c.busy.ensures.effects
    (not_now same hash terms log c.args.scheduler.now c.args.map c.args.mode c.args.capacity may c.in-Ok.ensures.none (sym c.may_make.ensures ∙ c.if-not-may_make.true))

pub returns-then-scheduler-eq0-clause-plays : goal.returns-then-scheduler-eq0-clause-plays
returns-then-scheduler-eq0-clause-plays g c =
    λ same hash terms log may.
    so_played same hash terms log _ (MakeMap c.args.map c.args.mode c.args.capacity) c.quietly-then-scheduler-eq0.result (Refused RootsUsedUp) 0 [] c.quietly-then-scheduler-eq0.ensures.outcome c.quietly-then-scheduler-eq0.ensures.steps
    c.quietly-then-scheduler-eq0.ensures.effects
    (no_roots same hash terms log c.args.scheduler.now c.args.map c.args.mode c.args.capacity may c.in-Ok.ensures.none (sym c.may_make.ensures ∙ c.if-not-may_make.false) c.if-scheduler-eq0.true)

pub setting_for-given-requires : goal.setting_for-given-requires
setting_for-given-requires g c = c.requires.4.counts.processors

pub begin_making-requires : goal.begin_making-requires
begin_making-requires g c = omega arith

pub run_making-requires : goal.run_making-requires
run_making-requires g c =
    let r = c.requires in
    let count : c.len-number.result ≡ length c.args.scheduler.now.logged.executor.maps.items = search (rules, c.len-number.ensures) in
    let t = may_run r.0 r.1 r.2 r.3 c.args.scheduler.now c.args.map c.args.mode c.args.capacity r.4 c.in-Ok.ensures.none (sym c.may_make.ensures ∙ c.if-not-may_make.false)
    (let ne = c.if-scheduler-eq0.false in omega (arith, ne)) c.in-Ok.places c.in-Ok.ensures.first c.setting_for-given.result c.setting_for-given.ensures c.in_ok-caller.caller c.begin_making.new.self
    (c.in_ok-caller.ensures.leads r.0 r.1 r.4.due.played.name (moment r.3) r.4.due.played.scene r.4.due.played.shown) c.len-number.result count in
    (r.0, r.1, t.0, t.1, t.2, t.3, t.4)

pub returns-in-Refused-clause-plays : goal.returns-in-Refused-clause-plays
returns-in-Refused-clause-plays g c =
    λ same hash terms log may.
    let count : c.len-number.result ≡ length c.args.scheduler.now.logged.executor.maps.items = search (rules, c.len-number.ensures) in
    not_made same hash terms log c.args.scheduler.now c.args.map c.args.mode c.args.capacity may c.in-Ok.ensures.none (sym c.may_make.ensures ∙ c.if-not-may_make.false)
    (let ne = c.if-scheduler-eq0.false in omega (arith, ne)) c.in-Ok.places c.in-Ok.ensures.first c.setting_for-given.result c.setting_for-given.ensures c.in_ok-caller.caller c.begin_making.new.self
    (c.in_ok-caller.ensures.leads same hash may.due.played.name (moment log) may.due.played.scene may.due.played.shown) c.len-number.result count c.in-Refused.fault c.run_making.new.self
    c.no_effects-effects.result.items c.run_making.new.effects.items c.no_effects-effects.ensures (subst (λ (x : Advance Setting). MakingRan c.in_ok-caller.caller c.len-number.result x c.no_effects-effects.result.items c.run_making.new.effects.items c.begin_making.new.self c.run_making.new.self) c.in-Refused.is c.in_ok-told.ensures.ran)
    (subst (λ (x : Advance Setting). MakingFinds c.in_ok-caller.caller c.len-number.result x c.no_effects-effects.result.items c.run_making.new.effects.items c.begin_making.new.self c.run_making.new.self) c.in-Refused.is c.in_ok-told.ensures.finds) _ refl refl refl

pub returns-in_ok-push-in-Done-clause-plays : goal.returns-in_ok-push-in-Done-clause-plays
returns-in_ok-push-in-Done-clause-plays g c =
    λ same hash terms log may.
    let count : c.len-number.result ≡ length c.args.scheduler.now.logged.executor.maps.items = search (rules, c.len-number.ensures) in
    made same hash terms log c.args.scheduler.now c.args.map c.args.mode c.args.capacity may c.in-Ok.ensures.none (sym c.may_make.ensures ∙ c.if-not-may_make.false)
    (let ne = c.if-scheduler-eq0.false in omega (arith, ne)) c.in-Ok.places c.in-Ok.ensures.first c.setting_for-given.result c.setting_for-given.ensures c.in_ok-caller.caller c.begin_making.new.self
    (c.in_ok-caller.ensures.leads same hash may.due.played.name (moment log) may.due.played.scene may.due.played.shown) c.len-number.result count c.in-Done.field-0 c.run_making.new.self
    c.no_effects-effects.result.items c.run_making.new.effects.items c.no_effects-effects.ensures c.in_ok-caller.ensures.there (subst (λ (x : Advance Setting). MakingRan c.in_ok-caller.caller c.len-number.result x c.no_effects-effects.result.items c.run_making.new.effects.items c.begin_making.new.self c.run_making.new.self) c.in-Done.is c.in_ok-told.ensures.ran)
    (subst (λ (x : Advance Setting). MakingFinds c.in_ok-caller.caller c.len-number.result x c.no_effects-effects.result.items c.run_making.new.effects.items c.begin_making.new.self c.run_making.new.self) c.in-Done.is c.in_ok-told.ensures.finds) _ refl refl c.in_ok-push-in-Done.ensures.came

pub returns-in_err-told-clause-given : goal.returns-in_err-told-clause-given
returns-in_err-told-clause-given g c = stays_on c.args.scheduler.now.logged.executor c.begin_making.new.self.executor c.run_making.new.self.executor c.begin_making.ensures.given c.run_making.ensures.given

pub returns-in-Refused-clause-given : goal.returns-in-Refused-clause-given
returns-in-Refused-clause-given g c = stays_on c.args.scheduler.now.logged.executor c.begin_making.new.self.executor c.run_making.new.self.executor c.begin_making.ensures.given c.run_making.ensures.given

pub returns-in_err-push-in-Done-clause-given : goal.returns-in_err-push-in-Done-clause-given
returns-in_err-push-in-Done-clause-given g c = stays_on c.args.scheduler.now.logged.executor c.begin_making.new.self.executor c.run_making.new.self.executor c.begin_making.ensures.given c.run_making.ensures.given

pub returns-in_ok-push-in-Done-clause-given : goal.returns-in_ok-push-in-Done-clause-given
returns-in_ok-push-in-Done-clause-given g c = stays_on c.args.scheduler.now.logged.executor c.begin_making.new.self.executor c.run_making.new.self.executor c.begin_making.ensures.given c.run_making.ensures.given

pub returns-in-Err-clause-numbers : goal.returns-in-Err-clause-numbers
returns-in-Err-clause-numbers g c = ap (λ (o : Outcome g.row.V.Denot). numbers_made o (length c.args.scheduler.now.logged.executor.maps.items)) (sym c.quietly.ensures.outcome)

pub returns-then-not-may_make-clause-numbers : goal.returns-then-not-may_make-clause-numbers
returns-then-not-may_make-clause-numbers g c = ap (λ (o : Outcome g.row.V.Denot). numbers_made o (length c.args.scheduler.now.logged.executor.maps.items)) (sym c.busy.ensures.outcome)

pub returns-then-scheduler-eq0-clause-numbers : goal.returns-then-scheduler-eq0-clause-numbers
returns-then-scheduler-eq0-clause-numbers g c = ap (λ (o : Outcome g.row.V.Denot). numbers_made o (length c.args.scheduler.now.logged.executor.maps.items)) (sym c.quietly-then-scheduler-eq0.ensures.outcome)

pub returns-in-Refused-clause-numbers : goal.returns-in-Refused-clause-numbers
returns-in-Refused-clause-numbers g c =
    let count : c.len-number.result ≡ length c.args.scheduler.now.logged.executor.maps.items = search (rules, c.len-number.ensures) in
    c.in_ok-told.ensures.numbers ∙ ap (λ (t : Advance Setting). numbers_then c.len-number.result t (length c.begin_making.new.self.executor.maps.items)) c.in-Refused.is
    ∙ given_up c.len-number.result (length c.begin_making.new.self.executor.maps.items) (length c.args.scheduler.now.logged.executor.maps.items) count c.in_ok-caller.ensures.numbers

pub returns-in_ok-push-in-Done-clause-numbers : goal.returns-in_ok-push-in-Done-clause-numbers
returns-in_ok-push-in-Done-clause-numbers g c =
    c.in_ok-told.ensures.numbers ∙ ap (λ (t : Advance Setting). numbers_then c.len-number.result t (length c.begin_making.new.self.executor.maps.items)) c.in-Done.is ∙ c.in_ok-caller.ensures.numbers

pub returns-in-Err-clause-quiet : goal.returns-in-Err-clause-quiet
returns-in-Err-clause-quiet g c = none_quiet c.quietly.result.outcome c.quietly.result.effects.items c.quietly.ensures.effects

pub returns-then-not-may_make-clause-quiet : goal.returns-then-not-may_make-clause-quiet
returns-then-not-may_make-clause-quiet g c = none_quiet c.busy.result.outcome c.busy.result.effects.items c.busy.ensures.effects

pub returns-then-scheduler-eq0-clause-quiet : goal.returns-then-scheduler-eq0-clause-quiet
returns-then-scheduler-eq0-clause-quiet g c = none_quiet c.quietly-then-scheduler-eq0.result.outcome c.quietly-then-scheduler-eq0.result.effects.items c.quietly-then-scheduler-eq0.ensures.effects

pub returns-in_ok-push-in-Done-clause-quiet : goal.returns-in_ok-push-in-Done-clause-quiet
returns-in_ok-push-in-Done-clause-quiet g c = tt

pub returns-in-Refused-clause-quiet : goal.returns-in-Refused-clause-quiet
returns-in-Refused-clause-quiet g c =
    let r = c.requires in
    let count : c.len-number.result ≡ length c.args.scheduler.now.logged.executor.maps.items = search (rules, c.len-number.ensures) in
    refused_quiet r.0 r.1 r.2 r.3 c.args.scheduler.now c.args.map c.args.mode c.args.capacity r.4 c.in-Ok.ensures.none (sym c.may_make.ensures ∙ c.if-not-may_make.false)
    (let ne = c.if-scheduler-eq0.false in omega (arith, ne)) c.in-Ok.places c.in-Ok.ensures.first c.setting_for-given.result c.setting_for-given.ensures c.in_ok-caller.caller c.begin_making.new.self
    (c.in_ok-caller.ensures.leads r.0 r.1 r.4.due.played.name (moment r.3) r.4.due.played.scene r.4.due.played.shown) c.len-number.result count c.in-Refused.fault c.run_making.new.self
    c.no_effects-effects.result.items c.run_making.new.effects.items c.no_effects-effects.ensures (subst (λ (x : Advance Setting). MakingRan c.in_ok-caller.caller c.len-number.result x c.no_effects-effects.result.items c.run_making.new.effects.items c.begin_making.new.self c.run_making.new.self) c.in-Refused.is c.in_ok-told.ensures.ran)
    (subst (λ (x : Advance Setting). MakingFinds c.in_ok-caller.caller c.len-number.result x c.no_effects-effects.result.items c.run_making.new.effects.items c.begin_making.new.self c.run_making.new.self) c.in-Refused.is c.in_ok-told.ensures.finds)

pub returns-in-Err-clause-works : goal.returns-in-Err-clause-works
returns-in-Err-clause-works g c = (refl, inl (c.in-Err.fault, c.quietly.ensures.outcome, (c.quietly.ensures.effects, refl)))

pub returns-then-not-may_make-clause-works : goal.returns-then-not-may_make-clause-works
returns-then-not-may_make-clause-works g c = (refl, inl (Busy, c.busy.ensures.outcome, (c.busy.ensures.effects, refl)))

pub returns-then-scheduler-eq0-clause-works : goal.returns-then-scheduler-eq0-clause-works
returns-then-scheduler-eq0-clause-works g c = (refl, inl (RootsUsedUp, c.quietly-then-scheduler-eq0.ensures.outcome, (c.quietly-then-scheduler-eq0.ensures.effects, refl)))

pub returns-in-Refused-clause-works : goal.returns-in-Refused-clause-works
returns-in-Refused-clause-works g c =
    let count : c.len-number.result ≡ length c.args.scheduler.now.logged.executor.maps.items = search (rules, c.len-number.ensures) in (
      refl,
      inr (inl (
        c.in-Refused.fault,
        refl,
        record {
          caller = c.in_ok-caller.caller;
          fresh = c.in_ok-caller.ensures.number;
          faultless = c.in-Ok.ensures.none;
          free = sym c.may_make.ensures ∙ c.if-not-may_make.false;
          places = c.in-Ok.places;
          given = c.setting_for-given.result;
          places_are = c.in-Ok.ensures.places;
          first = c.in-Ok.ensures.first;
          is_given = c.setting_for-given.ensures;
          some = (let ne = c.if-scheduler-eq0.false in omega (arith, ne));
          began = c.begin_making.new.self;
          begins = λ same hash name m s shown. c.in_ok-caller.ensures.leads same hash name m s shown;
          begun = λ same hash s at. c.in_ok-caller.ensures.begun same hash s at;
          noted = c.in_ok-caller.ensures.notes;
          stays = c.begin_making.ensures.given;
          there = c.in_ok-caller.ensures.there;
          ran = run_as c.in_ok-caller.caller c.len-number.result _ count c.in_ok-told.told _ c.in-Refused.is c.no_effects-effects.result.items c.run_making.new.effects.items c.no_effects-effects.ensures
              c.begin_making.new.self c.run_making.new.self c.in_ok-told.ensures.ran;
          finds = finds_as c.in_ok-caller.caller c.len-number.result _ count c.in_ok-told.told _ c.in-Refused.is c.no_effects-effects.result.items c.run_making.new.effects.items
              c.no_effects-effects.ensures c.begin_making.new.self c.run_making.new.self c.in_ok-told.ensures.finds;
          gone = gone_as c.in_ok-caller.caller c.len-number.result _ count c.in_ok-told.told _ c.in-Refused.is c.no_effects-effects.result.items c.run_making.new.effects.items c.no_effects-effects.ensures
              c.begin_making.new.self c.run_making.new.self c.in_ok-told.ensures.gone;
        },
      )),
    )

pub returns-in_ok-push-in-Done-clause-works : goal.returns-in_ok-push-in-Done-clause-works
returns-in_ok-push-in-Done-clause-works g c =
    let count : c.len-number.result ≡ length c.args.scheduler.now.logged.executor.maps.items = search (rules, c.len-number.ensures) in (
      refl,
      inr (inr (
        refl,
        c.in-Done.field-0,
        record {
          caller = c.in_ok-caller.caller;
          fresh = c.in_ok-caller.ensures.number;
          faultless = c.in-Ok.ensures.none;
          free = sym c.may_make.ensures ∙ c.if-not-may_make.false;
          places = c.in-Ok.places;
          given = c.setting_for-given.result;
          places_are = c.in-Ok.ensures.places;
          first = c.in-Ok.ensures.first;
          is_given = c.setting_for-given.ensures;
          some = (let ne = c.if-scheduler-eq0.false in omega (arith, ne));
          began = c.begin_making.new.self;
          begins = λ same hash name m s shown. c.in_ok-caller.ensures.leads same hash name m s shown;
          begun = λ same hash s at. c.in_ok-caller.ensures.begun same hash s at;
          noted = c.in_ok-caller.ensures.notes;
          stays = c.begin_making.ensures.given;
          there = c.in_ok-caller.ensures.there;
          ran = run_as c.in_ok-caller.caller c.len-number.result _ count c.in_ok-told.told _ c.in-Done.is c.no_effects-effects.result.items c.run_making.new.effects.items c.no_effects-effects.ensures
              c.begin_making.new.self c.run_making.new.self c.in_ok-told.ensures.ran;
          finds = finds_as c.in_ok-caller.caller c.len-number.result _ count c.in_ok-told.told _ c.in-Done.is c.no_effects-effects.result.items c.run_making.new.effects.items
              c.no_effects-effects.ensures c.begin_making.new.self c.run_making.new.self c.in_ok-told.ensures.finds;
          gone = gone_as c.in_ok-caller.caller c.len-number.result _ count c.in_ok-told.told _ c.in-Done.is c.no_effects-effects.result.items c.run_making.new.effects.items c.no_effects-effects.ensures
              c.begin_making.new.self c.run_making.new.self c.in_ok-told.ensures.gone;
        },
      )),
    )
