-- A map ends.
use Rattle.std.proofs.Common.{[], inl, inr, sym, refl, ◌∙◌, arith}
use Rattle.seize_words.specs.declared.fault.Fault.TheVariants.{Busy}
use Rattle.run_schedules.specs.Schedules.After.{moment}
use Rattle.run_schedules.specs.declared.event.Event.TheVariants.{EndMap}
use Rattle.run_schedules.specs.declared.outcome.Outcome.TheVariants.{Refused}
use Rattle.play_scheduler.proofs.Given.ShedsKeptGiven.{given_on}
use Rattle.play_scheduler.proofs.Busy.{none_quiet}
use Rattle.play_scheduler.proofs.Backs.{none_came}
use Rattle.play_scheduler.proofs.Maps.{stands_by}
use Rattle.play_stepping.proofs.Mapping.MapsEnded.{not_there, has_calls, may_run, end_came, ended}
use Rattle.play_scheduler.proofs.Rights.{so_played}
use Rattle.play_scheduler.proofs.Works.{end_gone_as, end_ran_as}
use Rattle.play_stepping.proofs.endings.end_map.Goals as goal

pub returns-in_default-clause-plays : goal.returns-in_default-clause-plays
returns-in_default-clause-plays g c =
    λ same hash terms log due apart.
    so_played same hash terms log c.args.scheduler.now (EndMap c.args.map.now) c.busy.result (Refused Busy) 0 [] c.busy.ensures.outcome c.busy.ensures.steps c.busy.ensures.effects
    (not_there same hash terms log c.args.scheduler.now c.args.map.now due (sym c.number_of.ensures ∙ c.in_default.is))

pub returns-then-are_on-clause-plays : goal.returns-then-are_on-clause-plays
returns-then-are_on-clause-plays g c =
    λ same hash terms log due apart.
    so_played same hash terms log c.args.scheduler.now (EndMap c.args.map.now) c.busy-then-are_on.result (Refused Busy) 0 [] c.busy-then-are_on.ensures.outcome c.busy-then-are_on.ensures.steps c.busy-then-are_on.ensures.effects
    (has_calls same hash terms log c.args.scheduler.now c.args.map.now due c.in-Some.number (sym c.number_of.ensures ∙ c.in-Some.is) (sym c.are_on.ensures ∙ c.if-are_on.true))

pub begin_end-requires : goal.begin_end-requires
begin_end-requires g c =
    let r = c.requires in
    let st = stands_by r.0 r.1 r.2.0 (moment r.2.1) c.args.scheduler.now r.2.2.played c.args.map.now c.in-Some.number (sym c.number_of.ensures ∙ c.in-Some.is) in
    record { slot = omega arith; stands = (st.0.setting, st.2) }

pub run_end-requires : goal.run_end-requires
run_end-requires g c =
    let r = c.requires in
    let t = may_run r.0 r.1 r.2.0 r.2.1 c.args.scheduler.now c.args.map.now r.2.2 c.in-Some.number (sym c.number_of.ensures ∙ c.in-Some.is) (sym c.are_on.ensures ∙ c.if-are_on.false) c.begin_end.new.self
    c.in_ok-caller.caller (c.in_ok-caller.ensures.leads r.0 r.1 r.2.2.played.name (moment r.2.1) r.2.2.played.scene r.2.2.played.shown) in
    (r.0, r.1, t.0, t.1, t.2)

pub returns-clause-plays : goal.returns-clause-plays
returns-clause-plays g c =
    λ same hash terms log due apart.
    ended same hash terms log c.args.scheduler.now c.args.map.now due c.in-Some.number (sym c.number_of.ensures ∙ c.in-Some.is) (sym c.are_on.ensures ∙ c.if-are_on.false) c.begin_end.new.self c.in_ok-caller.caller
    (c.in_ok-caller.ensures.leads same hash due.played.name (moment log) due.played.scene due.played.shown) c.run_end.new.self c.no_effects-effects.result.items c.run_end.new.effects.items
    c.no_effects-effects.ensures c.in_ok-run_end.ensures.ran c.in_ok-run_end.ensures.over apart _ refl refl c.remove.ensures.others

pub returns-in_err-run_end-clause-given : goal.returns-in_err-run_end-clause-given
returns-in_err-run_end-clause-given g c = given_on c.args.scheduler.now.logged.executor c.begin_end.new.self.executor c.run_end.new.self.executor c.begin_end.ensures.given c.run_end.ensures.given

pub returns-clause-given : goal.returns-clause-given
returns-clause-given g c = given_on c.args.scheduler.now.logged.executor c.begin_end.new.self.executor c.run_end.new.self.executor c.begin_end.ensures.given c.run_end.ensures.given

pub returns-in_default-clause-back : goal.returns-in_default-clause-back
returns-in_default-clause-back g c = λ same hash terms log due. none_came _ c.busy.result.effects.items c.args.back.now.items c.busy.ensures.effects

pub returns-then-are_on-clause-back : goal.returns-then-are_on-clause-back
returns-then-are_on-clause-back g c = λ same hash terms log due. none_came _ c.busy-then-are_on.result.effects.items c.args.back.now.items c.busy-then-are_on.ensures.effects

pub returns-clause-back : goal.returns-clause-back
returns-clause-back g c = λ same hash terms log due.
    end_came same hash terms log c.args.scheduler.now c.args.map.now due c.in-Some.number (sym c.number_of.ensures ∙ c.in-Some.is) (sym c.are_on.ensures ∙ c.if-are_on.false) c.begin_end.new.self c.in_ok-caller.caller
    (c.in_ok-caller.ensures.leads same hash due.played.name (moment log) due.played.scene due.played.shown) c.no_effects-effects.result.items c.run_end.new.effects.items c.no_effects-effects.ensures
    c.args.back.now.items c.run_end.new.back.items c.in_ok-run_end.ensures.back

pub returns-in_default-clause-quiet : goal.returns-in_default-clause-quiet
returns-in_default-clause-quiet g c = none_quiet c.busy.result.outcome c.busy.result.effects.items c.busy.ensures.effects

pub returns-then-are_on-clause-quiet : goal.returns-then-are_on-clause-quiet
returns-then-are_on-clause-quiet g c = none_quiet c.busy-then-are_on.result.outcome c.busy-then-are_on.result.effects.items c.busy-then-are_on.ensures.effects

pub returns-clause-quiet : goal.returns-clause-quiet
returns-clause-quiet g c = tt

pub returns-in_default-clause-works : goal.returns-in_default-clause-works
returns-in_default-clause-works g c = (refl, inl (Busy, c.busy.ensures.outcome, (c.busy.ensures.effects, refl)))

pub returns-then-are_on-clause-works : goal.returns-then-are_on-clause-works
returns-then-are_on-clause-works g c = (refl, inl (Busy, c.busy-then-are_on.ensures.outcome, (c.busy-then-are_on.ensures.effects, refl)))

pub returns-clause-works : goal.returns-clause-works
returns-clause-works g c = (
  refl,
  inr (
    refl,
    record {
      caller = c.in_ok-caller.caller;
      fresh = c.in_ok-caller.ensures.number;
      number = c.in-Some.number;
      found = sym c.number_of.ensures ∙ c.in-Some.is;
      free = sym c.are_on.ensures ∙ c.if-are_on.false;
      began = c.begin_end.new.self;
      begins = λ same hash name m s shown. c.in_ok-caller.ensures.leads same hash name m s shown;
      begun = λ same hash s at. c.in_ok-caller.ensures.begun same hash s at;
      noted = c.in_ok-caller.ensures.notes;
      stays = c.begin_end.ensures.given;
      ran = end_ran_as c.in_ok-caller.caller c.in-Some.number c.no_effects-effects.result.items c.run_end.new.effects.items c.no_effects-effects.ensures c.begin_end.new.self c.run_end.new.self
          c.in_ok-run_end.ensures.ran;
      over = c.in_ok-run_end.ensures.over;
      gone = end_gone_as c.in_ok-caller.caller c.in-Some.number c.no_effects-effects.result.items c.run_end.new.effects.items c.no_effects-effects.ensures c.begin_end.new.self c.run_end.new.self
          c.in_ok-run_end.ensures.gone;
    },
  ),
)
