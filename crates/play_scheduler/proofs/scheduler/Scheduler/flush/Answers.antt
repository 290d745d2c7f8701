-- The batch of a guard's slot is tried.
use Rattle.std.specs.Prelude.{if◌then◌else◌}
use Rattle.std.proofs.Common.{[], refl, sym, ap, ◌∙◌}
use Rattle.seize_words.specs.declared.fault.Fault.TheVariants.{Busy}
use Rattle.run_schedules.specs.declared.event.Event.TheVariants.{Flush}
use Rattle.run_schedules.specs.Schedules.After.{moment}
use Rattle.run_schedules.specs.declared.outcome.Outcome.TheVariants.{Done, Refused}
use Rattle.play_scheduler.proofs.Busy.{none_quiet}
use Rattle.play_scheduler.proofs.Backs.{came, none_came}
use Rattle.play_scheduler.proofs.Flushes.{by_held, by_none, not_living, its_word, is_held_now, may_flush, its_fits, has_run}
use Rattle.play_scheduler.proofs.HeldTold.{held_is_told}
use Rattle.play_scheduler.proofs.Rights.{so_played}
use Rattle.run_shows.specs.declared.row.SlotCall.TheVariants as call
use Rattle.play_scheduler.proofs.Works.{did_refuse, did_row}
use Rattle.play_scheduler.proofs.scheduler.Scheduler.flush.Goals as goal

pub returns-in_default-clause-plays : goal.returns-in_default-clause-plays
returns-in_default-clause-plays g c =
    λ same hash terms log due.
    so_played same hash terms log c.args.self.now (Flush c.args.guard.now) c.busy.result (Refused Busy) 0 [] c.busy.ensures.outcome c.busy.ensures.steps c.busy.ensures.effects
    (not_living same hash terms log c.args.self.now c.args.guard.now due (sym c.slot_of_living.ensures ∙ c.in_default.is))

pub is_held-requires : goal.is_held-requires
is_held-requires g c =
    let r = c.requires in
    its_word r.0 r.1 r.2.0 r.2.1 c.args.self.now c.args.guard.now r.2.2 c.in-Some.slot (sym c.slot_of_living.ensures ∙ c.in-Some.is)

pub returns-then-is_held-clause-plays : goal.returns-then-is_held-clause-plays
returns-then-is_held-clause-plays g c =
    λ same hash terms log due.
    so_played same hash terms log c.args.self.now (Flush c.args.guard.now) c.busy-then-is_held.result (Refused Busy) 0 [] c.busy-then-is_held.ensures.outcome
    c.busy-then-is_held.ensures.steps c.busy-then-is_held.ensures.effects
    (is_held_now same hash terms log c.args.self.now c.args.guard.now due c.in-Some.slot (sym c.slot_of_living.ensures ∙ c.in-Some.is)
    (held_is_told same hash terms (moment log) c.args.self.now due.played) c.is_held.result c.is_held.ensures c.if-is_held.true)

pub do_row-requires : goal.do_row-requires
do_row-requires g c =
    let r = c.requires in
    let lives = sym c.slot_of_living.ensures ∙ c.in-Some.is in
    record {
      fits = its_fits r.0 r.1 r.2.0 r.2.1 c.args.self.now c.args.guard.now r.2.2 c.in-Some.slot lives;
      may = (r.0, r.1, r.2.2.played.name, _, r.2.2.played.scene, r.2.2.played.shown);
      begins = may_flush r.0 r.1 r.2.0 r.2.1 c.args.self.now c.args.guard.now r.2.2 c.in-Some.slot lives;
    }

pub returns-clause-plays : goal.returns-clause-plays
returns-clause-plays g c =
    λ same hash terms log due.
    has_run same hash terms log c.args.self.now c.args.guard.now due c.in-Some.slot (sym c.slot_of_living.ensures ∙ c.in-Some.is) c.is_held.result c.is_held.ensures c.if-is_held.false
    c.no_effects-effects.result.items c.do_row.new.effects.items c.no_effects-effects.ensures c.do_row.new.self c.do_row.ensures.rest c.in_ok-do_row.ensures.ran

pub returns-in_default-clause-back : goal.returns-in_default-clause-back
returns-in_default-clause-back g c = λ same hash terms log due. none_came _ c.busy.result.effects.items c.args.back.now.items c.busy.ensures.effects

pub returns-then-is_held-clause-back : goal.returns-then-is_held-clause-back
returns-then-is_held-clause-back g c = λ same hash terms log due. none_came _ c.busy-then-is_held.result.effects.items c.args.back.now.items c.busy-then-is_held.ensures.effects

pub returns-clause-back : goal.returns-clause-back
returns-clause-back g c = λ same hash terms log due.
    came same hash terms log (Flush c.args.guard.now) c.args.self.now due c.args.back.now.items c.no_effects-effects.result.items c.do_row.new.effects.items c.no_effects-effects.ensures c.do_row.new.back.items c.in_ok-do_row.ensures.back

pub returns-in_default-clause-quiet : goal.returns-in_default-clause-quiet
returns-in_default-clause-quiet g c = none_quiet c.busy.result.outcome c.busy.result.effects.items c.busy.ensures.effects

pub returns-then-is_held-clause-quiet : goal.returns-then-is_held-clause-quiet
returns-then-is_held-clause-quiet g c = none_quiet c.busy-then-is_held.result.outcome c.busy-then-is_held.result.effects.items c.busy-then-is_held.ensures.effects

pub returns-clause-quiet : goal.returns-clause-quiet
returns-clause-quiet g c = tt

pub returns-in_default-clause-works : goal.returns-in_default-clause-works
returns-in_default-clause-works g c = did_refuse (Flush c.args.guard.now) c.args.self.now c.busy.result Busy c.busy.ensures.outcome c.busy.ensures.effects

pub returns-then-is_held-clause-works : goal.returns-then-is_held-clause-works
returns-then-is_held-clause-works g c = did_refuse (Flush c.args.guard.now) c.args.self.now c.busy-then-is_held.result Busy c.busy-then-is_held.ensures.outcome c.busy-then-is_held.ensures.effects

pub returns-clause-works : goal.returns-clause-works
returns-clause-works g c =
    did_row (Flush c.args.guard.now) c.args.self.now (record { outcome = Done; steps = 0; effects = c.do_row.new.effects }) c.in-Some.slot (sym c.slot_of_living.ensures ∙ c.in-Some.is) c.do_row.new.self (ap (λ p. p.calls) c.do_row.ensures.rest) call.Flush
    (refl, λ word is. sym c.if-is_held.false ∙ c.is_held.ensures word is)
    c.no_effects-effects.result.items c.do_row.new.effects.items c.no_effects-effects.ensures refl c.do_row.new.self.logged refl (λ said. refl) c.in_ok-do_row.ensures.ran

pub returns-in_default-clause-held : goal.returns-in_default-clause-held
returns-in_default-clause-held g c = by_none c.args.self.now c.args.guard.now (sym c.slot_of_living.ensures ∙ c.in_default.is) c.busy.result.outcome

pub returns-then-is_held-clause-held : goal.returns-then-is_held-clause-held
returns-then-is_held-clause-held g c =
    by_held c.args.self.now c.args.guard.now c.in-Some.slot (sym c.slot_of_living.ensures ∙ c.in-Some.is) c.is_held.result c.is_held.ensures c.busy-then-is_held.result.outcome
    (c.busy-then-is_held.ensures.outcome ∙ sym (ap (λ b. if b then Refused Busy else Done) c.if-is_held.true))

pub returns-clause-held : goal.returns-clause-held
returns-clause-held g c =
    by_held c.args.self.now c.args.guard.now c.in-Some.slot (sym c.slot_of_living.ensures ∙ c.in-Some.is) c.is_held.result c.is_held.ensures Done
    (sym (ap (λ b. if b then Refused Busy else Done) c.if-is_held.false))
