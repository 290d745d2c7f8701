-- A guard that owns its slot.
use Rattle.std.proofs.Common.{true, [], refl, sym, ap, ◌∙◌}
use Rattle.seize_words.specs.declared.fault.Fault.TheVariants.{Busy}
use Rattle.run_schedules.specs.declared.event.Event.TheVariants.{Own}
use Rattle.run_schedules.specs.declared.outcome.Outcome.TheVariants.{Refused, Slot}
use Rattle.play_scheduler.proofs.Busy.{none_quiet}
use Rattle.play_scheduler.proofs.Backs.{came, none_came}
use Rattle.play_scheduler.proofs.Owns.{joined_refused, joined_slot, name_taken, refused_quiet}
use Rattle.play_scheduler.proofs.Rights.{so_played}
use Rattle.run_shows.specs.declared.row.SlotCall.TheVariants as call
use Rattle.run_logged.specs.Rows.Taking.{outcome_of_taking}
use Rattle.play_scheduler.specs.Works.{outcome_of_row}
use Rattle.play_scheduler.proofs.Works.{did_refuse, did_told}
use Rattle.play_scheduler.proofs.scheduler.Scheduler.own.Goals as goal

pub returns-then-has_guard-clause-plays : goal.returns-then-has_guard-clause-plays
returns-then-has_guard-clause-plays g c =
    λ same hash terms log due.
    so_played same hash terms log c.args.self.now (Own c.args.guard) c.busy.result (Refused Busy) 0 [] c.busy.ensures.outcome c.busy.ensures.steps c.busy.ensures.effects
    (name_taken same hash terms log c.args.self.now c.args.guard due (sym c.has_guard.ensures ∙ c.if-has_guard.true))

pub take_slot-requires : goal.take_slot-requires
take_slot-requires g c = let r = c.requires in (r.0, r.1, r.2.0, _, r.2.2.played)

pub returns-in-Err-clause-plays : goal.returns-in-Err-clause-plays
returns-in-Err-clause-plays g c =
    λ same hash terms log due.
    joined_refused same hash terms log c.args.self.now c.args.guard due (sym c.has_guard.ensures ∙ c.if-has_guard.false) c.take_slot.new.self c.take_slot.ensures.rest
    c.no_effects-effects.result.items c.take_slot.new.effects.items c.no_effects-effects.ensures c.in_ok-taken.taken c.in_ok-taken.ensures.taken c.in-Err.fault c.in-Err.is

pub returns-in_ok-enter-in-Ok-clause-plays : goal.returns-in_ok-enter-in-Ok-clause-plays
returns-in_ok-enter-in-Ok-clause-plays g c =
    λ same hash terms log due.
    joined_slot same hash terms log c.args.self.now c.args.guard due (sym c.has_guard.ensures ∙ c.if-has_guard.false) c.take_slot.new.self c.take_slot.ensures.rest
    c.no_effects-effects.result.items c.take_slot.new.effects.items c.no_effects-effects.ensures c.in_ok-taken.taken c.in_ok-taken.ensures.taken c.in-Ok.slot c.in-Ok.is c.enter.new.self
    c.in_ok-enter-in-Ok.ensures

pub returns-then-has_guard-clause-back : goal.returns-then-has_guard-clause-back
returns-then-has_guard-clause-back g c = λ same hash terms log due. none_came _ c.busy.result.effects.items c.args.back.now.items c.busy.ensures.effects

pub returns-in-Err-clause-back : goal.returns-in-Err-clause-back
returns-in-Err-clause-back g c = λ same hash terms log due.
    came same hash terms log (Own c.args.guard) c.args.self.now due c.args.back.now.items c.no_effects-effects.result.items c.take_slot.new.effects.items c.no_effects-effects.ensures c.take_slot.new.back.items c.in_ok-taken.ensures.back

pub returns-in_ok-enter-in-Ok-clause-back : goal.returns-in_ok-enter-in-Ok-clause-back
returns-in_ok-enter-in-Ok-clause-back g c = λ same hash terms log due.
    came same hash terms log (Own c.args.guard) c.args.self.now due c.args.back.now.items c.no_effects-effects.result.items c.take_slot.new.effects.items c.no_effects-effects.ensures c.take_slot.new.back.items c.in_ok-taken.ensures.back

pub returns-then-has_guard-clause-quiet : goal.returns-then-has_guard-clause-quiet
returns-then-has_guard-clause-quiet g c = none_quiet c.busy.result.outcome c.busy.result.effects.items c.busy.ensures.effects

pub returns-in_ok-enter-in-Ok-clause-quiet : goal.returns-in_ok-enter-in-Ok-clause-quiet
returns-in_ok-enter-in-Ok-clause-quiet g c = tt

pub returns-in-Err-clause-quiet : goal.returns-in-Err-clause-quiet
returns-in-Err-clause-quiet g c =
    let r = c.requires in
    refused_quiet r.0 r.1 r.2.0 r.2.1 c.args.self.now c.args.guard r.2.2 (sym c.has_guard.ensures ∙ c.if-has_guard.false) c.take_slot.new.self c.take_slot.ensures.rest
    c.no_effects-effects.result.items c.take_slot.new.effects.items c.no_effects-effects.ensures c.in_ok-taken.taken c.in_ok-taken.ensures.taken c.in-Err.fault c.in-Err.is

pub returns-then-has_guard-clause-works : goal.returns-then-has_guard-clause-works
returns-then-has_guard-clause-works g c = did_refuse (Own c.args.guard) c.args.self.now c.busy.result Busy c.busy.ensures.outcome c.busy.ensures.effects

pub returns-in-Err-clause-works : goal.returns-in-Err-clause-works
returns-in-Err-clause-works g c =
    did_told (Own c.args.guard) c.args.self.now (record { outcome = Refused c.in-Err.fault; steps = 0; effects = c.take_slot.new.effects }) 0 (refl, sym c.has_guard.ensures ∙ c.if-has_guard.false) c.take_slot.new.self (ap (λ p. p.calls) c.take_slot.ensures.rest) (call.Register true) refl
    c.no_effects-effects.result.items c.take_slot.new.effects.items c.no_effects-effects.ensures refl c.take_slot.new.self.logged refl (outcome_of_taking c.in_ok-taken.taken)
    (sym (ap (λ r. outcome_of_row (outcome_of_taking r)) c.in-Err.is)) c.in_ok-taken.ensures.taken

pub returns-in_ok-enter-in-Ok-clause-works : goal.returns-in_ok-enter-in-Ok-clause-works
returns-in_ok-enter-in-Ok-clause-works g c =
    did_told (Own c.args.guard) c.args.self.now (record { outcome = Slot c.in-Ok.slot; steps = 0; effects = c.take_slot.new.effects }) 0 (refl, sym c.has_guard.ensures ∙ c.if-has_guard.false)
    (record c.take_slot.new.self { there = c.enter.new.self }) (ap (λ p. p.calls) c.take_slot.ensures.rest) (call.Register true) refl
    c.no_effects-effects.result.items c.take_slot.new.effects.items c.no_effects-effects.ensures refl c.take_slot.new.self.logged refl (outcome_of_taking c.in_ok-taken.taken)
    (sym (ap (λ r. outcome_of_row (outcome_of_taking r)) c.in-Ok.is)) c.in_ok-taken.ensures.taken
