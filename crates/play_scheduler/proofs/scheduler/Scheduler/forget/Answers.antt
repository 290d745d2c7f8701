-- A guard is forgotten.
use Rattle.std.specs.Prelude.{[], is_some}
use Rattle.std.proofs.Common.{refl, sym, ap, ◌∙◌}
use Rattle.seize_words.specs.declared.fault.Fault.TheVariants.{Busy}
use Rattle.run_schedules.specs.declared.event.Event.TheVariants.{Forget}
use Rattle.run_schedules.specs.declared.outcome.Outcome.TheVariants.{Done, Refused}
use Rattle.play_scheduler.proofs.Busy.{none_quiet}
use Rattle.play_scheduler.proofs.Seats.{not_forgotten, forgotten}
use Rattle.play_scheduler.proofs.Rights.{so_played}
use Rattle.play_scheduler.proofs.scheduler.Scheduler.forget.Goals as goal

pub returns-then-is_none-clause-plays : goal.returns-then-is_none-clause-plays
returns-then-is_none-clause-plays g c =
    λ same hash terms log due.
    so_played same hash terms log c.args.self.now (Forget c.args.guard.now) c.busy.result (Refused Busy) 0 [] c.busy.ensures.outcome c.busy.ensures.steps c.busy.ensures.effects
    (not_forgotten same hash terms log c.args.self.now c.args.guard.now due (sym (ap is_some c.slot_of_free.ensures) ∙ c.if-is_none.ensures))

pub returns-clause-plays : goal.returns-clause-plays
returns-clause-plays g c =
    λ same hash terms log due.
    so_played same hash terms log (record c.args.self.now { there = c.forget.new.self }) (Forget c.args.guard.now) c.quietly.result Done 0 [] c.quietly.ensures.outcome c.quietly.ensures.steps c.quietly.ensures.effects
    (forgotten same hash terms log c.args.self.now c.args.guard.now due (sym (ap is_some c.slot_of_free.ensures) ∙ c.if-is_none.ensures) c.forget.new.self c.forget.ensures)

pub returns-then-is_none-clause-quiet : goal.returns-then-is_none-clause-quiet
returns-then-is_none-clause-quiet g c = none_quiet c.busy.result.outcome c.busy.result.effects.items c.busy.ensures.effects

pub returns-clause-quiet : goal.returns-clause-quiet
returns-clause-quiet g c = none_quiet c.quietly.result.outcome c.quietly.result.effects.items c.quietly.ensures.effects

pub returns-then-is_none-clause-works : goal.returns-then-is_none-clause-works
returns-then-is_none-clause-works g c = (refl, (c.busy.ensures.effects, refl))

pub returns-clause-works : goal.returns-clause-works
returns-clause-works g c = (refl, (c.quietly.ensures.effects, refl))
