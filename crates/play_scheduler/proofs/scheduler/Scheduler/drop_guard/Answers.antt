-- A guard ends.
use Rattle.std.proofs.Common.{[], refl, sym, ap, subst, ◌∙◌}
use Rattle.seize_words.specs.declared.fault.Fault.TheVariants.{Busy}
use Rattle.run_schedules.specs.declared.event.Event.TheVariants.{DropGuard}
use Rattle.run_schedules.specs.declared.outcome.Outcome.TheVariants.{Done, Refused}
use Rattle.run_shows.specs.declared.row.SlotCall.{SlotCall}
use Rattle.play_scheduler.proofs.Busy.{none_quiet}
use Rattle.play_scheduler.proofs.Backs.{came_as, none_came, stayed_as}
use Rattle.play_scheduler.proofs.Drops.{not_free, may_leave, its_fits, joined, joined_alone}
use Rattle.play_scheduler.proofs.KeptGiven.{given_as, given_still}
use Rattle.play_scheduler.proofs.Rights.{so_played}
use Rattle.play_scheduler.proofs.Works.{did_none, did_refuse, did_row}
use Rattle.play_scheduler.proofs.scheduler.Scheduler.drop_guard.Goals as goal
use Rattle.play_scheduler.proofs.scheduler.Scheduler.drop_guard.Goals.{then-guards_on-eq1+in_ok-do_row, else-guards_on-eq1}
use Rattle.run_executor.specs.Executing.OnSlots.{MayBegin}

pub returns-in_default-clause-plays : goal.returns-in_default-clause-plays
returns-in_default-clause-plays g c =
    λ same hash terms log due.
    so_played same hash terms log c.args.self.now (DropGuard c.args.guard.now) c.busy.result (Refused Busy) 0 [] c.busy.ensures.outcome c.busy.ensures.steps c.busy.ensures.effects
    (not_free same hash terms log c.args.self.now c.args.guard.now due (sym c.slot_of_free.ensures ∙ c.in_default.is))

pub do_row-requires : goal.do_row-requires
do_row-requires g c =
    let r = c.requires in
    let free = sym c.slot_of_free.ensures ∙ c.in-Some.is in
    let one = sym c.guards_on.ensures ∙ c.if-guards_on-eq1.true in
    record {
      fits = its_fits r.0 r.1 r.2.0 r.2.1 c.args.self.now c.args.guard.now r.2.2 c.in-Some.slot free one;
      may = (r.0, r.1, r.2.2.played.name, _, r.2.2.played.scene, r.2.2.played.shown);
      begins = subst (λ (x : SlotCall). MayBegin c.args.self.now.logged.executor c.in-Some.slot x) (sym c.leaves_as-called.ensures)
          (may_leave r.0 r.1 r.2.0 r.2.1 c.args.self.now c.args.guard.now r.2.2 c.in-Some.slot free one);
    }

pub returns-clause-plays : goal.returns-clause-plays
returns-clause-plays g c =
    λ same hash terms log due.
    let free = sym c.slot_of_free.ensures ∙ c.in-Some.is in
    elim c.if-guards_on-eq1.branch [
      | then-guards_on-eq1+in_ok-do_row w ↦
          joined_alone same hash terms log c.args.self.now c.args.guard.now due c.in-Some.slot free c.if-guards_on-eq1.self c.if-guards_on-eq1.effects.items c.leave.new.self c.leave.ensures
          (sym c.guards_on.ensures ∙ w.if-guards_on-eq1.true) c.no_effects-effects.result.items w.do_row.new.effects.items c.no_effects-effects.ensures
          (ap (λ v. v.items) w.effects-is) w.do_row.new.self w.self-is w.do_row.ensures.rest w.leaves_as-called.result w.leaves_as-called.ensures w.in_ok-do_row.ensures.ran
      | else-guards_on-eq1 w ↦
          joined same hash terms log c.args.self.now c.args.guard.now due c.in-Some.slot free c.if-guards_on-eq1.self c.if-guards_on-eq1.effects.items c.leave.new.self c.leave.ensures
          (λ z. w.if-guards_on-eq1.false (c.guards_on.ensures ∙ z)) w.self-is (ap (λ v. v.items) w.effects-is ∙ c.no_effects-effects.ensures)
    ]

pub returns-clause-given : goal.returns-clause-given
returns-clause-given g c =
    elim c.if-guards_on-eq1.branch [
      | then-guards_on-eq1+in_ok-do_row w ↦ given_as c.args.self.now w.do_row.new.self c.if-guards_on-eq1.self w.do_row.ensures.given w.self-is
      | else-guards_on-eq1 w ↦ given_still c.args.self.now c.if-guards_on-eq1.self w.self-is
    ]

pub returns-in_default-clause-back : goal.returns-in_default-clause-back
returns-in_default-clause-back g c = λ same hash terms log due. none_came _ c.busy.result.effects.items c.args.back.now.items c.busy.ensures.effects

pub returns-clause-back : goal.returns-clause-back
returns-clause-back g c =
    λ same hash terms log due.
    elim c.if-guards_on-eq1.branch [
      | then-guards_on-eq1+in_ok-do_row w ↦
          came_as same hash terms log (DropGuard c.args.guard.now) c.args.self.now due c.args.back.now.items c.if-guards_on-eq1.effects.items c.no_effects-effects.result.items w.do_row.new.effects.items (ap (λ v. v.items) w.effects-is)
          c.no_effects-effects.ensures w.do_row.new.back.items c.if-guards_on-eq1.back.items (ap (λ v. v.items) w.back-is) w.in_ok-do_row.ensures.back
      | else-guards_on-eq1 w ↦
          stayed_as _ c.if-guards_on-eq1.effects.items c.args.back.now.items c.if-guards_on-eq1.back.items (ap (λ v. v.items) w.effects-is ∙ c.no_effects-effects.ensures) (ap (λ v. v.items) w.back-is)
    ]

pub returns-in_default-clause-quiet : goal.returns-in_default-clause-quiet
returns-in_default-clause-quiet g c = none_quiet c.busy.result.outcome c.busy.result.effects.items c.busy.ensures.effects

pub returns-clause-quiet : goal.returns-clause-quiet
returns-clause-quiet g c = tt

pub returns-in_default-clause-works : goal.returns-in_default-clause-works
returns-in_default-clause-works g c = did_refuse (DropGuard c.args.guard.now) c.args.self.now c.busy.result Busy c.busy.ensures.outcome c.busy.ensures.effects

pub returns-clause-works : goal.returns-clause-works
returns-clause-works g c =
    let free = sym c.slot_of_free.ensures ∙ c.in-Some.is in
    elim c.if-guards_on-eq1.branch [
      | then-guards_on-eq1+in_ok-do_row w ↦
          did_row (DropGuard c.args.guard.now) c.args.self.now (record { outcome = Done; steps = 0; effects = c.if-guards_on-eq1.effects }) c.in-Some.slot free
          (record c.if-guards_on-eq1.self { there = c.leave.new.self }) (ap (λ p. p.calls) (w.self-is ∙ w.do_row.ensures.rest)) w.leaves_as-called.result
          (w.leaves_as-called.ensures, sym c.guards_on.ensures ∙ w.if-guards_on-eq1.true) c.no_effects-effects.result.items w.do_row.new.effects.items c.no_effects-effects.ensures
          (ap (λ v. v.items) w.effects-is) w.do_row.new.self.logged (ap (λ p. p.logged) w.self-is) (λ said. refl) w.in_ok-do_row.ensures.ran
      | else-guards_on-eq1 w ↦
          did_none (DropGuard c.args.guard.now) c.args.self.now (record { outcome = Done; steps = 0; effects = c.if-guards_on-eq1.effects }) c.in-Some.slot free
          (record c.if-guards_on-eq1.self { there = c.leave.new.self }) (ap (λ p. p.calls) w.self-is) refl (λ z. w.if-guards_on-eq1.false (c.guards_on.ensures ∙ z))
          (ap (λ v. v.items) w.effects-is ∙ c.no_effects-effects.ensures) (ap (λ p. p.logged) w.self-is)
    ]
