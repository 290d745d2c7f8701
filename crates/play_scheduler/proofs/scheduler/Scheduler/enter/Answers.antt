-- A guard enters.
use Rattle.std.proofs.Common.{[], refl, sym, ap, ◌∙◌, arith}
use Rattle.std.proofs.lemmas.Bool.{lt-ltb}
use Rattle.seize_words.specs.declared.fault.Fault.TheVariants.{Busy, GuardsFull}
use Rattle.run_schedules.specs.declared.event.Event.TheVariants.{Enter}
use Rattle.run_schedules.specs.declared.outcome.Outcome.TheVariants.{Done, Refused}
use Rattle.play_scheduler.proofs.Busy.{none_quiet}
use Rattle.play_scheduler.proofs.Backs.{came_as, none_came, stayed_as}
use Rattle.play_scheduler.proofs.Enters.{guard_there, no_registration, full, may_enter, fits, joined, joined_first}
use Rattle.play_scheduler.proofs.KeptGiven.{given_as, given_still}
use Rattle.play_scheduler.proofs.Rights.{so_played}
use Rattle.run_shows.specs.declared.row.SlotCall.TheVariants as call
use Rattle.play_scheduler.proofs.Works.{did_none, did_refuse, did_row}
use Rattle.play_scheduler.proofs.scheduler.Scheduler.enter.Goals.{then-guards-eq0+in_ok-do_row, else-guards-eq0}
use Rattle.play_scheduler.proofs.scheduler.Scheduler.enter.Goals as goal

pub returns-then-has_guard-clause-plays : goal.returns-then-has_guard-clause-plays
returns-then-has_guard-clause-plays g c =
    λ same hash terms log due.
    so_played same hash terms log c.args.self.now (Enter c.args.guard c.args.registration.now) c.busy.result (Refused Busy) 0 [] c.busy.ensures.outcome c.busy.ensures.steps c.busy.ensures.effects
    (guard_there same hash terms log c.args.self.now c.args.guard c.args.registration.now due (sym c.has_guard.ensures ∙ c.if-has_guard.true))

pub returns-in_default-clause-plays : goal.returns-in_default-clause-plays
returns-in_default-clause-plays g c =
    λ same hash terms log due.
    so_played same hash terms log c.args.self.now (Enter c.args.guard c.args.registration.now) c.busy-in_default.result (Refused Busy) 0 [] c.busy-in_default.ensures.outcome
    c.busy-in_default.ensures.steps c.busy-in_default.ensures.effects
    (no_registration same hash terms log c.args.self.now c.args.guard c.args.registration.now due (sym c.slot_of_registration.ensures ∙ c.in_default.is))

pub returns-then-guards-ge-MOST_GUARDS-clause-plays : goal.returns-then-guards-ge-MOST_GUARDS-clause-plays
returns-then-guards-ge-MOST_GUARDS-clause-plays g c =
    λ same hash terms log due.
    so_played same hash terms log c.args.self.now (Enter c.args.guard c.args.registration.now) c.quietly.result (Refused GuardsFull) 0 [] c.quietly.ensures.outcome c.quietly.ensures.steps
    c.quietly.ensures.effects
    (full same hash terms log c.args.self.now c.args.guard c.args.registration.now due (sym c.has_guard.ensures ∙ c.if-has_guard.false) c.in-Some.slot
    (sym c.slot_of_registration.ensures ∙ c.in-Some.is) (let l = c.if-guards-ge-MOST_GUARDS.true in let e = c.guards_on-guards.ensures in grind (arith, l, e)))

pub do_row-requires : goal.do_row-requires
do_row-requires g c =
    let r = c.requires in
    let none = sym c.has_guard.ensures ∙ c.if-has_guard.false in
    let found = sym c.slot_of_registration.ensures ∙ c.in-Some.is in
    let first = sym c.guards_on-guards.ensures ∙ c.if-guards-eq0.true in
    record {
      fits = fits r.0 r.1 r.2.0 r.2.1 c.args.self.now c.args.guard c.args.registration.now r.2.2 none c.in-Some.slot found first;
      may = (r.0, r.1, r.2.2.played.name, _, r.2.2.played.scene, r.2.2.played.shown);
      begins = may_enter r.0 r.1 r.2.0 r.2.1 c.args.self.now c.args.guard c.args.registration.now r.2.2 none c.in-Some.slot found first;
    }

pub returns-clause-plays : goal.returns-clause-plays
returns-clause-plays g c =
    λ same hash terms log due.
    let none = sym c.has_guard.ensures ∙ c.if-has_guard.false in
    let found = sym c.slot_of_registration.ensures ∙ c.in-Some.is in
    let few = lt-ltb _ _ (let l = c.if-guards-ge-MOST_GUARDS.false in let e = c.guards_on-guards.ensures in omega (arith, l, e)) in
    elim c.if-guards-eq0.branch [
      | then-guards-eq0+in_ok-do_row w ↦
          joined_first same hash terms log c.args.self.now c.args.guard c.args.registration.now due none c.in-Some.slot found few c.if-guards-eq0.self c.if-guards-eq0.effects.items c.enter.new.self
          c.in_ok-enter.ensures (sym c.guards_on-guards.ensures ∙ w.if-guards-eq0.true) c.no_effects-effects.result.items w.do_row.new.effects.items c.no_effects-effects.ensures
          (ap (λ v. v.items) w.effects-is) w.do_row.new.self w.self-is w.do_row.ensures.rest w.in_ok-do_row.ensures.ran
      | else-guards-eq0 w ↦
          joined same hash terms log c.args.self.now c.args.guard c.args.registration.now due none c.in-Some.slot found few c.if-guards-eq0.self c.if-guards-eq0.effects.items c.enter.new.self
          c.in_ok-enter.ensures (λ z. w.if-guards-eq0.false (c.guards_on-guards.ensures ∙ z)) w.self-is (ap (λ v. v.items) w.effects-is ∙ c.no_effects-effects.ensures)
    ]

pub returns-in_err-enter-clause-given : goal.returns-in_err-enter-clause-given
returns-in_err-enter-clause-given g c =
    elim c.if-guards-eq0.branch [
      | then-guards-eq0+in_ok-do_row w ↦ given_as c.args.self.now w.do_row.new.self c.if-guards-eq0.self w.do_row.ensures.given w.self-is
      | else-guards-eq0 w ↦ given_still c.args.self.now c.if-guards-eq0.self w.self-is
    ]

pub returns-clause-given : goal.returns-clause-given
returns-clause-given g c =
    elim c.if-guards-eq0.branch [
      | then-guards-eq0+in_ok-do_row w ↦ given_as c.args.self.now w.do_row.new.self c.if-guards-eq0.self w.do_row.ensures.given w.self-is
      | else-guards-eq0 w ↦ given_still c.args.self.now c.if-guards-eq0.self w.self-is
    ]

pub returns-then-has_guard-clause-back : goal.returns-then-has_guard-clause-back
returns-then-has_guard-clause-back g c = λ same hash terms log due. none_came _ c.busy.result.effects.items c.args.back.now.items c.busy.ensures.effects

pub returns-in_default-clause-back : goal.returns-in_default-clause-back
returns-in_default-clause-back g c = λ same hash terms log due. none_came _ c.busy-in_default.result.effects.items c.args.back.now.items c.busy-in_default.ensures.effects

pub returns-then-guards-ge-MOST_GUARDS-clause-back : goal.returns-then-guards-ge-MOST_GUARDS-clause-back
returns-then-guards-ge-MOST_GUARDS-clause-back g c = λ same hash terms log due. none_came _ c.quietly.result.effects.items c.args.back.now.items c.quietly.ensures.effects

pub returns-clause-back : goal.returns-clause-back
returns-clause-back g c =
    λ same hash terms log due.
    elim c.if-guards-eq0.branch [
      | then-guards-eq0+in_ok-do_row w ↦
          came_as same hash terms log (Enter c.args.guard c.args.registration.now) c.args.self.now due c.args.back.now.items c.if-guards-eq0.effects.items c.no_effects-effects.result.items w.do_row.new.effects.items (ap (λ v. v.items) w.effects-is)
          c.no_effects-effects.ensures w.do_row.new.back.items c.if-guards-eq0.back.items (ap (λ v. v.items) w.back-is) w.in_ok-do_row.ensures.back
      | else-guards-eq0 w ↦
          stayed_as _ c.if-guards-eq0.effects.items c.args.back.now.items c.if-guards-eq0.back.items (ap (λ v. v.items) w.effects-is ∙ c.no_effects-effects.ensures) (ap (λ v. v.items) w.back-is)
    ]

pub returns-then-has_guard-clause-quiet : goal.returns-then-has_guard-clause-quiet
returns-then-has_guard-clause-quiet g c = none_quiet c.busy.result.outcome c.busy.result.effects.items c.busy.ensures.effects

pub returns-in_default-clause-quiet : goal.returns-in_default-clause-quiet
returns-in_default-clause-quiet g c = none_quiet c.busy-in_default.result.outcome c.busy-in_default.result.effects.items c.busy-in_default.ensures.effects

pub returns-then-guards-ge-MOST_GUARDS-clause-quiet : goal.returns-then-guards-ge-MOST_GUARDS-clause-quiet
returns-then-guards-ge-MOST_GUARDS-clause-quiet g c = none_quiet c.quietly.result.outcome c.quietly.result.effects.items c.quietly.ensures.effects

pub returns-clause-quiet : goal.returns-clause-quiet
returns-clause-quiet g c = tt

pub returns-then-has_guard-clause-works : goal.returns-then-has_guard-clause-works
returns-then-has_guard-clause-works g c = did_refuse (Enter c.args.guard c.args.registration.now) c.args.self.now c.busy.result Busy c.busy.ensures.outcome c.busy.ensures.effects

pub returns-in_default-clause-works : goal.returns-in_default-clause-works
returns-in_default-clause-works g c = did_refuse (Enter c.args.guard c.args.registration.now) c.args.self.now c.busy-in_default.result Busy c.busy-in_default.ensures.outcome c.busy-in_default.ensures.effects

pub returns-then-guards-ge-MOST_GUARDS-clause-works : goal.returns-then-guards-ge-MOST_GUARDS-clause-works
returns-then-guards-ge-MOST_GUARDS-clause-works g c = did_refuse (Enter c.args.guard c.args.registration.now) c.args.self.now c.quietly.result GuardsFull c.quietly.ensures.outcome c.quietly.ensures.effects

pub returns-clause-works : goal.returns-clause-works
returns-clause-works g c =
    elim c.if-guards-eq0.branch [
      | then-guards-eq0+in_ok-do_row w ↦
          did_row (Enter c.args.guard c.args.registration.now) c.args.self.now (record { outcome = Done; steps = 0; effects = c.if-guards-eq0.effects }) c.in-Some.slot (sym c.has_guard.ensures ∙ c.if-has_guard.false, sym c.slot_of_registration.ensures ∙ c.in-Some.is)
          (record c.if-guards-eq0.self { there = c.enter.new.self }) (ap (λ p. p.calls) (w.self-is ∙ w.do_row.ensures.rest)) call.Enter
          (refl, sym c.guards_on-guards.ensures ∙ w.if-guards-eq0.true) c.no_effects-effects.result.items w.do_row.new.effects.items c.no_effects-effects.ensures (ap (λ v. v.items) w.effects-is)
          w.do_row.new.self.logged (ap (λ p. p.logged) w.self-is) (λ said. refl) w.in_ok-do_row.ensures.ran
      | else-guards-eq0 w ↦
          did_none (Enter c.args.guard c.args.registration.now) c.args.self.now (record { outcome = Done; steps = 0; effects = c.if-guards-eq0.effects }) c.in-Some.slot (sym c.has_guard.ensures ∙ c.if-has_guard.false, sym c.slot_of_registration.ensures ∙ c.in-Some.is)
          (record c.if-guards-eq0.self { there = c.enter.new.self }) (ap (λ p. p.calls) w.self-is) refl (λ z. w.if-guards-eq0.false (c.guards_on-guards.ensures ∙ z))
          (ap (λ v. v.items) w.effects-is ∙ c.no_effects-effects.ensures) (ap (λ p. p.logged) w.self-is)
    ]
