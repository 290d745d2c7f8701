-- A registration ends.
use Rattle.std.proofs.Common.{[], refl, sym, ap, ◌∙◌}
use Rattle.seize_words.specs.declared.fault.Fault.TheVariants.{Busy}
use Rattle.run_schedules.specs.declared.event.Event.TheVariants.{Unregister}
use Rattle.run_schedules.specs.declared.outcome.Outcome.TheVariants.{Done, Refused}
use Rattle.play_scheduler.proofs.Busy.{none_quiet}
use Rattle.play_scheduler.proofs.Backs.{came_as, none_came, stayed_as}
use Rattle.play_scheduler.proofs.Unregisters.{not_registered, guards_live, may_free, fits, joined, joined_last}
use Rattle.play_scheduler.proofs.KeptGiven.{given_as, given_still}
use Rattle.play_scheduler.proofs.Rights.{so_played}
use Rattle.run_shows.specs.declared.row.SlotCall.TheVariants as call
use Rattle.play_scheduler.proofs.Works.{did_none, did_refuse, did_row}
use Rattle.play_scheduler.proofs.scheduler.Scheduler.unregister.Goals as goal
use Rattle.play_scheduler.proofs.scheduler.Scheduler.unregister.Goals.{in_default-via-in-Some+else-living_on-eq0, in_default-via-in_default, then-guards_on-eq0+in_ok-do_row, else-guards_on-eq0}
use Rattle.std.proofs.lemmas.Bool.{eq-eqb, ne_eqb}

pub returns-in_default-clause-plays : goal.returns-in_default-clause-plays
returns-in_default-clause-plays g c =
    λ same hash terms log due.
    so_played same hash terms log c.args.self.now (Unregister c.args.registration.now) c.busy.result (Refused Busy) 0 [] c.busy.ensures.outcome c.busy.ensures.steps c.busy.ensures.effects
    (elim c.in_default.branch [
      | in_default-via-in-Some+else-living_on-eq0 w ↦
          guards_live same hash terms log c.args.self.now c.args.registration.now due w.in-Some.slot (sym c.slot_of_registration.ensures ∙ w.in-Some.is)
          (ne_eqb _ _ (λ e. w.if-living_on-eq0.false (w.living_on.ensures ∙ e)))
      | in_default-via-in_default w ↦
          not_registered same hash terms log c.args.self.now c.args.registration.now due (sym c.slot_of_registration.ensures ∙ w.in_default.is)
    ])

pub do_row-requires-clause-fits : goal.do_row-requires-clause-fits
do_row-requires-clause-fits g c =
    let r = c.requires in
    fits r.0 r.1 r.2.0 r.2.1 c.args.self.now c.args.registration.now r.2.2 c.in-Some.slot (sym c.slot_of_registration.ensures ∙ c.in-Some.is)
    (eq-eqb _ _ (sym c.living_on.ensures ∙ c.if-living_on-eq0.true)) (sym c.guards_on.ensures ∙ c.if-guards_on-eq0.true)

pub do_row-requires-clause-begins : goal.do_row-requires-clause-begins
do_row-requires-clause-begins g c =
    let r = c.requires in
    may_free r.0 r.1 r.2.0 r.2.1 c.args.self.now c.args.registration.now r.2.2 c.in-Some.slot (sym c.slot_of_registration.ensures ∙ c.in-Some.is)
    (eq-eqb _ _ (sym c.living_on.ensures ∙ c.if-living_on-eq0.true)) (sym c.guards_on.ensures ∙ c.if-guards_on-eq0.true)

pub returns-clause-plays : goal.returns-clause-plays
returns-clause-plays g c =
    λ same hash terms log due.
    let found = sym c.slot_of_registration.ensures ∙ c.in-Some.is in
    let none_live = eq-eqb _ _ (sym c.living_on.ensures ∙ c.if-living_on-eq0.true) in
    elim c.if-guards_on-eq0.branch [
      | then-guards_on-eq0+in_ok-do_row w ↦
          joined_last same hash terms log c.args.self.now c.args.registration.now due c.in-Some.slot found none_live c.if-guards_on-eq0.self c.if-guards_on-eq0.effects.items c.unregister.new.self
          c.unregister.ensures (sym c.guards_on.ensures ∙ w.if-guards_on-eq0.true) c.no_effects-effects.result.items w.do_row.new.effects.items c.no_effects-effects.ensures
          (ap (λ v. v.items) w.effects-is) w.do_row.new.self w.self-is w.do_row.ensures.rest w.in_ok-do_row.ensures.ran
      | else-guards_on-eq0 w ↦
          joined same hash terms log c.args.self.now c.args.registration.now due c.in-Some.slot found none_live c.if-guards_on-eq0.self c.if-guards_on-eq0.effects.items c.unregister.new.self
          c.unregister.ensures (λ z. w.if-guards_on-eq0.false (c.guards_on.ensures ∙ z)) w.self-is (ap (λ v. v.items) w.effects-is ∙ c.no_effects-effects.ensures)
    ]

pub returns-clause-given : goal.returns-clause-given
returns-clause-given g c =
    elim c.if-guards_on-eq0.branch [
      | then-guards_on-eq0+in_ok-do_row w ↦ given_as c.args.self.now w.do_row.new.self c.if-guards_on-eq0.self w.do_row.ensures.given w.self-is
      | else-guards_on-eq0 w ↦ given_still c.args.self.now c.if-guards_on-eq0.self w.self-is
    ]

pub returns-in_default-clause-back : goal.returns-in_default-clause-back
returns-in_default-clause-back g c = λ same hash terms log due. none_came _ c.busy.result.effects.items c.args.back.now.items c.busy.ensures.effects

pub returns-clause-back : goal.returns-clause-back
returns-clause-back g c =
    λ same hash terms log due.
    elim c.if-guards_on-eq0.branch [
      | then-guards_on-eq0+in_ok-do_row w ↦
          came_as same hash terms log (Unregister c.args.registration.now) c.args.self.now due c.args.back.now.items c.if-guards_on-eq0.effects.items c.no_effects-effects.result.items w.do_row.new.effects.items (ap (λ v. v.items) w.effects-is)
          c.no_effects-effects.ensures w.do_row.new.back.items c.if-guards_on-eq0.back.items (ap (λ v. v.items) w.back-is) w.in_ok-do_row.ensures.back
      | else-guards_on-eq0 w ↦
          stayed_as _ c.if-guards_on-eq0.effects.items c.args.back.now.items c.if-guards_on-eq0.back.items (ap (λ v. v.items) w.effects-is ∙ c.no_effects-effects.ensures) (ap (λ v. v.items) w.back-is)
    ]

pub returns-in_default-clause-quiet : goal.returns-in_default-clause-quiet
returns-in_default-clause-quiet g c = none_quiet c.busy.result.outcome c.busy.result.effects.items c.busy.ensures.effects

pub returns-clause-quiet : goal.returns-clause-quiet
returns-clause-quiet g c = tt

pub returns-in_default-clause-works : goal.returns-in_default-clause-works
returns-in_default-clause-works g c = did_refuse (Unregister c.args.registration.now) c.args.self.now c.busy.result Busy c.busy.ensures.outcome c.busy.ensures.effects

pub returns-clause-works : goal.returns-clause-works
returns-clause-works g c =
    elim c.if-guards_on-eq0.branch [
      | then-guards_on-eq0+in_ok-do_row w ↦
          did_row (Unregister c.args.registration.now) c.args.self.now (record { outcome = Done; steps = 0; effects = c.if-guards_on-eq0.effects }) c.in-Some.slot (sym c.slot_of_registration.ensures ∙ c.in-Some.is, eq-eqb _ _ (sym c.living_on.ensures ∙ c.if-living_on-eq0.true))
          (record c.if-guards_on-eq0.self { there = c.unregister.new.self }) (ap (λ p. p.calls) (w.self-is ∙ w.do_row.ensures.rest)) call.Unregister
          (refl, sym c.guards_on.ensures ∙ w.if-guards_on-eq0.true) c.no_effects-effects.result.items w.do_row.new.effects.items c.no_effects-effects.ensures (ap (λ v. v.items) w.effects-is)
          w.do_row.new.self.logged (ap (λ p. p.logged) w.self-is) (λ said. refl) w.in_ok-do_row.ensures.ran
      | else-guards_on-eq0 w ↦
          did_none (Unregister c.args.registration.now) c.args.self.now (record { outcome = Done; steps = 0; effects = c.if-guards_on-eq0.effects }) c.in-Some.slot (sym c.slot_of_registration.ensures ∙ c.in-Some.is, eq-eqb _ _ (sym c.living_on.ensures ∙ c.if-living_on-eq0.true))
          (record c.if-guards_on-eq0.self { there = c.unregister.new.self }) (ap (λ p. p.calls) w.self-is) refl (λ z. w.if-guards_on-eq0.false (c.guards_on.ensures ∙ z))
          (ap (λ v. v.items) w.effects-is ∙ c.no_effects-effects.ensures) (ap (λ p. p.logged) w.self-is)
    ]
