-- The collector ends.
use Rattle.std.specs.Prelude.{◌==◌, ◌&&◌}
use Rattle.std.proofs.Common.{◌≡◌, Bool, true, false, [], length, refl, ap, sym, rules, ◌∙◌}
use Rattle.seize_words.specs.declared.fault.Fault.TheVariants.{Busy}
use Rattle.run_schedules.specs.Schedules.After.{moment}
use Rattle.run_schedules.specs.declared.event.Event.TheVariants.{Close}
use Rattle.run_schedules.specs.declared.outcome.Outcome.TheVariants.{Done, Refused}
use Rattle.play_scheduler.proofs.Busy.{none_quiet}
use Rattle.play_scheduler.specs.declared.scheduler.Scheduler.{Scheduler}
use Rattle.play_stepping.proofs.Mapping.AllWorks.{did_all, did_wait}
use Rattle.play_scheduler.proofs.Backs.{all_came, none_came}
use Rattle.play_stepping.proofs.Mapping.AllGiven.{has_closed, may_reclaim, nobody_has, not_closed}
use Rattle.play_scheduler.proofs.Rights.{so_played}
use Rattle.play_stepping.proofs.reclaims.close.Goals as goal

pub give_all_back-requires : goal.give_all_back-requires
give_all_back-requires g c =
    let r = c.requires in
    let gone = sym c.are_gone.ensures ∙ c.if-not-are_gone.false in (
      r.0,
      r.1,
      r.2.2.played.name,
      moment r.2.1,
      r.2.2.played.scene,
      r.2.3.lists,
      r.2.2.played.shown,
      nobody_has r.0 r.1 r.2.0 (moment r.2.1) c.args.scheduler.now r.2.2.played gone,
      may_reclaim r.0 r.1 r.2.0 (moment r.2.1) c.args.scheduler.now r.2.2.played gone r.2.3,
    )

pub returns-then-not-are_gone-clause-plays : goal.returns-then-not-are_gone-clause-plays
returns-then-not-are_gone-clause-plays g c =
    λ same hash terms log due may.
    so_played same hash terms log c.args.scheduler.now Close c.busy.result (Refused Busy) 0 [] c.busy.ensures.outcome c.busy.ensures.steps c.busy.ensures.effects
    (not_closed same hash terms log c.args.scheduler.now due (ap (λ (q : Bool). q && (length c.args.scheduler.now.maps == 0)) (sym c.are_gone.ensures ∙ c.if-not-are_gone.true)))

pub returns-then-not-is_empty-clause-plays : goal.returns-then-not-is_empty-clause-plays
returns-then-not-is_empty-clause-plays g c =
    λ same hash terms log due may.
    let some : (length c.args.scheduler.now.maps == 0) ≡ false = search (rules, c.is_empty.ensures, c.if-not-is_empty.true) in
    so_played same hash terms log c.args.scheduler.now Close c.busy-then-not-is_empty.result (Refused Busy) 0 [] c.busy-then-not-is_empty.ensures.outcome c.busy-then-not-is_empty.ensures.steps
    c.busy-then-not-is_empty.ensures.effects
    (not_closed same hash terms log c.args.scheduler.now due (ap (λ (q : Bool). q && (length c.args.scheduler.now.maps == 0)) (sym c.are_gone.ensures ∙ c.if-not-are_gone.false) ∙ some))

pub returns-clause-plays : goal.returns-clause-plays
returns-clause-plays g c =
    λ same hash terms log due may.
    let none : (length c.args.scheduler.now.maps == 0) ≡ true = search (rules, c.is_empty.ensures, c.if-not-is_empty.false) in
    has_closed same hash terms log c.args.scheduler.now due (sym c.are_gone.ensures ∙ c.if-not-are_gone.false) none may c.give_all_back.new.scheduler.logged c.no_effects-effects.result.items
    c.give_all_back.new.effects.items c.no_effects-effects.ensures c.in_ok-give_all_back.ensures.ran c.give_all_back.ensures.given.2 _ (ap {A = Scheduler _ _ _} {B = Scheduler _ _ _} (λ (x : Scheduler _ _ _). record x { is_closed = true }) c.in_ok-give_all_back.ensures.rest)

pub returns-then-not-are_gone-clause-back : goal.returns-then-not-are_gone-clause-back
returns-then-not-are_gone-clause-back g c = λ same hash terms log due may. none_came _ c.busy.result.effects.items c.args.back.now.items c.busy.ensures.effects

pub returns-then-not-is_empty-clause-back : goal.returns-then-not-is_empty-clause-back
returns-then-not-is_empty-clause-back g c = λ same hash terms log due may. none_came _ c.busy-then-not-is_empty.result.effects.items c.args.back.now.items c.busy-then-not-is_empty.ensures.effects

pub returns-clause-back : goal.returns-clause-back
returns-clause-back g c = λ same hash terms log due may.
    let gone = sym c.are_gone.ensures ∙ c.if-not-are_gone.false in
    all_came same hash terms log Close c.args.scheduler.now due c.args.back.now.items _ (nobody_has same hash terms (moment log) c.args.scheduler.now due.played gone)
    may.lists (may_reclaim same hash terms (moment log) c.args.scheduler.now due.played gone may) c.no_effects-effects.result.items c.give_all_back.new.effects.items c.no_effects-effects.ensures
    c.give_all_back.new.back.items c.in_ok-give_all_back.ensures.back

pub returns-then-not-are_gone-clause-quiet : goal.returns-then-not-are_gone-clause-quiet
returns-then-not-are_gone-clause-quiet g c = none_quiet c.busy.result.outcome c.busy.result.effects.items c.busy.ensures.effects

pub returns-then-not-is_empty-clause-quiet : goal.returns-then-not-is_empty-clause-quiet
returns-then-not-is_empty-clause-quiet g c = none_quiet c.busy-then-not-is_empty.result.outcome c.busy-then-not-is_empty.result.effects.items c.busy-then-not-is_empty.ensures.effects

pub returns-clause-quiet : goal.returns-clause-quiet
returns-clause-quiet g c = tt

pub returns-then-not-are_gone-clause-works : goal.returns-then-not-are_gone-clause-works
returns-then-not-are_gone-clause-works g c = did_wait c.args.scheduler.now c.busy.result c.busy.ensures.outcome c.busy.ensures.effects

pub returns-then-not-is_empty-clause-works : goal.returns-then-not-is_empty-clause-works
returns-then-not-is_empty-clause-works g c = did_wait c.args.scheduler.now c.busy-then-not-is_empty.result c.busy-then-not-is_empty.ensures.outcome c.busy-then-not-is_empty.ensures.effects

pub returns-clause-works : goal.returns-clause-works
returns-clause-works g c =
    did_all c.args.scheduler.now (record { outcome = Done; steps = 0; effects = c.give_all_back.new.effects }) (record c.give_all_back.new.scheduler { is_closed = true }) (ap (λ p. p.calls) c.in_ok-give_all_back.ensures.rest) refl (sym c.are_gone.ensures ∙ c.if-not-are_gone.false)
    c.no_effects-effects.result.items c.give_all_back.new.effects.items c.no_effects-effects.ensures refl c.give_all_back.new.scheduler.logged refl c.in_ok-give_all_back.ensures.gone
