-- Everything is reclaimed.
use Rattle.std.proofs.Common.{[], refl, ap, sym, ◌∙◌}
use Rattle.seize_words.specs.declared.fault.Fault.TheVariants.{Busy}
use Rattle.run_schedules.specs.Schedules.After.{moment}
use Rattle.run_schedules.specs.declared.event.Event.TheVariants.{ReclaimAll}
use Rattle.run_schedules.specs.declared.outcome.Outcome.TheVariants.{Done, Refused}
use Rattle.play_scheduler.proofs.Busy.{none_quiet}
use Rattle.play_stepping.proofs.Mapping.AllWorks.{did_all, did_wait}
use Rattle.play_scheduler.proofs.Backs.{all_came, none_came}
use Rattle.play_stepping.proofs.Mapping.AllGiven.{all_reclaimed, may_reclaim, nobody_has, not_left}
use Rattle.play_scheduler.proofs.Rights.{so_played}
use Rattle.play_stepping.proofs.reclaims.reclaim_all.Goals as goal

pub returns-then-not-are_gone-clause-plays : goal.returns-then-not-are_gone-clause-plays
returns-then-not-are_gone-clause-plays g c =
    λ same hash terms log due may.
    so_played same hash terms log c.args.scheduler.now ReclaimAll c.busy.result (Refused Busy) 0 [] c.busy.ensures.outcome c.busy.ensures.steps c.busy.ensures.effects
    (not_left same hash terms log c.args.scheduler.now due (sym c.are_gone.ensures ∙ c.if-not-are_gone.true))

pub give_all_back-requires : goal.give_all_back-requires
give_all_back-requires g c =
    let r = c.requires in
    let gone = sym c.are_gone.ensures ∙ c.if-not-are_gone.false in (
      r.0,
      r.1,
      r.2.2.played.name,
      moment r.2.1,
      r.2.2.played.scene,
      r.2.3.lists,
      r.2.2.played.shown,
      nobody_has r.0 r.1 r.2.0 (moment r.2.1) c.args.scheduler.now r.2.2.played gone,
      may_reclaim r.0 r.1 r.2.0 (moment r.2.1) c.args.scheduler.now r.2.2.played gone r.2.3,
    )

pub returns-clause-plays : goal.returns-clause-plays
returns-clause-plays g c =
    λ same hash terms log due may.
    all_reclaimed same hash terms log c.args.scheduler.now due (sym c.are_gone.ensures ∙ c.if-not-are_gone.false) may c.give_all_back.new.scheduler.logged c.no_effects-effects.result.items c.give_all_back.new.effects.items
    c.no_effects-effects.ensures c.in_ok-give_all_back.ensures.ran c.give_all_back.ensures.given.2 _ c.in_ok-give_all_back.ensures.rest

pub returns-then-not-are_gone-clause-back : goal.returns-then-not-are_gone-clause-back
returns-then-not-are_gone-clause-back g c = λ same hash terms log due may. none_came _ c.busy.result.effects.items c.args.back.now.items c.busy.ensures.effects

pub returns-clause-back : goal.returns-clause-back
returns-clause-back g c = λ same hash terms log due may.
    let gone = sym c.are_gone.ensures ∙ c.if-not-are_gone.false in
    all_came same hash terms log ReclaimAll c.args.scheduler.now due c.args.back.now.items _ (nobody_has same hash terms (moment log) c.args.scheduler.now due.played gone)
    may.lists (may_reclaim same hash terms (moment log) c.args.scheduler.now due.played gone may) c.no_effects-effects.result.items c.give_all_back.new.effects.items c.no_effects-effects.ensures
    c.give_all_back.new.back.items c.in_ok-give_all_back.ensures.back

pub returns-then-not-are_gone-clause-quiet : goal.returns-then-not-are_gone-clause-quiet
returns-then-not-are_gone-clause-quiet g c = none_quiet c.busy.result.outcome c.busy.result.effects.items c.busy.ensures.effects

pub returns-clause-quiet : goal.returns-clause-quiet
returns-clause-quiet g c = tt

pub returns-then-not-are_gone-clause-works : goal.returns-then-not-are_gone-clause-works
returns-then-not-are_gone-clause-works g c = did_wait c.args.scheduler.now c.busy.result c.busy.ensures.outcome c.busy.ensures.effects

pub returns-clause-works : goal.returns-clause-works
returns-clause-works g c =
    did_all c.args.scheduler.now (record { outcome = Done; steps = 0; effects = c.give_all_back.new.effects }) c.give_all_back.new.scheduler (ap (λ p. p.calls) c.in_ok-give_all_back.ensures.rest) refl (sym c.are_gone.ensures ∙ c.if-not-are_gone.false) c.no_effects-effects.result.items
    c.give_all_back.new.effects.items c.no_effects-effects.ensures refl c.give_all_back.new.scheduler.logged refl c.in_ok-give_all_back.ensures.gone
