-- The next pair of a walk is shown, or that there is none.
use Rattle.std.specs.Prelude.{is_some}
use Rattle.std.proofs.Common.{[], refl, sym, ap, subst, ◌∙◌}
use Rattle.seize_words.specs.declared.fault.Fault.TheVariants.{Busy}
use Rattle.run_schedules.specs.Schedules.After.{moment}
use Rattle.run_schedules.specs.declared.event.Event.TheVariants.{Next}
use Rattle.run_schedules.specs.declared.outcome.Outcome.TheVariants.{Refused}
use Rattle.play_scheduler.proofs.Given.ShedsKeptGiven.{given_on}
use Rattle.play_scheduler.proofs.KeptGiven.{given_as}
use Rattle.play_scheduler.specs.Given.LoggedCalling.{WalkContinues}
use Rattle.play_stepping.specs.EventSteps.Stepping.{MayWalk, PlaysNext, WalkComes}
use Rattle.play_stepping.proofs.EventSteps.ByName.{none_told}
use Rattle.play_stepping.proofs.EventSteps.NextEnds.{asked_here, next_asked, next_busy, next_may, next_ready, placed_there, plays_next, there}
use Rattle.play_stepping.proofs.EventSteps.NextTook.{took_next}
use Rattle.play_scheduler.proofs.Rights.{entry, entry_is}
use Rattle.play_stepping.proofs.walking.next.Goals as goal
use Rattle.play_scheduler.specs.Given.ScenesScene.{HasCall}
use Rattle.seize_words.proofs.General.{same_some as the}

pub returns-in_default : goal.returns-in_default
returns-in_default g c = record {
  plays = λ terms log due.
      let hash = g.S.Hashes.hash c.args.scheduler.now.logged.executor.hasher in
      subst (λ e. PlaysNext g.K.PartialEq.eq hash terms log e c.args.scheduler.now)
      (sym (entry_is (Next c.args.caller.now) c.busy.result (Refused Busy) 0 [] c.busy.ensures.outcome c.busy.ensures.steps c.busy.ensures.effects))
      (next_busy g.K.PartialEq.eq hash terms log c.args.caller.now c.args.scheduler.now due (sym (none_told _ c.ready_number.result (ap is_some c.in_default.is) c.ready_number.ensures)));
  took = (
    λ place is. absurd (let none = none_told _ c.ready_number.result (ap is_some c.in_default.is) c.ready_number.ensures in cc (is, none)),
    λ none. (c.busy.ensures.outcome, c.busy.ensures.steps, c.busy.ensures.effects, refl),
  );
  given = (refl, refl, refl, refl);
}

pub next-requires : goal.next-requires
next-requires g c =
    let r = c.requires in
    let hash = g.S.Hashes.hash c.args.scheduler.now.logged.executor.hasher in
    let n = c.in-Some.ensures in
    let here = asked_here g.K.PartialEq.eq hash r.0 r.1 c.args.caller.now c.args.scheduler.now r.2 n.0 (sym n.2) in
    let numbered = n.4 ∙ ap (λ d. d.number) (the n.1 here.caller (sym n.3 ∙ here.at)) in (
      g.K.PartialEq.eq,
      hash,
      r.2.played.scene,
      r.2.played.shown.is_at,
      subst (λ k. HasCall r.2.played.scene k) (sym numbered) (next_may g.K.PartialEq.eq hash r.0 r.1 c.args.caller.now c.args.scheduler.now r.2 n.0 (sym n.2)),
    )

pub walk_on-requires : goal.walk_on-requires
walk_on-requires g c =
    let r = c.requires in
    let hash = g.S.Hashes.hash c.args.scheduler.now.logged.executor.hasher in
    let n = c.in-Some.ensures in
    let here = asked_here g.K.PartialEq.eq hash r.0 r.1 c.args.caller.now c.args.scheduler.now r.2 n.0 (sym n.2) in
    let numbered = n.4 ∙ ap (λ d. d.number) (the n.1 here.caller (sym n.3 ∙ here.at)) in
    subst (λ h. MayWalk g.K.PartialEq.eq (g.S.Hashes.hash h) c.args.caller.now (record c.args.scheduler.now { logged = c.next.new.self })) (sym c.next.ensures.given.0) (
      r.0,
      moment r.1,
      n.0,
      next_asked g.K.PartialEq.eq hash r.0 r.1 c.args.caller.now c.args.scheduler.now r.2 n.0 (sym n.2) c.next.result c.next.new.self
          (subst (λ k. WalkContinues g.K.PartialEq.eq hash r.2.played.name (moment r.1) r.2.played.scene k c.next.result c.args.scheduler.now.logged c.next.new.self) numbered
          (c.next.ensures.leads g.K.PartialEq.eq hash r.2.played.name (moment r.1) r.2.played.scene r.2.played.shown)),
      next_ready g.K.PartialEq.eq hash r.0 r.1 c.args.caller.now c.args.scheduler.now r.2 n.0 (sym n.2) c.next.new.self,
    )

pub come_to-outcome-requires : goal.come_to-outcome-requires
come_to-outcome-requires g c =
    let r = c.requires in
    let hash = g.S.Hashes.hash c.args.scheduler.now.logged.executor.hasher in
    let n = c.in-Some.ensures in
    let here = asked_here g.K.PartialEq.eq hash r.0 r.1 c.args.caller.now c.args.scheduler.now r.2 n.0 (sym n.2) in
    let numbered = n.4 ∙ ap (λ d. d.number) (the n.1 here.caller (sym n.3 ∙ here.at)) in
    let asked = record c.args.scheduler.now { logged = c.next.new.self } in
    let stands = next_asked g.K.PartialEq.eq hash r.0 r.1 c.args.caller.now c.args.scheduler.now r.2 n.0 (sym n.2) c.next.result c.next.new.self
    (subst (λ k. WalkContinues g.K.PartialEq.eq hash r.2.played.name (moment r.1) r.2.played.scene k c.next.result c.args.scheduler.now.logged c.next.new.self) numbered
    (c.next.ensures.leads g.K.PartialEq.eq hash r.2.played.name (moment r.1) r.2.played.scene r.2.played.shown)) in
    let at_place = next_ready g.K.PartialEq.eq hash r.0 r.1 c.args.caller.now c.args.scheduler.now r.2 n.0 (sym n.2) c.next.new.self in
    let comes = subst (λ h. WalkComes g.K.PartialEq.eq (g.S.Hashes.hash h) n.0 c.in_ok-come.come.1 c.in_ok-come.come.0 [] c.walk_on.new.effects.items asked c.walk_on.new.scheduler) c.next.ensures.given.0
    (subst (λ l. WalkComes g.K.PartialEq.eq (g.S.Hashes.hash c.next.new.self.executor.hasher) n.0 c.in_ok-come.come.1 c.in_ok-come.come.0 l c.walk_on.new.effects.items asked c.walk_on.new.scheduler)
    c.no_effects-effects.ensures (c.in_ok-come.ensures.comes n.0 at_place.0)) in (
      n.0,
      _,
      (
        placed_there g.K.PartialEq.eq hash r.0 r.1 c.args.caller.now c.args.scheduler.now r.2 n.0 asked stands at_place c.in_ok-come.come.1 c.in_ok-come.come.0 c.walk_on.new.effects.items
            c.walk_on.new.scheduler comes,
        there g.K.PartialEq.eq hash r.0 r.1 c.args.caller.now c.args.scheduler.now r.2 n.0 asked stands at_place c.in_ok-come.come.1 c.in_ok-come.come.0 c.walk_on.new.effects.items
            c.walk_on.new.scheduler comes,
      ),
    )

pub returns : goal.returns
returns g c = record {
  plays = λ terms log due.
      let hash = g.S.Hashes.hash c.args.scheduler.now.logged.executor.hasher in
      let own = c.args.caller.now in
      let n = c.in-Some.ensures in
      let here = asked_here g.K.PartialEq.eq hash terms log own c.args.scheduler.now due n.0 (sym n.2) in
      let numbered = n.4 ∙ ap (λ d. d.number) (the n.1 here.caller (sym n.3 ∙ here.at)) in
      let asked = record c.args.scheduler.now { logged = c.next.new.self } in
      let stands = next_asked g.K.PartialEq.eq hash terms log own c.args.scheduler.now due n.0 (sym n.2) c.next.result c.next.new.self
      (subst (λ k. WalkContinues g.K.PartialEq.eq hash due.played.name (moment log) due.played.scene k c.next.result c.args.scheduler.now.logged c.next.new.self) numbered
      (c.next.ensures.leads g.K.PartialEq.eq hash due.played.name (moment log) due.played.scene due.played.shown)) in
      let at_place = next_ready g.K.PartialEq.eq hash terms log own c.args.scheduler.now due n.0 (sym n.2) c.next.new.self in
      let comes = subst (λ h. WalkComes g.K.PartialEq.eq (g.S.Hashes.hash h) n.0 c.in_ok-come.come.1 c.in_ok-come.come.0 [] c.walk_on.new.effects.items asked c.walk_on.new.scheduler) c.next.ensures.given.0
      (subst (λ l. WalkComes g.K.PartialEq.eq (g.S.Hashes.hash c.next.new.self.executor.hasher) n.0 c.in_ok-come.come.1 c.in_ok-come.come.0 l c.walk_on.new.effects.items asked c.walk_on.new.scheduler)
      c.no_effects-effects.ensures (c.in_ok-come.ensures.comes n.0 at_place.0)) in
      let placed = placed_there g.K.PartialEq.eq hash terms log own c.args.scheduler.now due n.0 asked stands at_place c.in_ok-come.come.1 c.in_ok-come.come.0 c.walk_on.new.effects.items
      c.walk_on.new.scheduler comes in
      subst (λ p. PlaysNext g.K.PartialEq.eq hash terms log (entry (Next own) c.come_to-outcome.result c.in_ok-come.come.1 c.walk_on.new.effects.items) p) (sym c.come_to-outcome.ensures.rest)
      (plays_next g.K.PartialEq.eq hash terms log own c.args.scheduler.now due n.0 asked stands at_place c.in_ok-come.come.1 c.in_ok-come.come.0 c.walk_on.new.effects.items
      c.walk_on.new.scheduler comes (sym n.2) c.come_to-outcome.new.scheduler.calls (λ d at. c.come_to-outcome.ensures.calls n.0 d (placed, at)) c.come_to-outcome.result
      (λ d at. c.come_to-outcome.ensures.outcome n.0 d (placed, at)));
  took =
      let r = c.requires in
      let eq = g.K.PartialEq.eq in
      let hash = g.S.Hashes.hash c.args.scheduler.now.logged.executor.hasher in
      let old = c.args.scheduler.now in
      let n = c.in-Some.ensures in
      let here = asked_here eq hash r.0 r.1 c.args.caller.now old r.2 n.0 (sym n.2) in
      let numbered = n.4 ∙ ap (λ d. d.number) (the n.1 here.caller (sym n.3 ∙ here.at)) in
      let asked = record old { logged = c.next.new.self } in
      let stands = next_asked eq hash r.0 r.1 c.args.caller.now old r.2 n.0 (sym n.2) c.next.result c.next.new.self
      (subst (λ k. WalkContinues eq hash r.2.played.name (moment r.1) r.2.played.scene k c.next.result old.logged c.next.new.self) numbered
      (c.next.ensures.leads eq hash r.2.played.name (moment r.1) r.2.played.scene r.2.played.shown)) in
      let at_place = next_ready eq hash r.0 r.1 c.args.caller.now old r.2 n.0 (sym n.2) c.next.new.self in
      let comes = subst (λ h. WalkComes eq (g.S.Hashes.hash h) n.0 c.in_ok-come.come.1 c.in_ok-come.come.0 [] c.walk_on.new.effects.items asked c.walk_on.new.scheduler) c.next.ensures.given.0
      (subst (λ l. WalkComes eq (g.S.Hashes.hash c.next.new.self.executor.hasher) n.0 c.in_ok-come.come.1 c.in_ok-come.come.0 l c.walk_on.new.effects.items asked c.walk_on.new.scheduler)
      c.no_effects-effects.ensures (c.in_ok-come.ensures.comes n.0 at_place.0)) in
      let placed = placed_there eq hash r.0 r.1 c.args.caller.now old r.2 n.0 asked stands at_place c.in_ok-come.come.1 c.in_ok-come.come.0 c.walk_on.new.effects.items c.walk_on.new.scheduler comes in
      took_next eq hash n.0 old c.next.new.self c.in_ok-come.come.0 c.come_to-outcome.result c.in_ok-come.come.1 c.walk_on.new.effects c.walk_on.new.scheduler comes
      c.come_to-outcome.new.scheduler.calls (λ d at. c.come_to-outcome.ensures.calls n.0 d (placed, at)) (λ d at. c.come_to-outcome.ensures.outcome n.0 d (placed, at)) c.args.caller.now (sym n.2)
      c.come_to-outcome.new.scheduler c.come_to-outcome.ensures.rest here.caller here.at
      c.next.result _ numbered (c.next.ensures.asked eq hash) (c.next.ensures.leads eq hash) c.next.ensures.notes c.next.ensures.given;
  given = given_as c.args.scheduler.now (record c.walk_on.new.scheduler { calls = c.come_to-outcome.new.scheduler.calls }) c.come_to-outcome.new.scheduler
      (given_on c.args.scheduler.now.logged.executor c.next.new.self.executor c.walk_on.new.scheduler.logged.executor c.next.ensures.given c.walk_on.ensures.given) c.come_to-outcome.ensures.rest;
}

pub returns-in_err-come-clause-given : goal.returns-in_err-come-clause-given
returns-in_err-come-clause-given g c = given_on c.args.scheduler.now.logged.executor c.next.new.self.executor c.walk_on.new.scheduler.logged.executor c.next.ensures.given c.walk_on.ensures.given
