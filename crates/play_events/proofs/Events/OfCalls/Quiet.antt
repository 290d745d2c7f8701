-- An event of a call that is out of turn, or kept out, does nothing: it keeps its promises, and the run goes on with it.
use Rattle.std.specs.Prelude.{◌≡◌, ◌+◌, ℕ, Bool, List, [], ◌∷◌, position, Option, Some, None}
use Rattle.std.proofs.Common.{refl, ap, sym, subst, ◌∙◌, arith}
use Rattle.run_schedules.specs.Given.SeizeWordsDeclared.fault.Fault.TheVariants.{Busy}
use Rattle.run_schedules.specs.declared.event.Event.{Event}
use Rattle.run_schedules.specs.declared.outcome.Outcome.TheVariants.{Refused}
use Rattle.run_schedules.specs.Schedules.After.{moment, moments_from}
use Rattle.run_schedules.specs.Schedules.Effects.{worked}
use Rattle.run_schedules.specs.Schedules.Entry.{Entry, IfCall, acting, caller_of}
use Rattle.run_schedules.specs.Schedules.Handing.{IsWhole}
use Rattle.run_schedules.specs.Schedules.InTurn.{HasRightOutcome}
use Rattle.run_schedules.specs.Schedules.Moment.{UnderWay as CallThere, Moment}
use Rattle.run_schedules.specs.Schedules.Steps.{IsBrief, ReadsBriefly}
use Rattle.run_schedules.specs.Schedules.Terms.{Terms}
use Rattle.run_schedules.specs.Schedules.Views.{call_of}
use Rattle.play_lists.specs.Given.EffectsKnown.{known}
use Rattle.run_legal.specs.Given.PromisesGuards.{EntersInside}
use Rattle.play_lists.specs.Given.PromisesSheltered.{SectionsHold}
use Rattle.run_legal.proofs.Given.PromisesBrief.Ends.{events_read_briefly}
use Rattle.play_stepping.proofs.Given.PurposesNothing.{other_outcomes_are_swept}
use Rattle.run_legal.specs.Given.ModelsCallEvents.{IsOfNoSlot}
use Rattle.run_legal.proofs.Given.ModelsCallEvents.{others_hand_over}
use Rattle.play_lists.specs.Given.FindsLittle.{ReclaimsAll}
use Rattle.run_legal.specs.CallEvents.{IsLegalBut}
use Rattle.run_legal.specs.Carried.{RefinesRun}
use Rattle.run_legal.specs.Over.{LeavesAll}
use Rattle.run_legal.proofs.Idle.{idle_events_are_legal}
use Rattle.run_legal.proofs.Over.{idle_events_end}
use Rattle.play_stepping.specs.Given.SchedulerPlayed.{IsPlayed}
use Rattle.play_stepping.specs.Given.NamedSeen.{is_named}
use Rattle.play_stepping.specs.Given.SchedulerDeclared.scheduler.Scheduler.{Scheduler}
use Rattle.play_stepping.proofs.Given.SchedulerHere.{here_at, there_is}
use Rattle.play_stepping.proofs.Given.SchedulerRights.{quiet}
use Rattle.play_events.proofs.Events.OfCalls.Worth.{busy_says}
use Rattle.play_events.specs.Events.OfCalls.{Runs, RunsOn}
use Rattle.play_events.proofs.Events.OfCalls.AsBefore.{as_before}
use Rattle.play_stepping.specs.Given.ExecutorIsThere.{held_by}
use Rattle.run_schedules.specs.Schedules.Transition.{past, transition}
use Rattle.play_stepping.proofs.Given.General.{none_of}

-- whatever call there is, nothing is asked of it
nothing_asked : {K V : Type 0} (o : Option (CallThere K V)) → IfCall (λ (c : CallThere K V). Unit {0}) o
nothing_asked None = tt
nothing_asked (Some c) = tt

module _ {K V S : Type 0} (same : K → K → Bool) (hash : K → ℕ) (terms : Terms) (log : List (Entry K V)) (old new : Scheduler K V S) (runs : Runs same hash terms log old) (logged_is : new.logged ≡ old.logged)
    (calls_are : new.calls ≡ old.calls) (event : Event K V) where
  abbrev pub e : Entry K V
  e = quiet event (Refused Busy)

  abbrev m : Moment K V
  m = moment log

  -- a call that is there has read no more
  pub reads_of : (own : List ℕ) → caller_of event ≡ Some own → ReadsBriefly log e m
  reads_of own of_call = by (position (is_named own) old.calls) refl
    where
      none_there : call_of own m ≡ None → ReadsBriefly log e m
      none_there none =
          subst (λ (o : Option (CallThere K V)). IfCall (λ (c : CallThere K V). IsBrief c.call c (moments_from c.begun log) m (c.steps + 0)) o)
          (sym (ap (λ (who : Option (List ℕ)). acting who m) of_call ∙ none)) tt

      by : (place : Option ℕ) → place ≡ position (is_named own) old.calls → ReadsBriefly log e m
      by None is = none_there (none_of (call_of own m) (there_is same hash terms m old runs.stands own None is))
      by (Some place) is =
          let here = here_at same hash terms m old runs.stands own place is in
          events_read_briefly K V same (λ map. hash) runs.stands.name (past log) (λ j. 0) m (known old.logged.notes) runs.stands.scene (held_by old.logged.executor) runs.stands.shown.is_at.held runs.stands.shown.shows runs.shows.reading
          here.caller.map here.caller.number here.way.0 here.way.1 (caller_of event) (of_call ∙ ap Some (sym (here.way.2 ∙ here.named))) 0 (omega arith)

  module _ (reads : ReadsBriefly log e m) (no_slot : IsOfNoSlot event) (stays : worked e m ≡ m) (enters : EntersInside runs.stands.scene.world event (Refused Busy) m.there)
      (whole : IsWhole event (Refused Busy) [] m (worked e m)) (reclaims : ReclaimsAll log e) (leaves : LeavesAll event (Refused Busy) 0) (right : HasRightOutcome terms log e)
      (plays : IsPlayed same hash terms (e ∷ log) new) where
    legal : IsLegalBut same terms log e × SectionsHold (moment (e ∷ log)) (known old.logged.notes) runs.stands.scene.world
    legal =
        idle_events_are_legal K V same terms log (known old.logged.notes) runs.stands.scene.world e refl tt runs.shows.sections enters (others_hand_over K V log e no_slot).0
        (others_hand_over K V log e no_slot).1 (subst (λ (x : Moment K V). ReadsBriefly log e x) (sym stays) reads) (other_outcomes_are_swept K V same terms (past log) (transition log e) tt) whole
        (nothing_asked (acting (caller_of event) (worked e m)))

    run : RefinesRun same runs.stands.name terms (e ∷ log) (known old.logged.notes) runs.stands.scene
    run =
        idle_events_end K V same runs.stands.name terms log (known old.logged.notes) runs.stands.scene runs.shows e right legal.0.life refl (others_hand_over K V log e no_slot).0
        (others_hand_over K V log e no_slot).1 reclaims leaves legal.1

    pub quiet_on : RunsOn same hash terms log e new
    quiet_on = as_before same hash terms log old new runs logged_is calls_are e refl legal.0 run (busy_says event m) plays right refl
