-- An event by which a call goes on that is under way: it keeps its promises, and the run goes on with it.
use Rattle.std.specs.Prelude.{◌≡◌, ◌≤◌, ◌&&◌, ◌||◌, ℕ, Bool, true, false, not, List, [], ◌∷◌, position, Option, Some, option_map, filter, length}
use Rattle.std.specs.List.{list_any}
use Rattle.std.proofs.Common.{refl, ap, sym, subst, ◌∙◌, inl}
use Rattle.std.proofs.lemmas.List.{append-nil}
use Rattle.seize_acts.specs.Given.SeizeWaitingHeld.{count}
use Rattle.run_schedules.specs.Runs.Present.{slot_of_guard}
use Rattle.run_schedules.specs.declared.event.Event.{Event}
use Rattle.run_schedules.specs.Schedules.After.{moment}
use Rattle.run_schedules.specs.Schedules.Beginning.{at_work}
use Rattle.run_schedules.specs.Schedules.Entry.{Entry, acted_on, acting, caller_of, speaker}
use Rattle.run_schedules.specs.Schedules.Handing.{is_made, refuses}
use Rattle.run_schedules.specs.Schedules.Model.{guard_or, sets_in, things_in}
use Rattle.run_schedules.specs.Schedules.InTurn.{HasRightOutcome}
use Rattle.run_schedules.specs.Schedules.Moment.{UnderWay as CallThere, Moment}
use Rattle.run_schedules.specs.Schedules.Terms.{Terms}
use Rattle.run_schedules.specs.Schedules.Views.{call_of}
use Rattle.play_stepping.specs.Given.CallersTogether.{UnderWay}
use Rattle.play_lists.specs.Given.EffectsKnown.{known}
use Rattle.run_schedules.specs.declared.effect.Thing.{Thing}
use Rattle.run_schedules.specs.declared.event.Event.TheVariants.{Replied}
use Rattle.run_schedules.specs.declared.outcome.Outcome.{Outcome}
use Rattle.play_lists.specs.Given.FindsDoing.{takes_steps}
use Rattle.play_lists.specs.Given.FindsWithin.{AllIsInOrder}
use Rattle.play_lists.proofs.Given.FindsBegun.{all_begun}
use Rattle.run_legal.specs.Noted.{HaveCome}
use Rattle.run_legal.specs.Carried.{IsSequential}
use Rattle.run_legal.proofs.Calls.{call_events_begin_so}
use Rattle.play_stepping.specs.Given.SchedulerPlayed.{IsPlayed, entry_of}
use Rattle.play_stepping.specs.Given.NamedSeen.{Seen, is_named}
use Rattle.play_stepping.specs.Given.ExecutorDeclared.caller.Stands.TheVariants as far
use Rattle.play_stepping.specs.Given.SchedulerDeclared.played.Played.{Played}
use Rattle.play_stepping.specs.Given.SchedulerDeclared.scheduler.Scheduler.{Scheduler}
use Rattle.play_stepping.proofs.Given.SchedulerHeldTold.{its_guard}
use Rattle.play_stepping.proofs.Given.SchedulerHere.{Here, here_at}
use Rattle.play_stepping.specs.EventSteps.Stepping.{HasOutcomeOfKind, StepsHaveOutcome, OutcomeIsInCase, StepsCome}
use Rattle.play_stepping.proofs.EventSteps.RightSteps.{not_busy as never_busy}
use Rattle.play_stepping.specs.Given.ExecutorDeclared.caller.NamedCaller.{NamedCaller}
use Rattle.play_stepping.proofs.Given.RowsLists.{all_so, found_has}
use Rattle.play_events.proofs.Events.OfCalls.Worth.{TellsNone}
use Rattle.play_events.specs.Events.OfCalls.{IsWorth, Runs, RunsOn}
use Rattle.play_events.proofs.Events.OfCalls.Alone.{active_of, inside_of, only_its_row}
use Rattle.play_events.proofs.Events.OfCalls.Ends.{runs_on, tells_so}
use Rattle.play_events.proofs.Events.OfCalls.Found.{all_find, gone_find}
use Rattle.play_events.proofs.Events.OfCalls.InCase.{comes_in_case}
use Rattle.play_events.proofs.Events.OfCalls.Scenes.{its_named}
use Rattle.play_events.proofs.Events.OfCalls.Steps.{HasCome, as_told, has_come}
use Rattle.play_lists.specs.Given.ScenesScene.{slot_of}
use Rattle.play_stepping.specs.Given.ExecutorIsThere.{held_by}
use Rattle.play_stepping.proofs.Given.General.{same_some as the}

-- an event that takes steps tells no reply
steps_tell_none : {K V : Type 0} (event : Event K V) → takes_steps event ≡ true → (outcome : Outcome V) → TellsNone event outcome
steps_tell_none (Replied caller reply) takes outcome = absurd (cc takes)
steps_tell_none _ takes outcome = tt

module _ {K V S : Type 0} (same : K → K → Bool) (hash : K → ℕ) (terms : Terms) (log : List (Entry K V)) (old : Scheduler K V S) (runs : Runs same hash terms log old)
    (event : Event K V) (own : List ℕ) (of_call : caller_of event ≡ Some own) (speaks : speaker event ≡ Some own) (place : ℕ) (placed : Some place ≡ position (is_named own) old.calls) where
  abbrev pub m : Moment K V
  m = moment log

  abbrev pub here : Here same hash terms m old runs.stands own place
  here = here_at same hash terms m old runs.stands own place placed

  abbrev pub i : ℕ
  i = here.caller.number

  abbrev pub map : ℕ
  map = here.caller.map

  abbrev pub name : ℕ → List ℕ
  name = runs.stands.name

  abbrev pub c : CallThere K V
  c = here.call

  abbrev u : UnderWay K V K
  u = here.way.0

  under : runs.stands.scene.calls map i ≡ Some u
  under = here.way.1

  pub name_is : name i ≡ own
  name_is = here.way.2 ∙ here.named

  pub c_is : call_of (name i) m ≡ Some c
  c_is = ap (λ (x : List ℕ). call_of x m) name_is ∙ here.call_is

  pub map_is : c.map ≡ map
  map_is = ap (λ (z : Seen). z.map) here.as_seen

  -- its guard is on the slot of its caller
  pub slot_is : (d : CallThere K V) → call_of (name i) m ≡ Some d → slot_of_guard d.guard m.there ≡ slot_of i
  slot_is d is =
      let there = runs.stands.shown.shows.all.shown.calls map i u under in
      ap (λ (x : CallThere K V). slot_of_guard x.guard m.there) (the d there.0 (sym is ∙ there.1)) ∙ its_guard same hash terms m old runs.stands map i u under

  -- as it begins, the event is in its midst
  abbrev pub Come : Type 0
  Come = HasCome same hash name terms log event m map i c place 0 [] old

  pub start : Come
  start = record {
    caller = here.caller;
    at = here.at;
    number = refl;
    on_map = refl;
    kind = sym (ap (λ (z : Seen). z.kind) here.as_seen);
    named = its_named same hash terms m old runs.stands;
    size = runs.size;
    shards = runs.shards;
    reached = runs.reached;
    now = m;
    things = subst (λ (xs : List Thing). HaveCome xs m) (sym (append-nil (things_in log))) runs.come;
    scene = runs.stands.scene;
    under = u;
    shown = runs.stands.shown;
    slot = slot_is;
    c_is = c_is;
    once = subst (λ (x : List ℕ). length (filter (is_named x) old.calls) ≤ 1) (sym name_is) (runs.stands.calls.once own);
    worth = found_has (λ (d : NamedCaller V). IsWorth m runs.stands.scene d) (is_named own) old.calls here.caller here.found runs.values u under c (ap (λ (x : List ℕ). call_of x m) here.named ∙ here.call_is);
    others = all_so (λ (d : NamedCaller V). IsWorth m runs.stands.scene d) (λ (d : NamedCaller V). is_named (name i) d ≡ false → IsWorth m runs.stands.scene d) (λ d worth other. worth) old.calls runs.values;
    midst = call_events_begin_so K V same (λ map. hash) name terms log m (refl, refl) refl refl refl refl refl runs.shows.tableless (known old.logged.notes) runs.stands.scene (held_by old.logged.executor) runs.stands.shown.is_at.held runs.shows.calls
        runs.shows.reading runs.shows.sections runs.shows.follows event map i (of_call ∙ ap Some (sym name_is)) u under c c_is
        (λ alone j goes. only_its_row same hash terms log old runs.stands event own speaks alone map i u under name_is j goes);
    taken = runs.taken;
    hands = tt;
  }

  -- its slot is active, where calls came one after another
  pub active : IsSequential event log → 1 ≤ count (slot_of i) (sets_in terms.batch_size log).active
  active alone =
      active_of same hash terms log old runs.stands runs.size (slot_of i) (inside_of same hash terms log old runs.stands here.caller.guard (slot_of i) here.way.3)
      (runs.shows.follows (first_of m.is_alone _ alone))
    where
      first_of : (a b : Bool) → (a && b) ≡ true → a ≡ true
      first_of true b is = refl
      first_of false b is = absurd (cc is)

  -- such an event has begun nothing, and acts on the map of its call
  module _ (begins : (played : Played V) → at_work (entry_of event played) m ≡ m) (acts : acted_on event m ≡ option_map (λ (x : CallThere K V). x.map) (acting (caller_of event) m)) (played : Played V) where
    acting_is : acting (caller_of event) m ≡ Some c
    acting_is = ap (λ (who : Option (List ℕ)). acting who m) of_call ∙ here.call_is

    pub acts_on : acted_on event m ≡ Some map
    acts_on = acts ∙ ap (λ (o : Option (CallThere K V)). option_map (λ (x : CallThere K V). x.map) o) acting_is ∙ ap Some map_is

    pub slot_so : slot_of_guard (guard_or (acting (caller_of event) (at_work (entry_of event played) m))) (at_work (entry_of event played) m).there ≡ slot_of i
    slot_so =
        ap (λ (b : Moment K V). slot_of_guard (guard_or (acting (caller_of event) b)) b.there) (begins played)
        ∙ ap (λ (o : Option (CallThere K V)). slot_of_guard (guard_or o) m.there) acting_is ∙ slot_is c c_is

    -- it is refused for the length of a table only in its case
    pub taken_in_case : (most : ℕ) (new : Scheduler K V S) → StepsCome same hash place most played.steps played.outcome [] played.effects.items old new → OutcomeIsInCase terms log (entry_of event played)
    taken_in_case most new come =
        let by = come.2 in
        let far_on = has_come same hash name terms log event m map i c place old start by.0 by.2 by.3 by.4 in
        comes_in_case same hash name terms log event m map i c place c_is played by.0 by.2 by.3 new far_on by.5 (begins played) acts_on

    module _ (takes : takes_steps event ≡ true) (goes : here.caller.stands ≡ far.Goes) (most : ℕ) (new : Scheduler K V S)
        (come : StepsCome same hash place most played.steps played.outcome [] played.effects.items old new) (left : HasRightOutcome terms log (entry_of event played))
        (refused : (not (refuses event) || not (list_any is_made played.effects.items)) ≡ true)
        (plays : IsPlayed same hash terms (entry_of event played ∷ log) new) where
      comes : StepsHaveOutcome same hash terms own place m played.steps played.outcome [] played.effects.items new
      comes = come.1 terms m own runs.stands (placed, here.caller, here.at, goes)

      comes_as : HasOutcomeOfKind c.call played.outcome
      comes_as = subst (λ (x : CallThere K V). HasOutcomeOfKind x.call played.outcome) (the comes.call c (sym comes.call_is ∙ here.call_is)) comes.comes

      -- all is in order as it begins
      order : AllIsInOrder m
      order = subst AllIsInOrder (begins played) (all_begun terms log (entry_of event played) event played.outcome left runs.shows.order.0)

      pub taken_on : RunsOn same hash terms log (entry_of event played) new
      taken_on =
          let by = come.2 in
          let far_on = has_come same hash name terms log event m map i c place old start by.0 by.2 by.3 by.4 in
          runs_on same hash name terms log event m map i c place c_is (known old.logged.notes) runs.stands.scene runs.shows runs.come played by.0 by.2 by.3 new far_on by.5
          (tells_so same hash name terms log event m map i c place c_is (known old.logged.notes) runs.stands.scene runs.shows runs.come played by.0 by.2 by.3 new far_on by.5 comes_as) (begins played) acts_on (inl takes) by.1
          (steps_tell_none event takes played.outcome)
          (never_busy c.call played.outcome comes_as) left refused
          (all_find same hash name terms log event m map i c place c_is order by.0 by.2 played.effects.items by.3 new far_on (as_told same hash by.5)
          (gone_find same hash name terms log event m map i c place c_is order old start by.0 by.2 by.3 by.4))
          slot_so active plays
