-- The last step of an event of a call: the event is legal but for what it comes to, and the run goes on with it.
use Rattle.std.specs.Prelude.{◌≡◌, ◌⊎◌, ◌≤◌, ◌+◌, ℕ, suc, Bool, true, List, [], ◌∷◌, not, ◌||◌, Option, Some}
use Rattle.std.specs.List.{list_any}
use Rattle.std.proofs.Common.{refl, ap, sym, subst, ◌∙◌, arith}
use Rattle.seize_acts.specs.Given.SeizeWaitingHeld.{count}
use Rattle.run_schedules.specs.Given.SeizeWordsDeclared.fault.Fault.TheVariants.{Busy}
use Rattle.play_stepping.specs.Given.SeizeWorld.{SlotsTaken}
use Rattle.play_lists.specs.Given.TablesDeclared.node.Node.{Node}
use Rattle.play_stepping.specs.Given.RawDeclared.machines.progress.Progress.{Progress as Told}
use Rattle.play_stepping.specs.Given.RawDeclared.machines.progress.Progress.TheVariants as told
use Rattle.run_schedules.specs.declared.effect.Effect.{Effect}
use Rattle.run_schedules.specs.declared.event.Event.{Event}
use Rattle.run_schedules.specs.declared.outcome.Outcome.{Outcome}
use Rattle.run_schedules.specs.declared.outcome.Outcome.TheVariants.{Refused}
use Rattle.run_schedules.specs.Schedules.After.{moment, moments_from, slots_on}
use Rattle.run_schedules.specs.Schedules.Beginning.{at_work}
use Rattle.run_schedules.specs.Schedules.Entry.{Entry, acted_on}
use Rattle.run_schedules.specs.Schedules.Handing.{is_made, refuses}
use Rattle.run_schedules.specs.Schedules.InTurn.{HasRightOutcome}
use Rattle.run_schedules.specs.Schedules.Model.{sets_in, things_in}
use Rattle.run_schedules.specs.Schedules.Moment.{UnderWay as CallThere, Moment}
use Rattle.run_schedules.specs.Schedules.Sweeps.{IsSwept}
use Rattle.run_schedules.specs.Schedules.Terms.{Terms, shards_of}
use Rattle.run_schedules.specs.Schedules.Views.{call_of}
use Rattle.play_lists.specs.Given.EffectsKnown.{Known, known}
use Rattle.play_lists.specs.Given.EffectsDeclared.acting.Acting.TheVariants as acts
use Rattle.play_lists.specs.Given.FinishesMaps.{Standing}
use Rattle.play_lists.specs.Given.HistoriesInEvent.{HasOutcomeSo}
use Rattle.play_lists.specs.Given.FinishesMachines.{machine_of}
use Rattle.run_legal.specs.Given.ModelsCallEvents.{slot_of_call}
use Rattle.play_lists.specs.Given.FindsDoing.{takes_steps}
use Rattle.play_lists.specs.Given.FindsParts.{FindAll}
use Rattle.run_legal.specs.Noted.{HaveCome}
use Rattle.run_legal.proofs.Come.{events_bring_things}
use Rattle.run_legal.specs.CallEvents.{IsLegalBut}
use Rattle.run_legal.specs.CallRuns.{OutcomeNamesShown, OutcomeEndsAsStep}
use Rattle.run_legal.specs.CallSwept.{OutcomeOf}
use Rattle.run_legal.specs.Carried.{IsSequential, RefinesRun}
use Rattle.run_legal.proofs.CallRuns.{call_events_run}
use Rattle.run_legal.proofs.CallSwept.{calls_are_swept}
use Rattle.play_stepping.specs.Given.RemainsRemains.{RefinesRemains}
use Rattle.run_legal.proofs.Given.RemainsSlots.{buckets_grow}
use Rattle.play_stepping.specs.Given.LoggedShown.{IsShown}
use Rattle.play_stepping.specs.Given.SchedulerPlayed.{IsPlayed, entry_of}
use Rattle.play_stepping.specs.Given.NamedSeen.{kind_of}
use Rattle.play_stepping.specs.Given.ExecutorDeclared.caller.NamedCaller.{NamedCaller}
use Rattle.play_stepping.specs.Given.ExecutorDeclared.kind.CallKind.{CallKind}
use Rattle.play_stepping.specs.Given.SchedulerDeclared.played.Played.{Played}
use Rattle.play_stepping.specs.Given.SchedulerDeclared.scheduler.Scheduler.{Scheduler}
use Rattle.play_stepping.specs.EventSteps.Stepping.{HasOutcomeOfKind, IsStepped}
use Rattle.play_stepping.specs.Given.Says.{outcome_of}
use Rattle.play_events.specs.Folded.Folded.{HandInOrder}
use Rattle.play_events.proofs.Folded.Steps.{event_in_order}
use Rattle.play_events.specs.Events.OfCalls.{HaveValues, RunsOn}
use Rattle.play_events.proofs.Events.OfCalls.Answers.{last_steps_tell}
use Rattle.play_events.proofs.Events.OfCalls.Found.{mask_is}
use Rattle.play_events.proofs.Events.OfCalls.Scenes.{stands_in}
use Rattle.play_events.proofs.Events.OfCalls.Steps.{HasCome, IsStep, as_told, caller_is, follows, hands_then, leads, named_then, noted_so, noted_then, shards_then, shown_then, size_then, taken_then, then_known, then_now, then_scene, there_now, values_then}
use Rattle.play_events.proofs.Events.OfCalls.Worth.{SaidIn, TellsNone, event_says, have_values_then}
use Rattle.play_lists.specs.Given.ValuesValues.{KeepsValue}
use Rattle.play_events.proofs.Events.OfCalls.Words.{not_busy, shows_as_told, tells_end}
use Rattle.play_events.proofs.Events.Remaining.{counted_in}
use Rattle.play_events.proofs.Events.Reached.{reached_after}
use Rattle.play_lists.specs.Given.ScenesScene.{Scene, slot_of}
use Rattle.play_stepping.specs.Given.ExecutorIsThere.{held_by}

module _ {K V S : Type 0} (same : K → K → Bool) (hash : K → ℕ) (name : ℕ → List ℕ) (terms : Terms) (log : List (Entry K V)) (event : Event K V) (beginning : Moment K V)
    (map i : ℕ) (c : CallThere K V) (place : ℕ) (c_is : call_of (name i) beginning ≡ Some c) (first : Known) (before : Scene K V) (run : RefinesRun same name terms log first before) (had : HaveCome (things_in log) (moment log))
    (played : Played V) (n : ℕ) (mid : List Effect) (p new : Scheduler K V S) (come : HasCome same hash name terms log event beginning map i c place n mid p)
    (step : IsStepped same hash place played.outcome mid played.effects.items p new) where
  abbrev e : Entry K V
  e = entry_of event played

  abbrev its : IsStep same hash place mid played.effects.items p new
  its = as_told same hash step

  abbrev pub by : Known
  by = then_known same hash name terms log event beginning map i c place n mid played.effects.items p new come its

  abbrev at_end : Scene K V
  at_end = then_scene same hash name terms log event beginning map i c place n mid played.effects.items p new come its

  abbrev value : Option V
  value = step.caller.value

  noted : known new.logged.notes ≡ by
  noted = noted_then same hash name terms log event beginning map i c place n mid played.effects.items p new come its

  -- it has come to what its last step says
  pub outcome_so : played.outcome ≡ outcome_of by (kind_of c.call) value step.said
  outcome_so =
      step.outcome_is ∙ ap (λ (k : Known). outcome_of k step.caller.kind value step.said) noted
      ∙ ap (λ (k : CallKind). outcome_of by k value step.said)
      (ap (λ (x : NamedCaller V). x.kind) (caller_is same hash name terms log event beginning map i c place n mid played.effects.items p new come its) ∙ come.kind)

  as_said : (P : Outcome V → Type 0) → P (outcome_of by (kind_of c.call) value step.said) → P played.outcome
  as_said P so = subst P (sym outcome_so) so

  -- what is told is as its last step says
  abbrev pub Tells : Type 0
  Tells = HasOutcomeSo by c.call c.replies step.said played.outcome × OutcomeOf same log come.now map by step.said played.outcome c.call × OutcomeNamesShown {K = K} by step.said played.outcome

  abbrev now_there : (d : CallThere K V) × (call_of (name i) come.now ≡ Some d) × (d.call ≡ c.call) × (d.replies ≡ c.replies)
  now_there = there_now same hash name terms log event beginning map i c place n mid played.effects.items p new come its

  keeps : KeepsValue c.call c.replies (machine_of come.under) value
  keeps =
      subst (λ (d : NamedCaller V). KeepsValue c.call c.replies (machine_of come.under) d.value)
      (sym (caller_is same hash name terms log event beginning map i c place n mid played.effects.items p new come its)) come.worth

  -- so it is where it comes to what a call does that goes on by itself
  pub tells_so : HasOutcomeOfKind c.call played.outcome → Tells
  tells_so comes_as =
      let told = last_steps_tell K V same (λ map. hash) name terms log event beginning map i c n mid come.now (known p.logged.notes) come.scene come.under come.midst (held_by p.logged.executor) (held_by new.logged.executor)
      come.shown.is_at.held step.said (leads same hash name terms log event beginning map i c place n mid played.effects.items p new come its) now_there.0 now_there.1 now_there.2 now_there.3 value
      (subst (HasOutcomeOfKind c.call) outcome_so comes_as) keeps in (
        as_said (λ (o : Outcome V). HasOutcomeSo by c.call c.replies step.said o) told.0,
        as_said (λ (o : Outcome V). OutcomeOf same log come.now map by step.said o c.call) told.1,
        as_said (OutcomeNamesShown {K = K} by step.said) (shows_as_told by (kind_of c.call) value c.call step.said (subst (HasOutcomeOfKind c.call) outcome_so comes_as)),
      )

  module _ (tells : Tells) (begins : at_work e (moment log) ≡ beginning) (acted : acted_on event beginning ≡ Some map) (takes : (takes_steps event ≡ true) ⊎ (played.effects.items ≡ [])) (steps_are : played.steps ≡ n + 1) (silent : TellsNone event played.outcome)
      (never : played.outcome ≡ Refused Busy → ⊥) (right : HasRightOutcome terms log e) (refused : (not (refuses event) || not (list_any is_made played.effects.items)) ≡ true)
      (finds : FindAll terms (moments_from c.begun log) (name i) map played.effects.items beginning) (slot : slot_of_call event (at_work e (moment log)) ≡ slot_of i)
      (active : IsSequential event log → 1 ≤ count (slot_of i) (sets_in terms.batch_size log).active) (plays : IsPlayed same hash terms (e ∷ log) new) where
    ends : OutcomeEndsAsStep step.said played.outcome
    ends = as_said (OutcomeEndsAsStep step.said) (tells_end by (kind_of c.call) value step.said (λ is. never (outcome_so ∙ is)))

    swept : IsSwept same terms log e
    swept =
        calls_are_swept K V same (λ map. hash) name terms log beginning map i c n mid come.now (known p.logged.notes) come.scene come.under e come.midst (held_by p.logged.executor) (held_by new.logged.executor) come.shown.is_at.held
        step.said (leads same hash name terms log event beginning map i c place n mid played.effects.items p new come its) begins acted
        (follows same hash name terms log event beginning map i c place n mid played.effects.items p new come its)
        (λ standing there. one_more standing
        (mask_is same hash name terms log event beginning map i c place n mid p come standing there)) tells.1
      where
        one_more : (standing : Standing K) → standing.setting.mask + 1 ≡ shards_of terms → suc standing.setting.mask ≡ shards_of terms
        one_more standing is = omega (arith, is)

    goes_on : IsLegalBut same terms log e × RefinesRun same name terms (e ∷ log) by at_end
    goes_on =
        call_events_run K V same (λ map. hash) name terms log beginning map i c c_is first before run n mid come.now (known p.logged.notes) come.scene come.under e come.midst (held_by p.logged.executor) (held_by new.logged.executor)
        come.shown.is_at.held come.size step.said (leads same hash name terms log event beginning map i c place n mid played.effects.items p new come its) begins acted
        (follows same hash name terms log event beginning map i c place n mid played.effects.items p new come its) steps_are tells.0 ends tells.2
        takes (not_busy played.outcome never) right finds swept refused
        (noted_so same hash name terms log event beginning map i c place n mid played.effects.items p new come its) slot active

    -- the moment after it shows the executor in that scene
    after_run : RefinesRun same name terms (e ∷ log) (known new.logged.notes) at_end
    after_run = subst (λ (k : Known). RefinesRun same name terms (e ∷ log) k at_end) (sym noted) goes_on.1

    abbrev its_left : RefinesRemains new.logged.executor.roots (then_now same hash name terms log event beginning map i c place n mid played.effects.items p new come its) (known new.logged.notes) at_end
    its_left = (shown_then same hash name terms log event beginning map i c place n mid played.effects.items p new come its).counted.remains

    -- no call takes a slot
    no_slot : slots_on played.outcome (moment log).slots ≡ (moment log).slots
    no_slot = as_said (λ o. slots_on o (moment log).slots ≡ (moment log).slots) (said_none step.said)
      where
        said_none : (said : Told (Node K V)) → slots_on (outcome_of by (kind_of c.call) value said) (moment log).slots ≡ (moment log).slots
        said_none told.Goes = refl
        said_none (told.Gave node) = refl
        said_none (told.Unstored node) = refl
        said_none told.Waits = refl
        said_none (told.Asks word) = refl
        said_none told.Ready = refl
        said_none (told.Pair word) = refl
        said_none (told.Done answer) = refl
        said_none (told.Refused fault) = refl

    shown : IsShown same hash name (moment (e ∷ log)) new.logged at_end
    shown = record {
      is_at = (shown_then same hash name terms log event beginning map i c place n mid played.effects.items p new come its).is_at;
      shows = after_run.calls.whole;
      kept = after_run.calls.kept;
      counted = counted_in same hash terms (moment (e ∷ log)) new plays at_end
          (shown_then same hash name terms log event beginning map i c place n mid played.effects.items p new come its).is_at its_left.lists its_left.left;
    }

    values : HaveValues (moment (e ∷ log)) at_end new.calls
    values =
        have_values_then beginning (moment (e ∷ log)) (subst (λ (v : Moment K V). SaidIn v.calls (moment (e ∷ log)).calls) begins (event_says e (moment log) silent)) at_end at_end refl new.calls
        (values_then same hash name terms log event beginning map i c place n mid played.effects.items p new played.outcome come step)

    grows : (known p.logged.notes).buckets ≤ by.buckets
    grows = buckets_grow (acts.Call i map) new.logged.executor.memory.changed (known p.logged.notes)

    pub runs_on : RunsOn same hash terms log e new
    runs_on = record {
      legal = goes_on.0;
      hands = event_in_order log e (name i) map beginning come.midst.of_call begins acted
          (subst (λ (l : List Effect). HandInOrder (Some (name i)) (Some map) l beginning)
          (sym (follows same hash name terms log event beginning map i c place n mid played.effects.items p new come its))
          (hands_then same hash name terms log event beginning map i c place n mid played.effects.items p new come its));
      runs = record {
        stands = stands_in same hash terms (moment (e ∷ log)) new plays name at_end shown
            (named_then same hash name terms log event beginning map i c place n mid played.effects.items p new played.outcome come step);
        shows = after_run;
        come = events_bring_things K V terms log e had goes_on.0.life.finds;
        values = values;
        taken = subst (SlotsTaken at_end.world.memory) (sym no_slot) (taken_then same hash name terms log event beginning map i c place n mid played.effects.items p new come its);
        size = size_then same hash name terms log event beginning map i c place n mid played.effects.items p new come its;
        shards = shards_then same hash name terms log event beginning map i c place n mid played.effects.items p new come its;
        reached = reached_after same hash terms log e p new right plays (subst (λ (k : Known). (known p.logged.notes).buckets ≤ k.buckets) (sym noted) grows) come.reached;
      };
    }
