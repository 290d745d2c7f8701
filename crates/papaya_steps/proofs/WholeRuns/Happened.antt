-- What an event of a form comes to is what is promised of any.
use Rattle.std.specs.Prelude.{◌≡◌, ◌==◌, ℕ, Bool, true, false, List, [], Result, Ok, Err, IfOk}
use Rattle.std.proofs.Common.{sym, subst, ◌∙◌}
use Rattle.run_schedules.specs.declared.event.Event.{Event}
use Rattle.run_schedules.specs.declared.event.Event.TheVariants.{Next}
use Rattle.run_schedules.specs.Schedules.After.{moment}
use Rattle.run_schedules.specs.Schedules.Beginning.{at_work}
use Rattle.run_schedules.specs.Schedules.Entry.{Entry, acting, caller_of}
use Rattle.run_schedules.specs.Schedules.InTurn.{IsKeptOut}
use Rattle.run_schedules.specs.Schedules.Steps.{state_or}
use Rattle.run_schedules.specs.Schedules.Terms.{Terms}
use Rattle.play_events.specs.Given.SchedulerKeptOut.{PlaysKeptOut}
use Rattle.play_events.specs.Given.SchedulerMapping.{MayMap}
use Rattle.play_events.specs.Given.SchedulerPlayed.{IsInTurn, MayPlay, Plays, entry_of}
use Rattle.play_events.specs.Given.SchedulerQuiet.{BusyIsSilent}
use Rattle.play_events.specs.Given.SchedulerReclaiming.{MayReclaimAll}
use Rattle.play_events.specs.Given.SchedulerDeclared.played.Played.{Played}
use Rattle.play_events.specs.Given.SchedulerDeclared.scheduler.Scheduler.{Scheduler}
use Rattle.play_events.specs.Given.SteppingStepping.{OutcomeIsInCase, PlaysNextAt, PlaysOnAt}
use Rattle.play_events.proofs.Given.SchedulerBusy.{none_quiet}
use Rattle.play_events.specs.Events.Asked.{FindsRight, Happens, HappensAt, HappensDue, Holds, MayHappenDue, takes_steps}
use Rattle.papaya_steps.proofs.WholeRuns.Forms.{does_none, does_nothing, makes_none, makes_out, waits_none, waits_out}

module _ {K V S : Type 0} (same : K → K → Bool) (hash : K → ℕ) (event form : Event K V) (is : event ≡ form) (old : Scheduler K V S) where
  -- it may happen in this form, too
  abbrev pub due_so : (terms : Terms) (log : List (Entry K V)) → Holds same hash terms (moment log) old → (moment log).is_closed ≡ false → IsInTurn same hash terms log form old
  due_so terms log holds out = record { played = holds.stands; in_turn = subst (λ (x : Event K V). (moment log).is_closed ≡ false) is out }

  pub may_play : MayHappenDue same hash event old → MayPlay same hash form old
  may_play may = (may.0, may.1, due_so may.0 may.1 may.2 may.3)

  pub may_map : (terms : Terms) (log : List (Entry K V)) → Holds same hash terms (moment log) old → (moment log).is_closed ≡ false → MayMap same hash terms log form old
  may_map terms log holds out = record { due = due_so terms log holds out; lawful = holds.lawful; counts = holds.counts }

  pub may_give : MayHappenDue same hash event old → MayReclaimAll same hash form old
  may_give may = (may.0, may.1, due_so may.0 may.1 may.2 may.3, may.2.gives)

  module _ (is_first : Bool) (new : Scheduler K V S) where
    -- what is promised of an event of this form, but for its steps
    abbrev pub PlaysForm : Played V → Type 0
    PlaysForm played =
        (terms : Terms) (log : List (Entry K V)) → is_first ≡ ((moment log).events == 0) → Holds same hash terms (moment log) old → (moment log).is_closed ≡ false
        → Plays same hash terms log (entry_of form played) new

    abbrev Due : Played V → Type 0
    Due played = HappensDue same hash is_first event played old new

    -- one by which no call takes steps
    pub still : takes_steps form ≡ false → (played : Played V) → played.steps ≡ 0 → BusyIsSilent played.outcome played.effects.items → PlaysForm played → Due played
    still so played none busy plays = λ terms log first holds out.
        subst (λ (x : Event K V). Happens same hash terms log (entry_of x played) new) (sym is) (record {
          played = (plays terms log first holds out).played;
          plays = λ finds. plays terms log first holds out;
          makes = makes_none form so (state_or (acting (caller_of form) (at_work (entry_of form played) (moment log)))) played.steps none played.outcome;
          does = does_none form so played.steps played.effects.items;
          waits = waits_none same form so played.outcome played.steps played.effects.items log;
          is_quiet = busy;
        })

    pub still_if : {X : Type 0} → takes_steps form ≡ false → (result : Result (Played V) X) → IfOk result (λ played. played.steps ≡ 0) → IfOk result (λ played. BusyIsSilent played.outcome played.effects.items) → IfOk result PlaysForm → IfOk result Due
    still_if so (Ok played) none busy plays = still so played none busy plays
    still_if so (Err x) none busy plays = tt

    -- one by which a call goes on
    pub goes_if : {X : Type 0} → ((terms : Terms) (log : List (Entry K V)) (played : Played V) → FindsRight terms log (entry_of form played) → OutcomeIsInCase terms log (entry_of form played))
        → (result : Result (Played V) X) → IfOk result (λ played. PlaysOnAt same hash form played old new) → IfOk result Due
    goes_if case_of (Ok played) plays = λ terms log first holds out.
        let on = plays terms log (due_so terms log holds out) in
        subst (λ (x : Event K V). Happens same hash terms log (entry_of x played) new) (sym is) (record {
          played = on.played;
          plays = λ finds. on.plays (case_of terms log played finds);
          makes = on.makes;
          does = on.does;
          waits = on.waits;
          is_quiet = on.is_quiet;
        })
    goes_if case_of (Err x) plays = tt

-- the next pair of a walk
module _ {K V S : Type 0} (same : K → K → Bool) (hash : K → ℕ) (event : Event K V) (own : List ℕ) (is : event ≡ Next own) (old : Scheduler K V S) (is_first : Bool) (new : Scheduler K V S) where
  pub next_if : {X : Type 0} (result : Result (Played V) X) → IfOk result (λ played. PlaysNextAt same hash own played old new) → IfOk result (λ played. HappensDue same hash is_first event played old new)
  next_if (Ok played) plays = λ terms log first holds out.
      let on = plays terms log (due_so same hash event (Next own) is old terms log holds out) in
      subst (λ (x : Event K V). Happens same hash terms log (entry_of x played) new) (sym is) (record {
        played = on.plays.played;
        plays = λ finds. on.plays;
        makes = on.makes;
        does = on.does;
        waits = on.waits;
        is_quiet = on.is_quiet;
      })
  next_if (Err x) plays = tt

-- An event is kept out, or in turn.
module _ {K V S : Type 0} (same : K → K → Bool) (hash : K → ℕ) (event : Event K V) (old : Scheduler K V S) where
  module _ (is_first : Bool) (new : Scheduler K V S) where
    pub stays_out : (played : Played V) → IsKeptOut event played.outcome → played.steps ≡ 0 → played.effects.items ≡ [] → PlaysKeptOut same hash event played old new → old.is_closed ≡ true
        → HappensAt same hash is_first event played old new
    stays_out played kept none nothing plays out = λ terms log first holds. record {
      played = (plays terms log holds.stands out).played;
      plays = λ finds. plays terms log holds.stands out;
      makes = makes_out event (state_or (acting (caller_of event) (at_work (entry_of event played) (moment log)))) played.steps none played.outcome kept;
      does = does_nothing (caller_of event) played.steps played.effects.items nothing;
      waits = waits_out same event played.outcome kept played.steps played.effects.items log;
      is_quiet = none_quiet played.outcome played.effects.items nothing;
    }

    pub in_turn_if : {X : Type 0} (result : Result (Played V) X) → IfOk result (λ played. HappensDue same hash is_first event played old new) → old.is_closed ≡ false
        → IfOk result (λ played. HappensAt same hash is_first event played old new)
    in_turn_if (Ok played) due out = λ terms log first holds. due terms log first holds (holds.stands.closed ∙ out)
    in_turn_if (Err x) due out = tt
