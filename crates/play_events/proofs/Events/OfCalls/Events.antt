-- An event by which a call goes on, or begins, whichever it is: it keeps its promises, and the run goes on with it.
use Rattle.std.specs.Prelude.{◌≡◌, ◌||◌, ℕ, Bool, true, false, not, List, [], ◌∷◌, position, Option, Some, None, if◌then◌else◌}
use Rattle.std.specs.List.{list_any}
use Rattle.std.proofs.Common.{refl, ap, sym, subst, ◌∙◌}
use Rattle.run_schedules.specs.Given.SeizeWordsDeclared.fault.Fault.TheVariants.{Busy}
use Rattle.run_schedules.specs.Runs.Stopped.{most_steps}
use Rattle.run_schedules.specs.declared.call.Call.{Call}
use Rattle.run_schedules.specs.declared.call.Reply.{Reply}
use Rattle.run_schedules.specs.declared.event.Event.{Event}
use Rattle.run_schedules.specs.declared.event.Event.TheVariants.{Begin, Go, Next, OneCall, Replied, Step, Stop}
use Rattle.run_schedules.specs.declared.outcome.Outcome.TheVariants.{Asks, Goes, Ready, Refused}
use Rattle.run_schedules.specs.Schedules.After.{moment}
use Rattle.run_schedules.specs.Schedules.Beginning.{with_call}
use Rattle.run_schedules.specs.Schedules.Entry.{Entry, nameless}
use Rattle.run_schedules.specs.Schedules.Handing.{is_made}
use Rattle.run_schedules.specs.Schedules.InTurn.{HasRightOutcome, HasOutcome}
use Rattle.run_schedules.specs.Schedules.Terms.{Terms}
use Rattle.run_schedules.specs.Schedules.Views.{number_of}
use Rattle.run_legal.specs.Over.{ContinuesBy}
use Rattle.play_stepping.specs.Given.LoggedCalling.{MakesNoMore}
use Rattle.play_stepping.specs.Given.SchedulerPlayed.{Began, BeginsSo, HasBegun, IsPlayed, RefinesFor, entry_of}
use Rattle.play_stepping.specs.Given.NamedSeen.{is_named, ready_place}
use Rattle.play_stepping.specs.Given.ExecutorDeclared.caller.Stands.{Stands as HowFar}
use Rattle.play_stepping.specs.Given.ExecutorDeclared.caller.Stands.TheVariants as far
use Rattle.play_stepping.specs.Given.SchedulerDeclared.played.Played.{Played}
use Rattle.play_stepping.specs.Given.SchedulerDeclared.scheduler.Scheduler.{Scheduler}
use Rattle.play_stepping.proofs.Given.SchedulerHere.{Here, here_at}
use Rattle.play_stepping.proofs.Given.SchedulerRights.{entry_is, quiet}
use Rattle.play_stepping.specs.EventSteps.Stepping.{GoesAt, SaysAgain, StepsCome, TakenAs, TakenBy, TookNext, TookSteps, TookWhole}
use Rattle.play_stepping.proofs.EventSteps.PlaysWhole.{goes_first, map_there}
use Rattle.play_events.specs.Events.OfCalls.{Runs, RunsOn}
use Rattle.play_events.proofs.Events.OfCalls.Again.{again_on}
use Rattle.play_events.proofs.Events.OfCalls.Begun.{begun_on, its}
use Rattle.play_events.proofs.Events.OfCalls.Quiet.{quiet_on, reads_of}
use Rattle.play_events.proofs.Events.OfCalls.Taken.{taken_on}
use Rattle.play_events.proofs.Events.OfCalls.Walked.{walked_on}
use Rattle.play_events.proofs.Events.OfCalls.Whole.{whole_on}

module _ {K V S : Type 0} (same : K → K → Bool) (hash : K → ℕ) (old new : Scheduler K V S) (played : Played V) where
  -- the scheduler is as it was
  logged_as : (mid : Scheduler K V S) → new ≡ mid → mid ≡ old → new.logged ≡ old.logged
  logged_as mid is was = ap (λ (x : Scheduler K V S). x.logged) (is ∙ was)

  calls_as : (mid : Scheduler K V S) → new ≡ mid → mid ≡ old → new.calls ≡ old.calls
  calls_as mid is was = ap (λ (x : Scheduler K V S). x.calls) (is ∙ was)

  -- it makes nothing where it is told to refuse growths
  none_made : (refuse : Bool) → MakesNoMore refuse [] played.effects.items → (not refuse || not (list_any is_made played.effects.items)) ≡ true
  none_made true none = ap not (none refl)
  none_made false none = refl

  -- one that was out of turn
  module _ (terms : Terms) (log : List (Entry K V)) (runs : Runs same hash terms log old) where
    abbrev As : Event K V → Type 0
    As event = RunsOn same hash terms log (entry_of event played) new

    entry_so : (event : Event K V) → played.outcome ≡ Refused Busy → played.steps ≡ 0 → played.effects.items ≡ [] → entry_of event played ≡ quiet event (Refused Busy)
    entry_so event told steps did = entry_is event played (Refused Busy) 0 [] told steps did

    module _ (told : played.outcome ≡ Refused Busy) (steps : played.steps ≡ 0) (did : played.effects.items ≡ []) (logged_is : new.logged ≡ old.logged) (calls_are : new.calls ≡ old.calls) where
      -- as an event that did nothing is
      by_quiet : (event : Event K V) → (HasRightOutcome terms log (quiet event (Refused Busy)) → IsPlayed same hash terms (quiet event (Refused Busy) ∷ log) new → RunsOn same hash terms log (quiet event (Refused Busy)) new)
          → HasRightOutcome terms log (entry_of event played) → IsPlayed same hash terms (entry_of event played ∷ log) new → As event
      by_quiet event so right plays =
          let is = entry_so event told steps did in
          subst (λ (e : Entry K V). RunsOn same hash terms log e new) (sym is)
          (so (subst (λ (e : Entry K V). HasRightOutcome terms log e) is right) (subst (λ (e : Entry K V). IsPlayed same hash terms (e ∷ log) new) is plays))

      pub step_out : (own : List ℕ) (refuse : Bool) → HasRightOutcome terms log (entry_of (Step own refuse) played) → IsPlayed same hash terms (entry_of (Step own refuse) played ∷ log) new → As (Step own refuse)
      step_out own refuse = by_quiet (Step own refuse) (quiet_on same hash terms log old new runs logged_is calls_are (Step own refuse) (reads_of same hash terms log old new runs logged_is calls_are (Step own refuse) own refl) tt refl tt refl tt (refl, refl))

      pub go_out : (own : List ℕ) (refuse : Bool) → HasRightOutcome terms log (entry_of (Go own refuse) played) → IsPlayed same hash terms (entry_of (Go own refuse) played ∷ log) new → As (Go own refuse)
      go_out own refuse = by_quiet (Go own refuse) (quiet_on same hash terms log old new runs logged_is calls_are (Go own refuse) (reads_of same hash terms log old new runs logged_is calls_are (Go own refuse) own refl) tt refl tt refl tt (refl, refl))

      pub next_out : (own : List ℕ) → HasRightOutcome terms log (entry_of (Next own) played) → IsPlayed same hash terms (entry_of (Next own) played ∷ log) new → As (Next own)
      next_out own = by_quiet (Next own) (quiet_on same hash terms log old new runs logged_is calls_are (Next own) (reads_of same hash terms log old new runs logged_is calls_are (Next own) own refl) tt refl tt refl tt (refl, refl))

      pub whole_out : (guard on : List ℕ) (call : Call K V) → HasRightOutcome terms log (entry_of (OneCall guard on call) played) → IsPlayed same hash terms (entry_of (OneCall guard on call) played ∷ log) new
          → As (OneCall guard on call)
      whole_out guard on call = by_quiet (OneCall guard on call) (quiet_on same hash terms log old new runs logged_is calls_are (OneCall guard on call) (reads_of same hash terms log old new runs logged_is calls_are (OneCall guard on call) nameless refl) tt refl tt refl tt (refl, refl))

      -- those of no call that goes on
      pub begin_out : (own guard on : List ℕ) (call : Call K V) → HasRightOutcome terms log (entry_of (Begin own guard on call) played) → IsPlayed same hash terms (entry_of (Begin own guard on call) played ∷ log) new
          → As (Begin own guard on call)
      begin_out own guard on call = by_quiet (Begin own guard on call) (quiet_on same hash terms log old new runs logged_is calls_are (Begin own guard on call) tt tt refl tt refl tt tt)

      pub reply_out : (own : List ℕ) (reply : Reply V) → HasRightOutcome terms log (entry_of (Replied own reply) played) → IsPlayed same hash terms (entry_of (Replied own reply) played ∷ log) new → As (Replied own reply)
      reply_out own reply = by_quiet (Replied own reply) (quiet_on same hash terms log old new runs logged_is calls_are (Replied own reply) tt tt refl tt refl tt tt)

      pub stop_out : (own : List ℕ) → HasRightOutcome terms log (entry_of (Stop own) played) → IsPlayed same hash terms (entry_of (Stop own) played ∷ log) new → As (Stop own)
      stop_out own = by_quiet (Stop own) (quiet_on same hash terms log old new runs logged_is calls_are (Stop own) tt tt refl tt refl tt tt)

  module _ (terms : Terms) (log : List (Entry K V)) (runs : Runs same hash terms log old) where
    module _ (event : Event K V) (own : List ℕ) (place : ℕ) (placed : Some place ≡ position (is_named own) old.calls) (left : HasRightOutcome terms log (entry_of event played))
        (plays : IsPlayed same hash terms (entry_of event played ∷ log) new) (most : ℕ) (on : ContinuesBy event own) where
      abbrev its_here : Here same hash terms (moment log) old runs.stands own place
      its_here = here_at same hash terms (moment log) old runs.stands own place placed

      by_far : ((goes : its_here.caller.stands ≡ far.Goes) → StepsCome same hash place most played.steps played.outcome [] played.effects.items old new → RunsOn same hash terms log (entry_of event played) new)
          → (how : HowFar) → its_here.caller.stands ≡ how → TakenBy same hash place most how played old new → RunsOn same hash terms log (entry_of event played) new
      by_far so (far.Asks question) is says = again_on same hash terms log old runs own place placed event on (Asks question) is played new says left plays
      by_far so far.Ready is says = again_on same hash terms log old runs own place placed event on Ready is played new says left plays
      by_far so far.Goes is come = so is come

    pub step_on : (own : List ℕ) (refuse : Bool) → TookSteps same hash 1 own played old new → MakesNoMore refuse [] played.effects.items → HasRightOutcome terms log (entry_of (Step own refuse) played)
        → IsPlayed same hash terms (entry_of (Step own refuse) played ∷ log) new → RunsOn same hash terms log (entry_of (Step own refuse) played) new
    step_on own refuse took refused left plays = by (position (is_named own) old.calls) refl
      where
        by : (o : Option ℕ) → position (is_named own) old.calls ≡ o → RunsOn same hash terms log (entry_of (Step own refuse) played) new
        by None is =
            let says = took.1 is in
            step_out terms log runs says.0 says.1 says.2 (logged_as old says.3 refl) (calls_as old says.3 refl) own refuse left plays
        by (Some place) is =
            let placed = sym is in
            let it = here_at same hash terms (moment log) old runs.stands own place placed in
            by_far (Step own refuse) own place placed left plays 1 refl
            (λ goes come. taken_on same hash terms log old runs (Step own refuse) own refl refl place placed (λ x. refl) refl played refl goes 1 new come left (none_made refuse refused) plays)
            it.caller.stands refl (took.0 place placed it.caller it.at)

    pub go_on : (own : List ℕ) (refuse : Bool) → TookSteps same hash most_steps own played old new → MakesNoMore refuse [] played.effects.items → HasRightOutcome terms log (entry_of (Go own refuse) played)
        → IsPlayed same hash terms (entry_of (Go own refuse) played ∷ log) new → RunsOn same hash terms log (entry_of (Go own refuse) played) new
    go_on own refuse took refused left plays = by (position (is_named own) old.calls) refl
      where
        by : (o : Option ℕ) → position (is_named own) old.calls ≡ o → RunsOn same hash terms log (entry_of (Go own refuse) played) new
        by None is =
            let says = took.1 is in
            go_out terms log runs says.0 says.1 says.2 (logged_as old says.3 refl) (calls_as old says.3 refl) own refuse left plays
        by (Some place) is =
            let placed = sym is in
            let it = here_at same hash terms (moment log) old runs.stands own place placed in
            by_far (Go own refuse) own place placed left plays most_steps refl
            (λ goes come. taken_on same hash terms log old runs (Go own refuse) own refl refl place placed (λ x. refl) refl played refl goes most_steps new come left (none_made refuse refused) plays)
            it.caller.stands refl (took.0 place placed it.caller it.at)

    pub whole_goes_on : (guard on : List ℕ) (call : Call K V) → TookWhole same hash guard on call played old new → HasRightOutcome terms log (entry_of (OneCall guard on call) played)
        → IsPlayed same hash terms (entry_of (OneCall guard on call) played ∷ log) new → RunsOn same hash terms log (entry_of (OneCall guard on call) played) new
    whole_goes_on guard on call took left plays = by took_it.0 refl
      where
        took_it : (begun : Bool) × (mid : Scheduler K V S) × BeginsSo same hash terms (moment log) nameless guard on call begun old mid × (mid.logged.executor.batch_size ≡ old.logged.executor.batch_size)
            × (begun ≡ true → TakenAs same hash 0 most_steps played mid new) × (begun ≡ false → SaysAgain same hash (Refused Busy) played mid new)
        took_it = took terms (moment log) runs.stands

        mid : Scheduler K V S
        mid = took_it.1

        begun_so : (q : Bool) → took_it.0 ≡ q → BeginsSo same hash terms (moment log) nameless guard on call q old mid
        begun_so q is = subst (λ (b : Bool). BeginsSo same hash terms (moment log) nameless guard on call b old mid) is took_it.2

        by : (q : Bool) → took_it.0 ≡ q → RunsOn same hash terms log (entry_of (OneCall guard on call) played) new
        by false is =
            let says = took_it.5 is in
            let was = (begun_so false is).none refl in
            whole_out terms log runs says.0 says.1 says.2 (logged_as mid says.3 was) (calls_as mid says.3 was) guard on call left plays
        by true is =
            whole_on same hash terms log old runs guard on call mid led took_it.3 stands_mid played new
            (subst (λ (how : HowFar). TakenBy same hash 0 most_steps how played mid new) first.3 (took_it.4 is first.1 first.2)) first left plays
          where
            begins : BeginsSo same hash terms (moment log) nameless guard on call true old mid
            begins = begun_so true is

            led : HasBegun same hash nameless guard on call old mid
            led = begins.led refl

            first : GoesAt nameless 0 mid
            first = goes_first same hash terms (moment log) nameless guard call (number_of on (moment log)) (map_there (moment log) guard on begins.so) mid (begins.stands refl)

            stands_mid : RefinesFor same hash terms (with_call nameless guard call (Some led.number) (moment log)) mid
            stands_mid = subst (λ (o : Option ℕ). RefinesFor same hash terms (with_call nameless guard call o (moment log)) mid) (its same hash terms log old runs nameless guard on call mid led).0
                (begins.stands refl)

    -- one that asks a walk for its next pair
    pub ask_on : (own : List ℕ) → TookNext same hash own played old new → HasRightOutcome terms log (entry_of (Next own) played) → HasOutcome terms log (moment log) (entry_of (Next own) played) (Next own) played.outcome
        → played.effects.items ≡ [] → IsPlayed same hash terms (entry_of (Next own) played ∷ log) new → RunsOn same hash terms log (entry_of (Next own) played) new
    ask_on own took right comes idle plays = by (ready_place own old.calls) refl
      where
        by : (o : Option ℕ) → ready_place own old.calls ≡ o → RunsOn same hash terms log (entry_of (Next own) played) new
        by None is =
            let says = took.1 is in
            next_out terms log runs says.0 says.1 says.2 (logged_as old says.3 refl) (calls_as old says.3 refl) own right plays
        by (Some place) is = walked_on same hash terms log old runs own place (sym is) played new (took.0 place (sym is)) right comes idle plays

  -- and one by which a call just begins
  module _ (terms : Terms) (log : List (Entry K V)) (runs : Runs same hash terms log old) (own guard on : List ℕ) (call : Call K V) (steps : played.steps ≡ 0)
      (began : Began same hash own guard on call played old new) (on_size : new.logged.executor.batch_size ≡ old.logged.executor.batch_size)
      (right : HasRightOutcome terms log (entry_of (Begin own guard on call) played)) (plays : IsPlayed same hash terms (entry_of (Begin own guard on call) played ∷ log) new) where
    begun_or : (begun : Bool) × BeginsSo same hash terms (moment log) own guard on call begun old new × (played.effects.items ≡ []) × (played.outcome ≡ (if begun then Goes else Refused Busy))
    begun_or = began terms (moment log) runs.stands

    begun_as : (q : Bool) → begun_or.0 ≡ q → BeginsSo same hash terms (moment log) own guard on call q old new × (played.outcome ≡ (if q then Goes else Refused Busy))
    begun_as q is = (
      subst (λ (b : Bool). BeginsSo same hash terms (moment log) own guard on call b old new) is begun_or.1,
      begun_or.3 ∙ ap (λ (b : Bool). if b then Goes else Refused Busy) is,
    )

    pub begin_on : RunsOn same hash terms log (entry_of (Begin own guard on call) played) new
    begin_on = by begun_or.0 refl
      where
        by : (q : Bool) → begun_or.0 ≡ q → RunsOn same hash terms log (entry_of (Begin own guard on call) played) new
        by false is =
            let it = begun_as false is in
            let was = it.0.none refl in
            begin_out terms log runs it.1 steps begun_or.2 (logged_as old was refl) (calls_as old was refl) own guard on call right plays
        by true is =
            let it = begun_as true is in
            let entry_as = entry_is (Begin own guard on call) played Goes 0 [] it.1 steps begun_or.2 in
            subst (λ (e : Entry K V). RunsOn same hash terms log e new) (sym entry_as)
            (begun_on same hash terms log old runs own guard on call new (it.0.led refl) on_size (subst (λ (e : Entry K V). HasRightOutcome terms log e) entry_as right)
            (subst (λ (e : Entry K V). IsPlayed same hash terms (e ∷ log) new) entry_as plays))
