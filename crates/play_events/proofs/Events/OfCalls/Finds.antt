-- An event by which a call goes on, whichever it is, is refused for the length of a table only in its case: one of its map's tables is at the limit, or was, or it has counted too many pairs.
use Rattle.std.specs.Prelude.{◌≡◌, ℕ, Bool, true, false, List, [], position, Option, Some, None}
use Rattle.std.proofs.Common.{refl, sym, subst, ◌∙◌}
use Rattle.run_schedules.specs.Given.SeizeWordsDeclared.fault.Fault.TheVariants.{Busy, Capacity}
use Rattle.run_schedules.specs.Runs.Stopped.{most_steps}
use Rattle.run_schedules.specs.declared.call.Call.{Call}
use Rattle.run_schedules.specs.declared.event.Event.{Event}
use Rattle.run_schedules.specs.declared.event.Event.TheVariants.{Go, OneCall, Step}
use Rattle.run_schedules.specs.declared.outcome.Outcome.{Outcome}
use Rattle.run_schedules.specs.declared.outcome.Outcome.TheVariants.{Asks, Ready, Refused}
use Rattle.run_schedules.specs.Schedules.After.{moment, moments_from}
use Rattle.run_schedules.specs.Schedules.Beginning.{with_call}
use Rattle.run_schedules.specs.Schedules.Effects.{worked}
use Rattle.run_schedules.specs.Schedules.Entry.{Entry, acting, caller_of, nameless}
use Rattle.run_schedules.specs.Schedules.Moment.{UnderWay as CallThere}
use Rattle.run_schedules.specs.Schedules.Terms.{Terms}
use Rattle.run_schedules.specs.Schedules.Views.{number_of}
use Rattle.play_stepping.specs.Given.SchedulerPlayed.{BeginsSo, HasBegun, RefinesFor, entry_of}
use Rattle.play_stepping.specs.Given.NamedSeen.{is_named}
use Rattle.play_stepping.specs.Given.ExecutorDeclared.caller.Stands.{Stands as HowFar}
use Rattle.play_stepping.specs.Given.ExecutorDeclared.caller.Stands.TheVariants as far
use Rattle.play_stepping.specs.Given.SchedulerDeclared.played.Played.{Played}
use Rattle.play_stepping.specs.Given.SchedulerDeclared.scheduler.Scheduler.{Scheduler}
use Rattle.play_stepping.proofs.Given.SchedulerHere.{here_at}
use Rattle.play_stepping.specs.EventSteps.Stepping.{OutcomeIsInCase, GoesAt, IsInCase, SaysAgain, StepsCome, TakenAs, TakenBy, TookSteps, TookWhole}
use Rattle.play_stepping.proofs.EventSteps.PlaysWhole.{goes_first, map_there}
use Rattle.play_events.specs.Events.OfCalls.{Runs}
use Rattle.play_events.proofs.Events.OfCalls.Begun.{its}
use Rattle.play_events.proofs.Events.OfCalls.InCase.{if_call, in_case_where}
use Rattle.play_events.proofs.Events.OfCalls.Taken.{taken_in_case}
use Rattle.play_events.proofs.Events.OfCalls.Whole.{whole_in_case}

-- one that is refused for something else, or not at all
pub quiet_in_case : {K V : Type 0} (terms : Terms) (log : List (Entry K V)) (e : Entry K V) → (e.outcome ≡ Refused Capacity → ⊥) → OutcomeIsInCase terms log e
quiet_in_case {K} {V} terms log e never =
    if_call (λ (c : CallThere K V). IsInCase terms c (moments_from c.begun log) (worked e (moment log)) e.outcome) (acting (caller_of e.event) (worked e (moment log)))
    (λ c is. in_case_where terms c (moments_from c.begun log) (worked e (moment log)) e.outcome (λ refused. absurd (never refused)))

pub not_busy : {V : Type 0} (o : Outcome V) → o ≡ Refused Busy → o ≡ Refused Capacity → ⊥
not_busy o told is = (let other = sym told ∙ is in cc other)

not_asking : {V : Type 0} (o : Outcome V) (question : Option ℕ) → o ≡ Asks question → o ≡ Refused Capacity → ⊥
not_asking o question told is = (let other = sym told ∙ is in cc other)

not_ready : {V : Type 0} (o : Outcome V) → o ≡ Ready → o ≡ Refused Capacity → ⊥
not_ready o told is = (let other = sym told ∙ is in cc other)

module _ {K V S : Type 0} (same : K → K → Bool) (hash : K → ℕ) (old new : Scheduler K V S) (played : Played V) (terms : Terms) (log : List (Entry K V)) (runs : Runs same hash terms log old) where
  abbrev InCase : Event K V → Type 0
  InCase event = OutcomeIsInCase terms log (entry_of event played)

  -- by how far the call is
  by_far : (event : Event K V) (mid : Scheduler K V S) (place most : ℕ) → (StepsCome same hash place most played.steps played.outcome [] played.effects.items mid new → InCase event) → (how : HowFar)
      → TakenBy same hash place most how played mid new → InCase event
  by_far event mid place most so (far.Asks question) says = quiet_in_case terms log (entry_of event played) (not_asking played.outcome question says.0)
  by_far event mid place most so far.Ready says = quiet_in_case terms log (entry_of event played) (not_ready played.outcome says.0)
  by_far event mid place most so far.Goes come = so come

  pub step_finds : (own : List ℕ) (refuse : Bool) → TookSteps same hash 1 own played old new → InCase (Step own refuse)
  step_finds own refuse took = by (position (is_named own) old.calls) refl
    where
      by : (o : Option ℕ) → position (is_named own) old.calls ≡ o → OutcomeIsInCase terms log (entry_of (Step own refuse) played)
      by None is = quiet_in_case terms log (entry_of (Step own refuse) played) (not_busy played.outcome (took.1 is).0)
      by (Some place) is =
          let placed = sym is in
          let it = here_at same hash terms (moment log) old runs.stands own place placed in
          by_far (Step own refuse) old place 1
          (λ come. taken_in_case same hash terms log old runs (Step own refuse) own refl refl place placed (λ x. refl) refl played 1 new come) it.caller.stands (took.0 place placed it.caller it.at)

  pub go_finds : (own : List ℕ) (refuse : Bool) → TookSteps same hash most_steps own played old new → InCase (Go own refuse)
  go_finds own refuse took = by (position (is_named own) old.calls) refl
    where
      by : (o : Option ℕ) → position (is_named own) old.calls ≡ o → OutcomeIsInCase terms log (entry_of (Go own refuse) played)
      by None is = quiet_in_case terms log (entry_of (Go own refuse) played) (not_busy played.outcome (took.1 is).0)
      by (Some place) is =
          let placed = sym is in
          let it = here_at same hash terms (moment log) old runs.stands own place placed in
          by_far (Go own refuse) old place most_steps
          (λ come. taken_in_case same hash terms log old runs (Go own refuse) own refl refl place placed (λ x. refl) refl played most_steps new come) it.caller.stands (took.0 place placed it.caller it.at)

  pub whole_finds : (guard on : List ℕ) (call : Call K V) → TookWhole same hash guard on call played old new → InCase (OneCall guard on call)
  whole_finds guard on call took = by took_it.0 refl
    where
      took_it : (begun : Bool) × (mid : Scheduler K V S) × BeginsSo same hash terms (moment log) nameless guard on call begun old mid × (mid.logged.executor.batch_size ≡ old.logged.executor.batch_size)
          × (begun ≡ true → TakenAs same hash 0 most_steps played mid new) × (begun ≡ false → SaysAgain same hash (Refused Busy) played mid new)
      took_it = took terms (moment log) runs.stands

      mid : Scheduler K V S
      mid = took_it.1

      begun_so : (q : Bool) → took_it.0 ≡ q → BeginsSo same hash terms (moment log) nameless guard on call q old mid
      begun_so q is = subst (λ (b : Bool). BeginsSo same hash terms (moment log) nameless guard on call b old mid) is took_it.2

      by : (q : Bool) → took_it.0 ≡ q → OutcomeIsInCase terms log (entry_of (OneCall guard on call) played)
      by false is = quiet_in_case terms log (entry_of (OneCall guard on call) played) (not_busy played.outcome (took_it.5 is).0)
      by true is =
          by_far (OneCall guard on call) mid 0 most_steps (λ come. whole_in_case same hash terms log old runs guard on call mid led took_it.3 stands_mid played new come first) far.Goes
          (subst (λ (how : HowFar). TakenBy same hash 0 most_steps how played mid new) first.3 (took_it.4 is first.1 first.2))
        where
          begins : BeginsSo same hash terms (moment log) nameless guard on call true old mid
          begins = begun_so true is

          led : HasBegun same hash nameless guard on call old mid
          led = begins.led refl

          first : GoesAt nameless 0 mid
          first = goes_first same hash terms (moment log) nameless guard call (number_of on (moment log)) (map_there (moment log) guard on begins.so) mid (begins.stands refl)

          stands_mid : RefinesFor same hash terms (with_call nameless guard call (Some led.number) (moment log)) mid
          stands_mid = subst (λ (o : Option ℕ). RefinesFor same hash terms (with_call nameless guard call o (moment log)) mid) (its same hash terms log old runs nameless guard on call mid led).0
              (begins.stands refl)
