-- An event by which a call takes steps, or says again what it has said: the list of acts goes on by them.
use Rattle.std.specs.Prelude.{◌≤◌, ◌+◌, position, slice_get, Option, Some, None, option_map}
use Rattle.std.proofs.Common.{◌≡◌, ℕ, Bool, true, List, [], ◌∷◌, refl, sym, ap, subst, arith, ◌∙◌, inl, inr}
use Rattle.run_schedules.proofs.Runs.Sames.{same_is}
use Rattle.play_events.specs.Given.FinishesMachines.{machine_of}
use Rattle.play_events.specs.Given.ScenesScene.{slot_of}
use Rattle.seize_words.specs.declared.fault.Fault.TheVariants as fault
use Rattle.run_schedules.specs.declared.event.Event.{Event}
use Rattle.run_schedules.specs.declared.event.Event.TheVariants as event
use Rattle.run_schedules.specs.declared.outcome.Outcome.{Outcome}
use Rattle.run_schedules.specs.declared.outcome.Outcome.TheVariants as outcome
use Rattle.run_schedules.specs.Schedules.After.{moment}
use Rattle.run_schedules.specs.Schedules.Entry.{Entry}
use Rattle.run_schedules.specs.Schedules.Moment.{Moment}
use Rattle.run_schedules.specs.Schedules.Terms.{Terms, shards_of}
use Rattle.run_effects.specs.Effects.Known.{known}
use Rattle.play_events.specs.Given.ExecutorIsThere.{PreservesSettings}
use Rattle.play_events.specs.Given.SchedulerPlayed.{IsPlayed, IsUnderWayAs, AsFar, RefinesFor, entry_of}
use Rattle.play_events.specs.Given.SchedulerDeclared.played.Played.{Played}
use Rattle.play_events.specs.Given.SchedulerDeclared.scheduler.Scheduler.{Scheduler}
use Rattle.play_events.specs.Given.NamedSeen.{is_named}
use Rattle.play_events.specs.Given.ExecutorDeclared.caller.NamedCaller.{NamedCaller}
use Rattle.play_events.specs.Given.ExecutorDeclared.caller.Stands.{Stands as HowFar}
use Rattle.play_events.specs.Given.ExecutorDeclared.caller.Stands.TheVariants as far
use Rattle.play_events.specs.Given.ActsLists.{Course}
use Rattle.run_schedules.specs.Deeds.Deeds.{Steps}
use Rattle.play_events.specs.Given.SteppingStepping.{SaysAgain, TakenBy, TookSteps}
use Rattle.play_events.specs.Given.GroupedGrouping.{MayHave, Names, number_called, MayRest, asks_for_steps}
use Rattle.play_events.specs.Given.GroupedReach.{Reach}
use Rattle.play_events.specs.Given.GroupedCalled.{PlaysSo}
use Rattle.papaya_steps.specs.Pieced.SoFar.{ActsSoFar, ContinuesByActs}
use Rattle.play_events.proofs.Given.GroupedCallers.{each_at, placed_at}
use Rattle.play_events.proofs.Given.GroupedMidst.{InEvent, event_begins, event_ends, maps_of, at_rest}
use Rattle.papaya_steps.proofs.Pieced.Quiet.{later_by, quiet_goes_on}
use Rattle.play_events.proofs.Given.GroupedReached.{reach_so}
use Rattle.papaya_steps.proofs.Pieced.StepCall.{HasCallIn}
use Rattle.papaya_steps.proofs.Pieced.StepsCall.{gone_by}

-- whose call is under way, has it under way in the executor
pub works_at : {K V S : Type 0} (same : K → K → Bool) (hash : K → ℕ) (terms : Terms) (m : Moment K V) (p : Scheduler K V S) → RefinesFor same hash terms m p → (place : ℕ) (d : NamedCaller V)
    → slice_get p.calls place ≡ Some d → HasCallIn d.number d.map p.logged.executor
works_at same hash terms m p stands place d here =
    let under_way = each_at (IsUnderWayAs AsFar stands.name stands.scene p.there) p.calls place d here stands.calls.each in
    (machine_of under_way.0, sym (stands.shown.is_at.calls d.map d.number) ∙ ap (option_map machine_of) under_way.1)

module _ {K V S : Type 0} (same : K → K → Bool) (by_hasher : S → K → ℕ) (terms : Terms) (any : Course V same by_hasher terms.batch_size terms.roots slot_of) (log : List (Entry K V)) (event : Event K V) (own : List ℕ)
    (may : (names : Names) (i : ℕ) → number_called own names ≡ Some i → MayHave names (moment log) event (Steps i)) (takes : asks_for_steps event ≡ true) (played : Played V) (old new : Scheduler K V S)
    (later : (moment log).made + maps_of event ≤ (moment (entry_of event played ∷ log)).made) where
  abbrev Before : Type 0
  Before = ActsSoFar same by_hasher terms log old.logged old.calls

  abbrev After : Type 0
  After = ActsSoFar same by_hasher terms (entry_of event played ∷ log) new.logged new.calls

  -- nothing was done
  pub again : (outcome : Outcome V) → MayRest (moment log) event outcome → SaysAgain same (by_hasher old.logged.executor.hasher) outcome played old new → Before → After
  again outcome rest (says, none, idle, stays) at =
      subst (λ (p : Scheduler K V S). ActsSoFar same by_hasher terms (entry_of event played ∷ log) p.logged p.calls) (sym stays)
      (quiet_goes_on same by_hasher terms log old.logged old.calls (entry_of event played) none idle (omega (arith, later)) (subst (MayRest (moment log) event) (sym says) rest) at)

  -- the caller's call, as far as it is, has taken steps, or none
  pub taken : (place most : ℕ) (d : NamedCaller V) → slice_get old.calls place ≡ Some d → d.name ≡ own → HasCallIn d.number d.map old.logged.executor → (stands : HowFar)
      → TakenBy same (by_hasher old.logged.executor.hasher) place most stands played old new → Before → After
  taken place most d here name works (far.Asks question) says at = again (outcome.Asks question) (inr (inr (inl (takes, refl)))) says at
  taken place most d here name works far.Ready says at = again outcome.Ready (inr (inr (inl (takes, refl)))) says at
  taken place most d here name works far.Goes (few, comes, gone) at =
      let begins = reach_so same by_hasher old.logged.executor.hasher terms.batch_size terms.roots (shards_of terms) (PlaysSo log old.calls) (λ x. InEvent log event [] 0 at_rest old.calls x)
      (λ x so. event_begins log event at_rest refl old.calls x so) old.logged.executor (known old.logged.notes) at in
      let did = gone_by same by_hasher (shards_of terms) log event place d.number d.map own (λ names called. may names d.number called) old.logged.executor.hasher terms.batch_size terms.roots any played.steps
      played.outcome [] played.effects.items old new at_rest gone (record { caller = d; at = here; name = name; number = refl; map = refl; works = works }) begins in
      let ends = reach_so same by_hasher old.logged.executor.hasher terms.batch_size terms.roots (shards_of terms) (λ x. InEvent log event played.effects.items played.steps played.outcome new.calls x)
      (PlaysSo (entry_of event played ∷ log) new.calls) (λ x so. event_ends log event played.effects.items played.steps played.outcome new.calls x later so) new.logged.executor (known new.logged.notes) did in
      subst (λ (h : S). Reach same by_hasher h terms.batch_size terms.roots (shards_of terms) (PlaysSo (entry_of event played ∷ log) new.calls) new.logged.executor (known new.logged.notes)) (sym did.hasher_is) ends

  -- The event by which the call of this name takes up to so many steps: if there is none, nothing has happened.
  pub steps_are_acts : (most : ℕ) → TookSteps same (by_hasher old.logged.executor.hasher) most own played old new → IsPlayed same (by_hasher old.logged.executor.hasher) terms log old → Before → After
  steps_are_acts most took stands at = by (position (is_named own) old.calls) refl
    where
      by : (o : Option ℕ) → position (is_named own) old.calls ≡ o → After
      by None none = again (outcome.Refused fault.Busy) (inl refl) (took.1 none) at
      by (Some place) is =
          let d = placed_at (is_named own) old.calls place (sym is) in
          taken place most d.0 d.1 (same_is d.0.name own d.2) (works_at same (by_hasher old.logged.executor.hasher) terms (moment log) old stands place d.0 d.1) d.0.stands (took.0 place (sym is) d.0 d.1) at

-- so the events go on by acts that are steps of one call
module _ {K V S : Type 0} (same : K → K → Bool) (by_hasher : S → K → ℕ) (any : (batch_size roots : ℕ) → Course V same by_hasher batch_size roots slot_of) (own : List ℕ) (refuse : Bool) (played : Played V) (old new : Scheduler K V S)
    (most : ℕ) (took : TookSteps same (by_hasher old.logged.executor.hasher) most own played old new) (given : PreservesSettings old.logged.executor new.logged.executor) where
  pub step_goes_on : ContinuesByActs same by_hasher (event.Step own refuse) played old new
  step_goes_on terms log stands in_turn next next2 at =
      steps_are_acts same by_hasher terms (any terms.batch_size terms.roots) log (event.Step own refuse) own (λ names i called. called) refl played old new
      (later_by (event.Step own refuse) played old new log refl given next next2) most took stands at

  pub go_goes_on : ContinuesByActs same by_hasher (event.Go own refuse) played old new
  go_goes_on terms log stands in_turn next next2 at =
      steps_are_acts same by_hasher terms (any terms.batch_size terms.roots) log (event.Go own refuse) own (λ names i called. called) refl played old new
      (later_by (event.Go own refuse) played old new log refl given next next2) most took stands at
