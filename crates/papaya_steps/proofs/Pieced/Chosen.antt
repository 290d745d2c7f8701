-- An event by which a choice comes: the list of acts goes on by that, and it is the grouping of nothing.
use Rattle.std.specs.Prelude.{◌≤◌, length}
use Rattle.std.proofs.Common.{◌≡◌, ℕ, Bool, List, [], ◌∷◌, refl, sym, ap, subst, arith, inl, inr}
use Rattle.play_events.specs.Given.ScenesScene.{slot_of}
use Rattle.run_schedules.specs.declared.event.Event.TheVariants as event
use Rattle.run_schedules.specs.Schedules.After.{moment}
use Rattle.run_schedules.specs.Schedules.Entry.{Entry}
use Rattle.run_schedules.specs.Schedules.Terms.{shards_of}
use Rattle.run_effects.specs.Effects.Known.{known}
use Rattle.play_events.specs.Given.LoggedChoosing.{logged_chosen}
use Rattle.play_events.specs.Given.SchedulerPlayed.{entry_of}
use Rattle.play_events.specs.Given.SchedulerWorks.{WorksOnSetup}
use Rattle.play_events.specs.Given.SchedulerDeclared.played.Played.{Played}
use Rattle.play_events.specs.Given.SchedulerDeclared.scheduler.Scheduler.{Scheduler}
use Rattle.play_events.specs.Given.ExecutorDeclared.caller.NamedCaller.{NamedCaller}
use Rattle.play_events.specs.Given.ActsLists.{Course}
use Rattle.play_events.specs.Given.PlayedPlay.{State, choice_come}
use Rattle.play_events.specs.Given.GroupedCalled.{PlaysSo}
use Rattle.play_events.proofs.Given.GroupedAside.{callers_same}
use Rattle.play_events.proofs.Given.GroupedChosen.{choice_goes}
use Rattle.papaya_steps.specs.Pieced.SoFar.{ActsSoFar, ContinuesByActs}
use Rattle.play_events.specs.Given.GroupedGrouping.{MayRest}

module _ {K V S : Type 0} where
  -- a choice makes no entry
  pub quiet_choice : (log : List (Entry K V)) (calls : List (NamedCaller V)) (choice : ℕ) (x : State K V S) → PlaysSo log calls x → PlaysSo log calls (choice_come choice x)
  quiet_choice log calls choice x so = record {
    names = so.names;
    grouping = so.grouping;
    callers = callers_same so.names calls x (choice_come choice x) refl so.callers;
    fresh = so.fresh;
  }

  -- and where an event is nothing else, it is the grouping of nothing
  event_choice : (log : List (Entry K V)) (e : Entry K V) (calls : List (NamedCaller V)) (choice : ℕ) (x : State K V S) → e.steps ≡ 0 → e.effects ≡ [] → (moment log).made ≤ (moment (e ∷ log)).made → MayRest (moment log) e.event e.outcome → PlaysSo log calls x
      → PlaysSo (e ∷ log) calls (choice_come choice x)
  event_choice log e calls choice x idle none later rest so = record {
    names = so.names;
    grouping = ([], x.history, so.names, refl, refl, record { effects = none; steps = idle; outcome = rest; deeds = tt }, so.grouping);
    callers = callers_same so.names calls x (choice_come choice x) refl so.callers;
    fresh = λ n few. so.fresh n (omega (arith, few, later));
  }

module _ {K V S : Type 0} (same : K → K → Bool) (by_hasher : S → K → ℕ) (any : (batch_size roots : ℕ) → Course V same by_hasher batch_size roots slot_of) (choice : ℕ) (played : Played V) (old new : Scheduler K V S)
    (idle : played.steps ≡ 0) (works : WorksOnSetup played old new (event.Choose choice)) where
  pub choice_goes_on : ContinuesByActs same by_hasher (event.Choose choice) played old new
  choice_goes_on terms log stands in_turn next next2 at =
      let count : length new.logged.executor.maps.items ≡ length old.logged.executor.maps.items = ap (λ (p : Scheduler K V S). length p.logged.executor.maps.items) works.2 in
      let e = entry_of (event.Choose choice) played in
      let l = logged_chosen choice old.logged in
      subst (λ (p : Scheduler K V S). ActsSoFar same by_hasher terms (e ∷ log) p.logged p.calls) (sym works.2)
      (choice_goes same by_hasher (shards_of terms) choice old.logged.executor (PlaysSo log old.calls) (PlaysSo (e ∷ log) old.calls)
      (λ x so. event_choice log e old.calls choice x idle works.1 (omega (arith, count, next, next2)) (inr (inl refl)) so) (known old.logged.notes) terms.batch_size terms.roots (any terms.batch_size terms.roots) at)
