-- An event by which nothing is done is the grouping of nothing: the list of acts is as it was.
use Rattle.std.specs.Prelude.{◌≤◌, ◌+◌, length}
use Rattle.std.proofs.Common.{◌≡◌, ℕ, Bool, List, [], ◌∷◌, refl, sym, ap, subst, arith}
use Rattle.run_schedules.specs.declared.event.Event.{Event}
use Rattle.run_schedules.specs.Schedules.After.{moment}
use Rattle.run_schedules.specs.Schedules.Entry.{Entry}
use Rattle.run_schedules.specs.Schedules.Terms.{Terms}
use Rattle.play_events.specs.Given.ExecutorDeclared.caller.NamedCaller.{NamedCaller}
use Rattle.play_events.specs.Given.ExecutorIsThere.{PreservesSettings}
use Rattle.play_events.specs.Given.LoggedDeclared.logged.Logged.{Logged}
use Rattle.play_events.specs.Given.SchedulerPlayed.{entry_of}
use Rattle.play_events.specs.Given.SchedulerDeclared.played.Played.{Played}
use Rattle.play_events.specs.Given.SchedulerDeclared.scheduler.Scheduler.{Scheduler}
use Rattle.play_events.proofs.Given.GroupedMidst.{maps_of}
use Rattle.papaya_steps.specs.Pieced.SoFar.{ActsSoFar, ContinuesByActs}
use Rattle.play_events.specs.Given.GroupedGrouping.{MayRest}
use Rattle.run_schedules.specs.Schedules.Moment.{Moment}

module _ {K V S : Type 0} (same : K → K → Bool) (by_hasher : S → K → ℕ) (terms : Terms) (log : List (Entry K V)) (l : Logged K V S) (calls : List (NamedCaller V)) where
  pub quiet_goes_on : (e : Entry K V) → e.steps ≡ 0 → e.effects ≡ [] → (moment log).made ≤ (moment (e ∷ log)).made → MayRest (moment log) e.event e.outcome → ActsSoFar same by_hasher terms log l calls
      → ActsSoFar same by_hasher terms (e ∷ log) l calls
  quiet_goes_on e steps none later rest at = record {
    hasher_is = at.hasher_is;
    size = at.size;
    roots_are = at.roots_are;
    doings = at.doings;
    asks = at.asks;
    leads = at.leads;
    played = λ value. (let was = at.played value in record {
      aborts = was.aborts;
      after = was.after;
      plays = was.plays;
      new = was.new;
      knows = was.knows;
      so = record {
        names = was.so.names;
        grouping = ([], was.after.history, was.so.names, refl, refl, record { effects = none; steps = steps; outcome = rest; deeds = tt }, was.so.grouping);
        callers = was.so.callers;
        fresh = λ n few. was.so.fresh n (omega (arith, few, later));
      };
    });
  }

module _ {K V S : Type 0} (event : Event K V) (played : Played V) (old new : Scheduler K V S) where
  -- an event that makes no map, and keeps how many of them have a number, is one after which there are no fewer
  pub later_by : (log : List (Entry K V)) → maps_of event ≡ 0 → PreservesSettings old.logged.executor new.logged.executor → length old.logged.executor.maps.items ≡ (moment log).made
      → length new.logged.executor.maps.items ≡ (moment (entry_of event played ∷ log)).made → (moment log).made + maps_of event ≤ (moment (entry_of event played ∷ log)).made
  later_by log none given next next2 = let same_count = given.3 in omega (arith, none, same_count, next, next2)

  -- So it is of one by which nothing is done.
  pub did_nothing : (same : K → K → Bool) (by_hasher : S → K → ℕ) → played.steps ≡ 0 → played.effects.items ≡ [] → new.logged ≡ old.logged → new.calls ≡ old.calls
      → ((m : Moment K V) → m.there ≡ old.there → MayRest m event played.outcome)
      → ContinuesByActs same by_hasher event played old new
  did_nothing same by_hasher idle none logged calls rest terms log stands in_turn next next2 at =
      let count : length new.logged.executor.maps.items ≡ length old.logged.executor.maps.items = ap (λ (l : Logged K V S). length l.executor.maps.items) logged in
      subst (λ (l : Logged K V S). ActsSoFar same by_hasher terms (entry_of event played ∷ log) l new.calls) (sym logged)
      (subst (λ (c : List (NamedCaller V)). ActsSoFar same by_hasher terms (entry_of event played ∷ log) old.logged c) (sym calls)
      (quiet_goes_on same by_hasher terms log old.logged old.calls (entry_of event played) idle none (omega (arith, count, next, next2)) (rest (moment log) stands.there) at))
