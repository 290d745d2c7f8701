-- That a scheduler stands where a list of acts has led, of which the log so far is the grouping; and what is promised of an event then.
use Rattle.std.specs.Prelude.{◌≡◌, ℕ, Bool, false, List, ◌∷◌, length}
use Rattle.run_schedules.specs.declared.event.Event.{Event}
use Rattle.run_schedules.specs.Schedules.After.{moment}
use Rattle.run_schedules.specs.Schedules.Entry.{Entry}
use Rattle.run_schedules.specs.Schedules.Terms.{Terms, shards_of}
use Rattle.play_events.specs.Given.ExecutorDeclared.caller.NamedCaller.{NamedCaller}
use Rattle.run_effects.specs.Effects.Known.{known}
use Rattle.play_events.specs.Given.LoggedDeclared.logged.Logged.{Logged}
use Rattle.play_events.specs.Given.SchedulerPlayed.{IsPlayed, entry_of}
use Rattle.play_events.specs.Given.SchedulerDeclared.played.Played.{Played}
use Rattle.play_events.specs.Given.SchedulerDeclared.scheduler.Scheduler.{Scheduler}
use Rattle.play_events.specs.Given.GroupedCalled.{PlaysSo}
use Rattle.play_events.specs.Given.GroupedReach.{Reach}

module _ {K V S : Type 0} where
  module _ (same : K → K → Bool) (by_hasher : S → K → ℕ) (terms : Terms) where
    -- A list of acts has led where the executor is, and played, it has a history of which the log is the grouping.
    abbrev pub ActsSoFar : List (Entry K V) → Logged K V S → List (NamedCaller V) → Type 0
    ActsSoFar log l calls = Reach same by_hasher l.executor.hasher terms.batch_size terms.roots (shards_of terms) (PlaysSo log calls) l.executor (known l.notes)

  -- What is promised of an event that is in turn, where the executor has as many numbers of maps as the moments say: the list goes on by its acts.
  abbrev pub ContinuesByActs : (K → K → Bool) → (S → K → ℕ) → Event K V → Played V → (old new : Scheduler K V S) → Type 0
  ContinuesByActs same by_hasher event played old new =
      (terms : Terms) (log : List (Entry K V)) → IsPlayed same (by_hasher old.logged.executor.hasher) terms log old → (moment log).is_closed ≡ false
      → length old.logged.executor.maps.items ≡ (moment log).made → length new.logged.executor.maps.items ≡ (moment (entry_of event played ∷ log)).made
      → ActsSoFar same by_hasher terms log old.logged old.calls → ActsSoFar same by_hasher terms (entry_of event played ∷ log) new.logged new.calls
