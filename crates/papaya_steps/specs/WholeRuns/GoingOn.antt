-- That a run goes on by acts: where a list of acts has led to an event, and its log is the grouping of the history of that, the list leads on by the event.
use Rattle.std.specs.Prelude.{◌≡◌, ◌≤◌, ◌^◌, ℕ, Bool, List, ◌∷◌, length}
use Rattle.run_schedules.specs.declared.event.Event.{Event}
use Rattle.run_schedules.specs.Schedules.After.{moment}
use Rattle.run_schedules.specs.Schedules.Entry.{Entry}
use Rattle.run_schedules.specs.Schedules.Terms.{Terms}
use Rattle.play_events.specs.Given.SchedulerPlayed.{IsPlayed, entry_of}
use Rattle.play_events.specs.Given.SchedulerDeclared.played.Played.{Played}
use Rattle.play_events.specs.Given.SchedulerDeclared.scheduler.Scheduler.{Scheduler}
use Rattle.play_events.specs.Given.PointsSteps.{AreLawful}
use Rattle.papaya_steps.specs.Pieced.SoFar.{ActsSoFar, ContinuesByActs}

module _ {K V S : Type 0} where
  -- Where each hasher gives keys lawful hashes, and processors are not too many, so it is of an event that is in turn,
  abbrev pub ContinuesInTurn : (K → K → Bool) → (S → K → ℕ) → Event K V → Played V → (old new : Scheduler K V S) → Type 0
  ContinuesInTurn same by_hasher event played old new = ((hasher : S) → AreLawful same (by_hasher hasher)) → old.setup.processors ≤ 2 ^ 63 → ContinuesByActs same by_hasher event played old new

  -- and of any.
  abbrev pub ContinuesAt : (K → K → Bool) → (S → K → ℕ) → Event K V → Played V → (old new : Scheduler K V S) → Type 0
  ContinuesAt same by_hasher event played old new =
      ((hasher : S) → AreLawful same (by_hasher hasher)) → old.setup.processors ≤ 2 ^ 63 → (terms : Terms) (log : List (Entry K V)) → IsPlayed same (by_hasher old.logged.executor.hasher) terms log old
      → length old.logged.executor.maps.items ≡ (moment log).made → length new.logged.executor.maps.items ≡ (moment (entry_of event played ∷ log)).made
      → ActsSoFar same by_hasher terms log old.logged old.calls → ActsSoFar same by_hasher terms (entry_of event played ∷ log) new.logged new.calls
