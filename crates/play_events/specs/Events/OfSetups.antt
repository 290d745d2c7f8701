-- What is promised of an event that sets something up, shows the tables of a map, or forgets a guard: it keeps its promises, and the run goes on.
use Rattle.std.specs.Prelude.{◌≡◌, ℕ, Bool, true, false, List, ◌∷◌}
use Rattle.run_schedules.specs.declared.event.Event.{Event}
use Rattle.run_schedules.specs.declared.event.Event.TheVariants.{Collector, Hash, Choose, Forget, ShowShape}
use Rattle.run_schedules.specs.Schedules.Entry.{Entry}
use Rattle.run_schedules.specs.Schedules.InTurn.{HasRightOutcome}
use Rattle.run_schedules.specs.Schedules.Terms.{Terms}
use Rattle.play_stepping.specs.Given.SchedulerPlayed.{IsPlayed, entry_of}
use Rattle.play_stepping.specs.Given.SchedulerDeclared.played.Played.{Played}
use Rattle.play_stepping.specs.Given.SchedulerDeclared.scheduler.Scheduler.{Scheduler}
use Rattle.play_events.specs.Events.OfCalls.{Runs, RunsOn}

module _ {K V : Type 0} where
  -- These are the events by which no steps run: those of the setup, those that show tables, and those that forget guards.
  abbrev pub is_of_setups : Event K V → Bool
  is_of_setups (Collector setup) = true
  is_of_setups (Hash by) = true
  is_of_setups (Choose choice) = true
  is_of_setups (Forget guard) = true
  is_of_setups (ShowShape name) = true
  is_of_setups _ = false

module _ {K V S : Type 0} (same : K → K → Bool) (hash : K → ℕ) where
  -- Nothing is left to be asked of one that comes to what is right.
  abbrev pub PreservesSetup : Event K V → Played V → (old new : Scheduler K V S) → Type 0
  PreservesSetup event played old new =
      is_of_setups event ≡ true → (terms : Terms) (log : List (Entry K V)) → Runs same hash terms log old → IsPlayed same hash terms (entry_of event played ∷ log) new
      → HasRightOutcome terms log (entry_of event played) → RunsOn same hash terms log (entry_of event played) new
