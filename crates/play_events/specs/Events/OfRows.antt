-- What is had of an event whose work is a row on a slot, the making of a map, or the end of one: it keeps its promises, and the run goes on with it.
use Rattle.std.specs.Prelude.{◌≡◌, ℕ, Bool, true, false, List, ◌∷◌}
use Rattle.run_schedules.specs.declared.event.Event.{Event}
use Rattle.run_schedules.specs.declared.event.Event.TheVariants.{DropGuard, EndMap, Enter, Flush, MakeMap, Own, Refresh, Register, Unregister}
use Rattle.run_schedules.specs.Schedules.After.{moment}
use Rattle.run_schedules.specs.Schedules.Entry.{Entry}
use Rattle.run_schedules.specs.Schedules.InTurn.{HasRightOutcome}
use Rattle.run_schedules.specs.Schedules.Terms.{Terms}
use Rattle.play_stepping.specs.Given.SchedulerPlayed.{IsPlayed, entry_of}
use Rattle.play_stepping.specs.Given.SchedulerDeclared.played.Played.{Played}
use Rattle.play_stepping.specs.Given.SchedulerDeclared.scheduler.Scheduler.{Scheduler}
use Rattle.play_events.specs.Events.Asked.{Holds}
use Rattle.play_events.specs.Events.OfCalls.{Runs, RunsOn}

module _ {K V : Type 0} where
  -- these are the events of which it is said
  abbrev pub is_of_rows : Event K V → Bool
  is_of_rows (Register registration) = true
  is_of_rows (Unregister registration) = true
  is_of_rows (Enter guard registration) = true
  is_of_rows (Own guard) = true
  is_of_rows (Refresh guard) = true
  is_of_rows (Flush guard) = true
  is_of_rows (DropGuard guard) = true
  is_of_rows (MakeMap name mode capacity) = true
  is_of_rows (EndMap name) = true
  is_of_rows _ = false

module _ {K V S : Type 0} (same : K → K → Bool) (hash : K → ℕ) where
  -- What is promised of one that is in turn, if it comes to what is right: it keeps its promises, and the run goes on.
  abbrev pub PreservesRun : Event K V → Played V → (old new : Scheduler K V S) → Type 0
  PreservesRun event played old new =
      is_of_rows event ≡ true → (terms : Terms) (log : List (Entry K V)) → Holds same hash terms (moment log) old → Runs same hash terms log old → (moment log).is_closed ≡ false
      → IsPlayed same hash terms (entry_of event played ∷ log) new → HasRightOutcome terms log (entry_of event played) → RunsOn same hash terms log (entry_of event played) new

  -- and so of one that is kept out
  abbrev pub PreservesRunAt : Event K V → Played V → (old new : Scheduler K V S) → Type 0
  PreservesRunAt event played old new =
      is_of_rows event ≡ true → (terms : Terms) (log : List (Entry K V)) → Holds same hash terms (moment log) old → Runs same hash terms log old
      → IsPlayed same hash terms (entry_of event played ∷ log) new → HasRightOutcome terms log (entry_of event played) → RunsOn same hash terms log (entry_of event played) new
