-- What is had of an event that reclaims all: all is back, it keeps its promises, and the run goes on with it.
use Rattle.std.specs.Prelude.{◌≡◌, ℕ, Bool, true, List, ◌∷◌}
use Rattle.run_schedules.specs.declared.event.Event.{Event}
use Rattle.run_schedules.specs.Schedules.After.{moment}
use Rattle.run_schedules.specs.Schedules.Entry.{Entry}
use Rattle.run_schedules.specs.Schedules.Handing.{gives_all}
use Rattle.run_schedules.specs.Schedules.InTurn.{HasRightOutcome}
use Rattle.run_schedules.specs.Schedules.Terms.{Terms}
use Rattle.play_lists.specs.Given.FindsLittle.{ReclaimsAll}
use Rattle.play_stepping.specs.Given.SchedulerPlayed.{IsPlayed, entry_of}
use Rattle.play_stepping.specs.Given.SchedulerDeclared.played.Played.{Played}
use Rattle.play_stepping.specs.Given.SchedulerDeclared.scheduler.Scheduler.{Scheduler}
use Rattle.play_events.specs.Events.Asked.{Holds}
use Rattle.play_events.specs.Events.OfCalls.{Runs, RunsOn}

module _ {K V S : Type 0} (same : K → K → Bool) (hash : K → ℕ) where
  -- What is promised of one that comes to what is right: it keeps its promises, all is back, and the run goes on.
  abbrev pub PreservesAll : Event K V → Played V → (old new : Scheduler K V S) → Type 0
  PreservesAll event played old new =
      gives_all event ≡ true → (terms : Terms) (log : List (Entry K V)) → Holds same hash terms (moment log) old → (run : Runs same hash terms log old)
      → IsPlayed same hash terms (entry_of event played ∷ log) new → HasRightOutcome terms log (entry_of event played)
      → RunsOn same hash terms log (entry_of event played) new × ReclaimsAll log (entry_of event played)
