-- What is promised of an event that is kept out.
use Rattle.std.specs.Prelude.{◌≡◌, ℕ, Bool, true, List}
use Rattle.run_schedules.specs.declared.event.Event.{Event}
use Rattle.run_schedules.specs.Schedules.Entry.{Entry}
use Rattle.run_schedules.specs.Schedules.Terms.{Terms}
use Rattle.play_scheduler.specs.Played.{IsPlayed, Plays, entry_of}
use Rattle.play_scheduler.specs.declared.played.Played.{Played}
use Rattle.play_scheduler.specs.declared.scheduler.Scheduler.{Scheduler}

module _ {K V S : Type 0} (same : K → K → Bool) (hash : K → ℕ) where
  -- It has come to what is right for it, and the scheduler has played the log with it.
  abbrev pub PlaysKeptOut : Event K V → Played V → (old new : Scheduler K V S) → Type 0
  PlaysKeptOut event played old new =
      (terms : Terms) (log : List (Entry K V)) → IsPlayed same hash terms log old → old.is_closed ≡ true → Plays same hash terms log (entry_of event played) new
