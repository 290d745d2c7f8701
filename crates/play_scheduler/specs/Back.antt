-- What an event gives back.
use Rattle.std.specs.Prelude.{ℕ, Bool, List}
use Rattle.run_schedules.specs.declared.ended.Pair.{Pair}
use Rattle.run_schedules.specs.declared.event.Event.{Event}
use Rattle.run_schedules.specs.Schedules.After.{moment}
use Rattle.run_schedules.specs.Schedules.Entry.{Entry}
use Rattle.run_schedules.specs.Schedules.Terms.{Terms}
use Rattle.run_logged.specs.Log.Back.{ComesBack}
use Rattle.play_scheduler.specs.Played.{IsInTurn}
use Rattle.play_scheduler.specs.Reclaiming.{MayGiveAll}
use Rattle.play_scheduler.specs.declared.played.Played.{Played}
use Rattle.play_scheduler.specs.declared.scheduler.Scheduler.{Scheduler}

module _ {K V S : Type 0} (same : K → K → Bool) (hash : K → ℕ) where
  -- What the event has reclaimed has come back, where it was in turn: those pairs follow in the list, each as it was stored.
  abbrev pub GivesBack : Event K V → Played V → Scheduler K V S → (before after : List (Pair K V)) → Type 0
  GivesBack event played old before after =
      (terms : Terms) (log : List (Entry K V)) → IsInTurn same hash terms log event old → ComesBack (moment log).stored played.effects.items before after

  -- So it is of one that reclaims everything, by what is asked of that.
  abbrev pub GivesAllBack : Event K V → Played V → Scheduler K V S → (before after : List (Pair K V)) → Type 0
  GivesAllBack event played old before after =
      (terms : Terms) (log : List (Entry K V)) (due : IsInTurn same hash terms log event old) → MayGiveAll old due.played.scene → ComesBack (moment log).stored played.effects.items before after
