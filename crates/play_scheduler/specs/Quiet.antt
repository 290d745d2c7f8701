-- What is refused as busy did nothing.
use Rattle.std.specs.Prelude.{◌≡◌, ℕ, Bool, List, []}
use Rattle.seize_words.specs.declared.fault.Fault.TheVariants.{Busy}
use Rattle.run_schedules.specs.declared.effect.Effect.{Effect}
use Rattle.run_schedules.specs.declared.event.Event.{Event}
use Rattle.run_schedules.specs.declared.outcome.Outcome.{Outcome}
use Rattle.run_schedules.specs.declared.outcome.Outcome.TheVariants.{Refused}
use Rattle.run_schedules.specs.Schedules.Entry.{Entry}
use Rattle.run_schedules.specs.Schedules.Terms.{Terms}
use Rattle.play_scheduler.specs.Played.{IsInTurn}
use Rattle.play_scheduler.specs.declared.played.Played.{Played}
use Rattle.play_scheduler.specs.declared.scheduler.Scheduler.{Scheduler}

-- what came to this as busy had no effects; of any other outcome this says nothing
abbrev pub BusyIsSilent : {V : Type 0} → Outcome V → List Effect → Type 0
BusyIsSilent (Refused Busy) effects = effects ≡ []
BusyIsSilent _ effects = Unit {0}

module _ {K V S : Type 0} (same : K → K → Bool) (hash : K → ℕ) where
  -- an event that was not kept out, and is refused as busy, has left the scheduler as it was, and had no effects
  abbrev pub StaysBusy : Event K V → Played V → (old new : Scheduler K V S) → Type 0
  StaysBusy event played old new =
      (terms : Terms) (log : List (Entry K V)) → IsInTurn same hash terms log event old → played.outcome ≡ Refused Busy → (new ≡ old) × (played.effects.items ≡ [])
