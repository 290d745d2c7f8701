-- What an event has done that reclaims all: which steps ran.
use Rattle.std.specs.Prelude.{◌≡◌, ◌⊎◌, nat_lt, true, []}
use Rattle.seize_words.specs.declared.fault.Fault.TheVariants.{Busy}
use Rattle.run_schedules.specs.declared.outcome.Outcome.TheVariants.{Done, Refused}
use Rattle.run_logged.specs.Given.EffectsKnown.{known}
use Rattle.run_logged.specs.Log.Goes.{ReclaimingGone}
use Rattle.play_scheduler.specs.Reclaiming.{are_gone}
use Rattle.play_scheduler.specs.Works.{DidNothing}
use Rattle.play_scheduler.specs.declared.played.Played.{Played}
use Rattle.play_scheduler.specs.declared.scheduler.Scheduler.{Scheduler}

module _ {K V S : Type 0} (played : Played V) (old new : Scheduler K V S) where
  -- It was out of turn, and has done nothing; or nobody was there, and all was reclaimed by such steps. Callers are as they were.
  abbrev pub WorksOnAll : Type 0
  WorksOnAll =
      (new.calls ≡ old.calls)
      × (((played.outcome ≡ Refused Busy) × DidNothing played old new)
      ⊎ ((played.outcome ≡ Done) × (are_gone old.there old.calls ≡ true)
      × ReclaimingGone (nat_lt 0 (known old.logged.notes).buckets) [] played.effects.items old.logged new.logged))
