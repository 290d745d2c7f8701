-- What is promised of what an event gives back, and of what a run tells of that at its end.
use Rattle.std.specs.Prelude.{◌≡◌, ℕ, Bool, false, List, [], flat_map, option_map}
use Rattle.std.specs.List.{AllByRecursion}
use Rattle.run_schedules.specs.declared.ended.Pair.{Pair}
use Rattle.run_schedules.specs.Runs.Log.{pair_at}
use Rattle.run_schedules.specs.Runs.Pairs.{numbers}
use Rattle.run_schedules.specs.Runs.Runs.{IsStored}
use Rattle.run_schedules.specs.declared.effect.Effect.{Effect}
use Rattle.run_schedules.specs.declared.event.Event.{Event}
use Rattle.run_schedules.specs.declared.event.Event.TheVariants.{Register, Unregister, Enter, Own, Refresh, Flush, DropGuard, ReclaimAll, Close, EndMap}
use Rattle.run_schedules.specs.declared.record.Run.{Run}
use Rattle.run_schedules.specs.Schedules.After.{AtEachEvent, moment}
use Rattle.run_schedules.specs.Schedules.Effects.{pairs_back}
use Rattle.run_schedules.specs.Schedules.Entry.{Entry}
use Rattle.run_schedules.specs.Schedules.Moment.{Moment}
use Rattle.run_schedules.specs.Schedules.Runs.{pair_of}
use Rattle.run_schedules.specs.Schedules.Terms.{Terms}
use Rattle.play_events.specs.Given.LoggedBack.{ComesBack}
use Rattle.play_events.specs.Given.SchedulerDeclared.played.Played.{Played}
use Rattle.play_events.specs.Given.SchedulerDeclared.scheduler.Scheduler.{Scheduler}
use Rattle.run_effects.specs.Tallies.Told.{AreBack, ArePlaced}
use Rattle.play_events.specs.Events.Asked.{Holds}

module _ {K V : Type 0} where
  -- Pairs are reclaimed by those alone who do something with a slot, end a map, or reclaim everything.
  abbrev pub ReclaimsBy : Event K V → List Effect → Type 0
  ReclaimsBy (Register registration) did = Unit {0}
  ReclaimsBy (Unregister registration) did = Unit {0}
  ReclaimsBy (Enter guard registration) did = Unit {0}
  ReclaimsBy (Own guard) did = Unit {0}
  ReclaimsBy (Refresh guard) did = Unit {0}
  ReclaimsBy (Flush guard) did = Unit {0}
  ReclaimsBy (DropGuard guard) did = Unit {0}
  ReclaimsBy (EndMap name) did = Unit {0}
  ReclaimsBy ReclaimAll did = Unit {0}
  ReclaimsBy Close did = Unit {0}
  ReclaimsBy _ did = flat_map pairs_back did ≡ []

  -- so it is of the event of an entry, and of each of a log
  abbrev pub ReclaimsRight : List (Entry K V) → Entry K V → Type 0
  ReclaimsRight log e = ReclaimsBy e.event e.effects

  -- What a run tells at its end of pairs that were given back is what its events say; and which pair has a number, where each that was stored is somewhere.
  pub record ReportsBack (m : Moment K V) (run : Run K V) : Type 0 where
    pub given_back : numbers run.given_back ≡ m.given_back
    pub contents : AllByRecursion (IsStored m.stored) run.given_back
    pub pairs : ArePlaced m → (n : ℕ) → option_map (λ p. (p.key, p.value)) (pair_of run n) ≡ pair_at m.stored n

  -- what was reclaimed so far has come back
  abbrev pub BackSoFar : List (Entry K V) → List (Pair K V) → Type 0
  BackSoFar log pairs = AtEachEvent ReclaimsRight log → AreBack (moment log) pairs

module _ {K V S : Type 0} (same : K → K → Bool) (hash : K → ℕ) where
  -- What an event reclaims comes back: those pairs follow in the list, each as it was stored.
  abbrev pub GivesAt : Event K V → Played V → Scheduler K V S → (before after : List (Pair K V)) → Type 0
  GivesAt event played old before after =
      (terms : Terms) (log : List (Entry K V)) → Holds same hash terms (moment log) old → ReclaimsBy event played.effects.items → ComesBack (moment log).stored played.effects.items before after

  -- so it is of one that is in turn
  abbrev pub GivesDue : Event K V → Played V → Scheduler K V S → (before after : List (Pair K V)) → Type 0
  GivesDue event played old before after =
      (terms : Terms) (log : List (Entry K V)) → Holds same hash terms (moment log) old → (moment log).is_closed ≡ false → ReclaimsBy event played.effects.items
      → ComesBack (moment log).stored played.effects.items before after
