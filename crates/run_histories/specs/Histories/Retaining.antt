-- What a retaining asks about: a pair that the map has at a moment of the call.
use Rattle.std.specs.Prelude.{◌≡◌, ℕ, Bool, List, Some, None, ◌⊎◌}
use Rattle.run_places.specs.Given.ReservesDeclared.sweep.Sweeping.TheVariants as at
use Rattle.run_places.specs.Given.RunsDeclared.call.Call.TheVariants.{Retain}
use Rattle.run_places.specs.Given.SchedulesLinearizable.{MayAsk}
use Rattle.run_places.specs.Given.SchedulesMoment.{UnderWay as CallThere, Moment}
use Rattle.run_places.specs.Given.SchedulesViews.{call_of, finite_map}
use Rattle.run_places.specs.Given.CallersOverAll.{CallOverAll}
use Rattle.run_places.specs.Given.CallersTogether.{OverAll}
use Rattle.run_places.specs.Given.EffectsKnown.{Known}
use Rattle.run_histories.specs.Histories.Answers.{NamesPair}
use Rattle.run_places.specs.Changes.Histories.{RefinesHistory}
use Rattle.run_places.specs.Given.ScenesHeld.{Held, IsAt}
use Rattle.run_places.specs.Given.ScenesScene.{Scene}
use Rattle.run_places.specs.Given.SchedulesTransition.{Past}

module _ (K V : Type 0) (same : K → K → Bool) (hash : ℕ → K → ℕ) where
  -- The promise: about the pair of the word at which it stands to ask, a retaining may ask; where each class has what it had at the end of the last event, or nothing any
  -- more.
  abbrev pub RetainingsMayAsk : Type 0
  RetainingsMayAsk =
      (name : ℕ → List ℕ) (log : Past K V) (m : Moment K V) (known : Known) (s : Scene K V) (e : Held K V) → IsAt same hash e s → RefinesHistory same name log m known s
      → (map i : ℕ) (o : CallOverAll) → s.calls map i ≡ Some (OverAll o) → (c : CallThere K V) → call_of (name i) m ≡ Some c
      → ((k : K) → (finite_map same map m k ≡ finite_map same map log.now k) ⊎ (finite_map same map m k ≡ None))
      → (word q : ℕ) → o.sweep.stands ≡ at.Asks word → NamesPair known word q → MayAsk same Retain c (log.since c.begun) (Some q)
