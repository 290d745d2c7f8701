-- What an event of a call comes to is what its call comes to; it leaves maps.
use Rattle.std.specs.Prelude.{◌≡◌, ℕ, List, Option, Some}
use Rattle.std.proofs.Common.{refl, ap}
use Rattle.run_places.specs.Given.RunsDeclared.event.Event.{Event}
use Rattle.run_places.specs.Given.RunsDeclared.event.Event.TheVariants as event
use Rattle.run_places.specs.Given.RunsDeclared.outcome.Outcome.{Outcome}
use Rattle.run_places.specs.Given.SchedulesAfter.{stepped, calls_on, maps_on}
use Rattle.run_places.specs.Given.SchedulesEntry.{caller_of}
use Rattle.run_places.specs.Given.SchedulesMoment.{MapThere, UnderWay as CallThere}

module _ {K V : Type 0} where
  pub calls_over : (ev : Event K V) (o : Outcome V) (steps : ℕ) (cs : List (CallThere K V)) (own : List ℕ) → caller_of ev ≡ Some own → calls_on ev o steps cs ≡ stepped (Some own) o steps cs
  calls_over (event.OneCall guard of its) o steps cs own e = ap (λ (x : Option (List ℕ)). stepped x o steps cs) e
  calls_over (event.Step caller refuse) o steps cs own e = ap (λ (x : Option (List ℕ)). stepped x o steps cs) e
  calls_over (event.Go caller refuse) o steps cs own e = ap (λ (x : Option (List ℕ)). stepped x o steps cs) e
  calls_over (event.Next caller) o steps cs own e = ap (λ (x : Option (List ℕ)). stepped x o steps cs) e
  calls_over _ o steps cs own e = absurd (cc e)

  pub maps_over : (ev : Event K V) (o : Outcome V) (maps : List MapThere) (own : List ℕ) → caller_of ev ≡ Some own → maps_on ev o maps ≡ maps
  maps_over (event.OneCall guard of its) o maps own e = refl
  maps_over (event.Step caller refuse) o maps own e = refl
  maps_over (event.Go caller refuse) o maps own e = refl
  maps_over (event.Next caller) o maps own e = refl
  maps_over _ o maps own e = absurd (cc e)
