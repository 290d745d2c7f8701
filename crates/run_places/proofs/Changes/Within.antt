-- What the map had at its moments since a call began is within the moments of the run since then, as a run goes on.
use Rattle.std.specs.Prelude.{◌≡◌, ℕ, suc, ◌<◌, ◌≤◌, Bool, List, ◌∷◌, Option, ◌⊎◌}
use Rattle.std.proofs.Common.{sym, subst, arith, inl, inr}
use Rattle.std.proofs.lemmas.Bool.{cases_eq}
use Rattle.run_shows.specs.Given.SchedulesLists.{OneOf}
use Rattle.run_shows.specs.Given.SchedulesMoment.{Moment}
use Rattle.run_shows.specs.Given.SchedulesViews.{finite_map}
use Rattle.run_shows.specs.Given.FinishesMaps.{Standing}
use Rattle.run_places.specs.Changes.Had.{HadThen}
use Rattle.run_places.specs.Changes.Histories.{IsPast, IsWithin}
use Rattle.run_places.proofs.Changes.Had.{had_on}
use Rattle.run_places.proofs.Changes.Later.{IsLater}
use Rattle.run_places.proofs.Changes.Logs.{each_of, now_there}
use Rattle.run_shows.specs.Given.SchedulesTransition.{Past}

-- from one moment to the next, of the map and of the run
module _ {K V : Type 0} (same : K → K → Bool) (map : ℕ) (s s2 : Standing K) (number number2 : ℕ → ℕ) (later : IsLater s.chart s2.chart)
    (numbers : (n : ℕ) → n < s.chart.stored → number2 n ≡ number n) (log : Past K V) (is_past : IsPast log) (m v : Moment K V) (begun : ℕ) (before : begun ≤ log.entries)
    (changes : (k : K) → (finite_map same map v k ≡ finite_map same map m k) ⊎ (finite_map same map m k ≡ finite_map same map log.now k))
    (now : (k : K) → HadThen same s2 number2 s2.chart.now k (finite_map same map v k)) (began : ℕ) where
  module _ (within : IsWithin same map s number (m ∷ log.since begun) began) (time : ℕ) (from : began ≤ time) (k : K) where
    abbrev Was : Moment K V → Type 0
    Was x = HadThen same s number time k (finite_map same map x k)

    abbrev Then : Moment K V → Type 0
    Then x = HadThen same s2 number2 time k (finite_map same map x k)

    earlier : time ≤ s.chart.now → OneOf Then (v ∷ log.since begun)
    earlier l = by (within time from l k)
      where
        on : (x : Moment K V) → Was x → Then x
        on x h = had_on same s s2 number number2 later numbers time l k (finite_map same map x k) h

        here : Then m → (finite_map same map v k ≡ finite_map same map m k) ⊎ (finite_map same map m k ≡ finite_map same map log.now k) → OneOf Then (v ∷ log.since begun)
        here h (inl kept) = inl (subst (λ (o : Option ℕ). HadThen same s2 number2 time k o) (sym kept) h)
        here h (inr was) = inr (now_there log is_past Then begun before (subst (λ (o : Option ℕ). HadThen same s2 number2 time k o) was h))

        by : OneOf Was (m ∷ log.since begun) → OneOf Then (v ∷ log.since begun)
        by (inl h) = here (on m h) (changes k)
        by (inr h) = inr (each_of Was Then (log.since begun) on h)

    at_now : time ≡ s2.chart.now → OneOf Then (v ∷ log.since begun)
    at_now e = inl (subst (λ (x : ℕ). HadThen same s2 number2 x k (finite_map same map v k)) (sym e) (now k))

    then_within : time ≤ s2.chart.now → (s2.chart.now ≡ s.chart.now) ⊎ (s2.chart.now ≡ suc s.chart.now) → OneOf Then (v ∷ log.since begun)
    then_within to (inl kept) = earlier (omega (arith, to, kept))
    then_within to (inr next) = elim (cases_eq time s2.chart.now) as (λ _. OneOf Then (v ∷ log.since begun)) [
      | inl e ↦ at_now e
      | inr ne ↦ earlier (omega (arith, to, next, ne))
    ]

  pub within_on : IsWithin same map s number (m ∷ log.since begun) began → IsWithin same map s2 number2 (v ∷ log.since begun) began
  within_on within time from to k = then_within within time from k to later.now

-- a moment at which the finite map is the same does as well
pub within_alike : {K V : Type 0} (same : K → K → Bool) (map : ℕ) (s : Standing K) (number : ℕ → ℕ) (moments : List (Moment K V)) (m m2 : Moment K V) (began : ℕ)
    → ((k : K) → finite_map same map m2 k ≡ finite_map same map m k) → IsWithin same map s number (m ∷ moments) began → IsWithin same map s number (m2 ∷ moments) began
within_alike {K} {V} same map s number moments m m2 began alike within time from to k = by (within time from to k)
  where
    by : OneOf (λ (x : Moment K V). HadThen same s number time k (finite_map same map x k)) (m ∷ moments) → OneOf (λ (x : Moment K V). HadThen same s number time k (finite_map same map x k)) (m2 ∷ moments)
    by (inl h) = inl (subst (λ (o : Option ℕ). HadThen same s number time k o) (sym (alike k)) h)
    by (inr h) = inr h
