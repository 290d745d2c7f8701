-- Pair by pair, what a map had at its moments since a call began is within the moments of the run since then, as a run goes on.
use Rattle.std.specs.Prelude.{◌≡◌, ℕ, suc, ◌<◌, ◌≤◌, Bool, true, false, List, ◌∷◌, ◌⊎◌}
use Rattle.std.proofs.Common.{refl, ap, sym, ◌∙◌, arith, inl, inr}
use Rattle.std.proofs.lemmas.Bool.{cases_eq, cases_lt}
use Rattle.run_finds.specs.Given.SchedulesLists.{OneOf}
use Rattle.run_finds.specs.Given.SchedulesMoment.{Moment}
use Rattle.run_finds.specs.Given.SchedulesViews.{is_in_map}
use Rattle.run_finds.specs.Given.FinishesMaps.{Standing}
use Rattle.run_finds.proofs.Given.ChangesLater.{IsLater}
use Rattle.run_finds.proofs.Given.ChangesLogs.{each_of, now_there as now_is_there}
use Rattle.run_finds.specs.Purposes.Purposes.{PairsWithin}
use Rattle.run_finds.specs.Given.ChangesHistories.{IsPast}
use Rattle.run_finds.specs.Given.SchedulesTransition.{Past}

-- from one moment to the next, of the map and of the run
module _ {K V : Type 0} (of : ℕ) (s s2 : Standing K) (number number2 : ℕ → ℕ) (later : IsLater s.chart s2.chart)
    (numbers : (n : ℕ) → n < s.chart.stored → number2 n ≡ number n) (log : Past K V) (is_past : IsPast log) (m v : Moment K V) (begun : ℕ) (before : begun ≤ log.entries)
    (changes : (q : ℕ) → (is_in_map of (v.place q) ≡ is_in_map of (m.place q)) ⊎ (is_in_map of (m.place q) ≡ is_in_map of (log.now.place q)))
    (now_stored : (n : ℕ) → s2.chart.was s2.chart.now n ≡ true → n < s2.chart.stored)
    (now_there : (n : ℕ) → n < s2.chart.stored → is_in_map of (v.place (number2 n)) ≡ s2.chart.was s2.chart.now n)
    (absent : (n : ℕ) → s.chart.stored ≤ n → n < s2.chart.stored → is_in_map of (m.place (number2 n)) ≡ false) (began : ℕ)
    (within : PairsWithin of s number (m ∷ log.since begun) began) where
  module _ (time n : ℕ) (from : began ≤ time) where
    abbrev Then : Moment K V → Type 0
    Then x = is_in_map of (x.place (number2 n)) ≡ s2.chart.was time n

    was_stored : time ≤ s.chart.now → s2.chart.was time n ≡ true → n < s.chart.stored
    was_stored l was = within.stored time n from l (ap (λ (f : ℕ → Bool). f n) (sym (later.was time l)) ∙ was)

    here : Then m → OneOf Then (v ∷ log.since begun)
    here h = elim (changes (number2 n)) as (λ _. OneOf Then (v ∷ log.since begun)) [
      | inl kept ↦ inl (kept ∙ h)
      | inr was ↦ inr (now_is_there log is_past Then begun before (sym was ∙ h))
    ]

    old : n < s.chart.stored → time ≤ s.chart.now → OneOf Then (v ∷ log.since begun)
    old b l = by (within.within time n from l b)
      where
        Was : Moment K V → Type 0
        Was x = is_in_map of (x.place (number n)) ≡ s.chart.was time n

        on : (x : Moment K V) → Was x → Then x
        on x h = ap (λ (q : ℕ). is_in_map of (x.place q)) (numbers n b) ∙ h ∙ ap (λ (f : ℕ → Bool). f n) (sym (later.was time l))

        by : OneOf Was (m ∷ log.since begun) → OneOf Then (v ∷ log.since begun)
        by (inl h) = here (on m h)
        by (inr h) = inr (each_of Was Then (log.since begun) on h)

    -- one that has come was not there
    new : s.chart.stored ≤ n → n < s2.chart.stored → time ≤ s.chart.now → OneOf Then (v ∷ log.since begun)
    new a b l = here (absent n a b ∙ sym (by (s2.chart.was time n) refl))
      where
        by : (q : Bool) → s2.chart.was time n ≡ q → s2.chart.was time n ≡ false
        by false e = e
        by true e = absurd (let c = was_stored l e in omega (arith, a, c))

    earlier : n < s2.chart.stored → time ≤ s.chart.now → OneOf Then (v ∷ log.since begun)
    earlier b l = elim (cases_lt n s.chart.stored) as (λ _. OneOf Then (v ∷ log.since begun)) [
      | inl a ↦ old a l
      | inr a ↦ new a b l
    ]

    at_now : n < s2.chart.stored → time ≡ s2.chart.now → OneOf Then (v ∷ log.since begun)
    at_now b e = inl (now_there n b ∙ ap (λ (t : ℕ). s2.chart.was t n) (sym e))

    then_within : time ≤ s2.chart.now → n < s2.chart.stored → (s2.chart.now ≡ s.chart.now) ⊎ (s2.chart.now ≡ suc s.chart.now) → OneOf Then (v ∷ log.since begun)
    then_within to b (inl kept) = earlier b (omega (arith, to, kept))
    then_within to b (inr next) = elim (cases_eq time s2.chart.now) as (λ _. OneOf Then (v ∷ log.since begun)) [
      | inl e ↦ at_now b e
      | inr ne ↦ earlier b (omega (arith, to, next, ne))
    ]

    stored_then : time ≤ s2.chart.now → s2.chart.was time n ≡ true → (s2.chart.now ≡ s.chart.now) ⊎ (s2.chart.now ≡ suc s.chart.now) → n < s2.chart.stored
    stored_then to was (inl kept) = (let b = was_stored (omega (arith, to, kept)) was in let g = later.stored in omega (arith, b, g))
    stored_then to was (inr next) = elim (cases_eq time s2.chart.now) as (λ _. n < s2.chart.stored) [
      | inl e ↦ now_stored n (ap (λ (t : ℕ). s2.chart.was t n) (sym e) ∙ was)
      | inr ne ↦ (let b = was_stored (omega (arith, to, next, ne)) was in let g = later.stored in omega (arith, b, g))
    ]

  pub pairs_within_on : PairsWithin of s2 number2 (v ∷ log.since begun) began
  pairs_within_on = record {
    stored = λ time n from to was. stored_then time n from to was later.now;
    within = λ time n from to b. then_within time n from to b later.now;
  }

-- at other moments that have it at each of these
pub pairs_within_moments : {K V : Type 0} (of : ℕ) (s : Standing K) (number : ℕ → ℕ) (moments moments2 : List (Moment K V)) (began : ℕ)
    → ((n : ℕ) (q : Bool) → OneOf (λ m. is_in_map of (m.place n) ≡ q) moments → OneOf (λ m. is_in_map of (m.place n) ≡ q) moments2)
    → PairsWithin of s number moments began → PairsWithin of s number moments2 began
pairs_within_moments of s number moments moments2 began more within = record {
  stored = within.stored;
  within = λ time n from to b. more (number n) (s.chart.was time n) (within.within time n from to b);
}
