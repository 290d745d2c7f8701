-- In incremental mode, a copier looks for a place in one later table after another: those that it has tried whole are shut for the key.
use Rattle.std.proofs.Common.{◌≡◌, ◌≢◌, ℕ, suc, ◌<◌, ◌≤◌, Bool, true, false, inr, refl, ap}
use Rattle.map_rule.specs.Chart.{Place, Empty, Tombstone, Holds, Chart, is_taken}
use Rattle.map_rule.specs.Rule.{Shut, is_of, names}
use Rattle.map_rule.specs.Moves.{Taken, NamedInRootAlone, ShutBetween}
use Rattle.map_rule.proofs.Keys.AllBelow.{all_below}

-- a place that is not an empty one without a mark is taken
pub found_taken : (p : Place) → p ≢ Empty false → is_taken true p ≡ true
found_taken (Empty true) other = refl
found_taken (Empty false) other = absurd (other refl)
found_taken (Tombstone mark) other = refl
found_taken (Holds n phase borrowed) other = refl

module _ {K : Type 0} (same : K → K → Bool) (spot : ℕ → K → ℕ → ℕ) (c : Chart K) (k : K) where
  -- a later table whose tries are all taken
  pub tried_shut : NamedInRootAlone same spot true c k → (t : ℕ) → c.first < t → ((j : ℕ) → j ≤ c.limit t → Taken same spot true c t k j) → Shut same spot true c t k
  tried_shut alone t later full = (
    λ i n phase borrowed at is. absurd (
        let none = alone t i later in
        let named : names same spot true c.key k (c.place t i) ≡ is_of same spot true k (c.key n) = ap (names same spot true c.key k) at in
        cc),
    inr full,
  )

  -- it goes on to the table behind
  pub between_further : (t : ℕ) → ShutBetween same spot true c t k → Shut same spot true c t k → ShutBetween same spot true c (suc t) k
  between_further t between shut u later l = all_below (λ x. c.first < x → Shut same spot true c x k) t (λ x before behind. between x behind before) (λ behind. shut) u l later
