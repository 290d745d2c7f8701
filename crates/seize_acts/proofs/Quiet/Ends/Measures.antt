-- What holds of all if it holds of each where it holds of whatever is lower, by two numbers.
use Rattle.std.proofs.Common.{ℕ, zero, suc, ◌<◌, ◌≤◌, ◌⊎◌, inl, inr, arith}

module _ {X : Type 0} (a b : X → ℕ) (Q : X → Type 0) where
  abbrev pub IsLower : X → X → Type 0
  IsLower y x = (a y < a x) ⊎ ((a y ≤ a x) × (b y < b x))

  module _ (step : (x : X) → ((y : X) → IsLower y x → Q y) → Q x) where
    inner : (n : ℕ) → ((y : X) → a y < n → Q y) → (k : ℕ) (x : X) → a x ≤ n → b x < k → Q x
    inner n below zero x le lt = absurd (omega (arith, lt))
    inner n below (suc k) x le lt = step x (λ y l. elim l as (λ _. Q y) [
      | inl less ↦ below y (omega (arith, less, le))
      | inr (same, less) ↦ inner n below k y (omega (arith, same, le)) (omega (arith, less, lt))
    ])

    outer : (n : ℕ) (x : X) → a x < n → Q x
    outer zero x lt = absurd (omega (arith, lt))
    outer (suc n) x lt = inner n (λ y l. outer n y l) (suc (b x)) x (omega (arith, lt)) (omega arith)

    pub by_two : (x : X) → Q x
    by_two x = outer (suc (a x)) x (omega arith)
