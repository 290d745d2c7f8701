-- What is so of all numbers below one, and of that one, is so of all below the next.
use Rattle.std.proofs.Common.{◌≡◌, ℕ, suc, ◌<◌, ◌≤◌, ◌⊎◌, inl, inr, eq-or-lt_of_le, sym, subst, arith}

pub all_below : (P : ℕ → Type 0) (j : ℕ) → ((g : ℕ) → g < j → P g) → P j → (g : ℕ) → g < suc j → P g
all_below P j below here g l = by_order (eq-or-lt_of_le (let h : g ≤ j = omega arith in h))
  where
    by_order : (g ≡ j) ⊎ (g < j) → P g
    by_order (inl e) = subst P (sym e) here
    by_order (inr h) = below g h
