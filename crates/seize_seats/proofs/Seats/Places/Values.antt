-- Sizes and indices of places, as numbers of the machine.
use Rattle.std.proofs.Common.{◌≡◌, ℕ, zero, suc, ◌*◌, ◌^◌, ◌<◌, ◌≤◌, List, [], ◌∷◌, length, refl, ap, arith}
use native.Mathlib.Nat.{mul-le-mul_right}
use prog.Capped.{capped_is}
use prog.Memory.{capped}

pub uncapped : (i k : ℕ) → i * k < 2 ^ 64 → i * capped k ≡ i * k
uncapped zero k h = omega arith
uncapped (suc i) k h = ap (λ (n : ℕ). suc i * n) (capped_is k (omega (arith, h)))

-- the place of an index lies within all
pub indexed : (j n k : ℕ) → j < n → n * k < 2 ^ 63 → j * k < 2 ^ 64
indexed j n k lt h = let le = mul-le-mul_right k (let low : j ≤ n = omega (arith, lt) in low) in omega (arith, h, le)

-- a list of four
pub four_of : (ws : List ℕ) → length ws ≡ 4 → (a : ℕ) × (b : ℕ) × (c : ℕ) × (d : ℕ) × (ws ≡ a ∷ b ∷ c ∷ d ∷ [])
four_of [] l = absurd (omega (arith, l))
four_of (a ∷ []) l = absurd (omega (arith, l))
four_of (a ∷ b ∷ []) l = absurd (omega (arith, l))
four_of (a ∷ b ∷ c ∷ []) l = absurd (omega (arith, l))
four_of (a ∷ b ∷ c ∷ d ∷ []) l = (a, b, c, d, refl)
four_of (a ∷ b ∷ c ∷ d ∷ e ∷ ws) l = absurd (omega (arith, l))
