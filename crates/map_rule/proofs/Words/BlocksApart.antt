-- Blocks with different values are different, and a block with a value has no free number.
use Rattle.std.specs.Prelude.{◌≡◌, ◌≢◌, ℕ, Some}
use Rattle.std.proofs.Common.{ap, subst}
use Rattle.map_machines.specs.Given.SeizeWordsMem.{Mem, value_in, value_at, IsFreeNumber}

module _ {T : Type 0} (m : Mem T) where
  pub values_apart : (a b : ℕ) (x y : T) → value_at m a ≡ Some x → value_at m b ≡ Some y → x ≢ y → a ≢ b
  values_apart a b x y is is2 other e = other (let same = subst (λ (c : ℕ). value_at m c ≡ Some x) e is in cc (same, is2))

  pub new_apart : (a b : ℕ) (x : T) → value_at m a ≡ Some x → IsFreeNumber m b → a ≢ b
  new_apart a b x is free e =
      let there = subst (λ (c : ℕ). value_at m c ≡ Some x) e is in
      let none = ap value_in free.0 in absurd (cc (there, none))
