-- A slot behind the first bucket: its bucket has a door, and there the word of the slot lies.
use Rattle.std.specs.Prelude.{◌≡◌, ℕ, zero, suc, ◌+◌, ◌-◌, ◌<◌, ◌≤◌, ◌^◌, ◌⊎◌}
use Rattle.std.proofs.Common.{inr, inl, arith, ap, refl}
use Rattle.std.proofs.lemmas.Bool.{cases_lt}
use Rattle.seize_words.specs.OneMemory.Place.{capacity, IsPlace}
use Rattle.seize_words.proofs.OneMemory.Places.Words.{capacity_le_capacity}

pub bucket_of : (slot bucket index : ℕ) → IsPlace slot bucket index → 32 ≤ slot → slot + 32 < 2 ^ 38 → (0 < bucket) × (bucket ≤ 32) × (capacity (bucket + 31 - 31) ≤ slot + 32)
bucket_of slot bucket index is low high = (some bucket is, few (cases_lt 32 bucket), least)
  where
    some : (b : ℕ) → IsPlace slot b index → 0 < b
    some zero at = let p = at.position in let w = at.within in let c : capacity 0 ≡ 32 = refl in absurd (omega (arith, p, w, c, low))
    some (suc b) at = omega arith

    few : (32 < bucket) ⊎ (bucket ≤ 32) → bucket ≤ 32
    few (inl far) = let c = capacity_le_capacity 33 bucket (omega (arith, far)) in let e : capacity 33 ≡ 2 ^ 38 = refl in let p = is.position in absurd (omega (arith, c, e, p, high))
    few (inr le) = le

    least : capacity (bucket + 31 - 31) ≤ slot + 32
    least = let e : bucket + 31 - 31 ≡ bucket = omega arith in let c : capacity (bucket + 31 - 31) ≡ capacity bucket = ap capacity e in let p = is.position in omega (arith, c, p)
