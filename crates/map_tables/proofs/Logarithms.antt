-- The logarithm to the base two, rounded down, and the next power of two.
use Rattle.std.proofs.Common.{◌≡◌, ℕ, zero, suc, ◌+◌, ◌-◌, ◌*◌, ◌/◌, ◌^◌, ◌<◌, ◌≤◌, inl, inr, arith, sym, ap, ◌∙◌, max, add-one}
use Rattle.std.specs.Int.{leading_zeros, w64}
use Rattle.std.specs.Int.Count.{leading_unique}
use Rattle.std.proofs.lemmas.Bool.{cases_lt}
use Rattle.std.proofs.Math.Nat.{pow-suc}
use Rattle.std.proofs.Math.Pow.{pow_mono}
use Rattle.std.proofs.lemmas.Nat.{pow_pos}
use Rattle.map_tables.specs.Powers.{floor_log2, next_power}

-- the one power of two that is at most the number, while the next one is above it
pub log-unique : (number bits : ℕ) → number < 2 ^ 64 → 2 ^ bits ≤ number → number < 2 * 2 ^ bits → floor_log2 number ≡ bits
log-unique number bits fits most below =
    let power = pow-suc 2 bits in
    let few : bits < 64 = elim (cases_lt bits 64) as (λ _. bits < 64) [
      | inl yes_few ↦ yes_few
      | inr many ↦ (let more : 2 ^ 64 ≤ 2 ^ bits = pow_mono many in absurd (omega (arith, more)))
    ] in
    let zeros : 63 - bits ≡ leading_zeros w64 number = leading_unique 64 number (63 - bits) (suc bits) (omega arith) (omega (arith, power)) (omega (arith, power)) in
    omega (arith, zeros)

-- the next power of two of a number up to 2 ^ 48 is at most 2 ^ 48, too
pub next-power-few : (number power bits : ℕ) → number ≤ 2 ^ 48 → power ≡ 2 ^ bits → power / 2 < max 1 number → power ≤ 2 ^ 48
next-power-few number power bits few is_power least =
    elim (cases_lt bits 49) as (λ _. power ≤ 2 ^ 48) [
      | inl short ↦ (let below : bits ≤ 48 = omega arith in let most : 2 ^ bits ≤ 2 ^ 48 = pow_mono below in omega (arith, most, is_power))
      | inr long ↦ (let more : 2 ^ 49 ≤ 2 ^ bits = pow_mono long in absurd (omega (arith, more, is_power, least)))
    ]

above_one : (number bits : ℕ) → 1 < number → number ≤ 2 ^ 63 → number ≤ 2 ^ bits → 2 ^ bits / 2 < max 1 number → 2 ^ bits ≡ 2 ^ (floor_log2 (number - 1) + 1)
above_one number zero more fits most least = absurd (omega (arith, most))
above_one number (suc bits) more fits most least =
    let power = pow-suc 2 bits in
    let same = log-unique (number - 1) bits (omega arith) (omega (arith, power, least)) (omega (arith, power, most)) in
    ap (λ n. 2 ^ n) (sym (add-one bits) ∙ ap (λ n. n + 1) (sym same))

pub next-power-unique : (number power bits : ℕ) → number ≤ 2 ^ 63 → power ≡ 2 ^ bits → number ≤ power → power / 2 < max 1 number → power ≡ next_power number
next-power-unique number power bits fits is_power most least =
    elim (cases_lt 1 number) as (λ _. power ≡ next_power number) [
      | inl more ↦ (let above = above_one number bits more fits (omega (arith, is_power)) (rw is_power at least) in grind (arith, above, is_power, more))
      | inr small ↦ (let some = pow_pos bits in let one : power ≡ 1 = omega (arith, is_power, some) in grind (arith, one, small))
    ]
