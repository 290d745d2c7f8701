-- The lengths of buckets, and the places of slots in them.
use Rattle.std.proofs.Common.{◌≡◌, ℕ, ◌+◌, ◌*◌, ◌-◌, ◌^◌, ◌<◌, ◌≤◌, ap, sym, ◌∙◌, arith, inl, inr}
use Rattle.std.proofs.lemmas.Bool.{cases_lt}
use Rattle.std.proofs.Math.Pow.{pow_mono}
use Rattle.std.specs.Prelude.{◌/◌, ◌%◌, bit_and, bit_xor}
use Rattle.std.specs.Int.{bit_at}
use Rattle.std.specs.Int.Bits.{xor_add_and}
use Rattle.std.proofs.lemmas.Nat.Bits.{and_pow}
use Rattle.std.proofs.lemmas.Nat.{div-mul-add, one_shl, pow-add}
use Rattle.std.proofs.lemmas.Grind.{pow_more}
use Rattle.seize_words.specs.OneMemory.Place.{capacity, IsPlace, HasOnePlace}

pub capacity-power : (bucket : ℕ) → capacity bucket ≡ 2 ^ (5 + bucket)
capacity-power bucket = sym (pow-add 2 5 bucket)

pub capacity_fits : (bucket : ℕ) → bucket ≤ 58 → capacity bucket < 2 ^ 64
capacity_fits bucket h =
    let most : 2 ^ bucket ≤ 2 ^ 58 = pow_mono h in
    omega (arith, most)

-- a number from 32 on has six binary digits or more
pub five_le_digits : (digits number : ℕ) → 32 ≤ number → number < 2 * 2 ^ digits → 5 ≤ digits
five_le_digits digits number least below =
    elim (cases_lt digits 5) as (λ _. 5 ≤ digits) [
      | inl few ↦ (let small : digits ≤ 4 = omega arith in let most : 2 ^ digits ≤ 2 ^ 4 = pow_mono small in absurd (omega (arith, most)))
      | inr many ↦ many
    ]

pub capacity-digits : (digits : ℕ) → 5 ≤ digits → capacity (digits - 5) ≡ 2 ^ digits
capacity-digits digits h =
    let e : 5 + (digits - 5) ≡ digits = omega arith in
    capacity-power (digits - 5) ∙ ap (λ k. 2 ^ k) e

-- a number without its first digit
pub without_first : (digits number : ℕ) → digits < 64 → 2 ^ digits ≤ number → number < 2 * 2 ^ digits
    → bit_xor number (1 * 2 ^ digits % 2 ^ 64) + 2 ^ digits ≡ number
without_first digits number small least below =
    let split : number ≡ 1 * 2 ^ digits + (number - 2 ^ digits) = omega (arith, least) in
    let one : number / 2 ^ digits ≡ 1 = ap (λ n. n / 2 ^ digits) split ∙ div-mul-add 1 (2 ^ digits) (number - 2 ^ digits) (omega (arith, least, below)) in
    let set : bit_at number digits ≡ 1 = ap (λ n. n % 2) one in
    let same : bit_and number (2 ^ digits) ≡ 2 ^ digits = and_pow number digits ∙ ap (λ n. n * 2 ^ digits) set ∙ omega arith in
    ap (λ mask. bit_xor number mask + 2 ^ digits) (one_shl digits 64 small) ∙ omega (arith, xor_add_and number (2 ^ digits), same)

pub is_place : (slot digits bucket : ℕ) → digits < 64 → 2 ^ digits ≤ slot + 32 → slot + 32 < 2 * 2 ^ digits → bucket ≡ digits
    → IsPlace slot (bucket - 5) (bit_xor (slot + 32) (1 * 2 ^ digits % 2 ^ 64))
is_place slot digits bucket small least below same =
    let five : 5 ≤ digits = five_le_digits digits (slot + 32) (omega arith) below in
    let power : capacity (bucket - 5) ≡ 2 ^ digits = ap (λ k. capacity (k - 5)) same ∙ capacity-digits digits five in
    let rest = without_first digits (slot + 32) small least below in
    record {
      within = omega (arith, power, rest, below);
      position = omega (arith, power, rest);
    }

-- a later bucket begins behind the end of an earlier one
not_earlier : (slot bucket index bucket' index' : ℕ) → IsPlace slot bucket index → IsPlace slot bucket' index' → bucket' ≤ bucket
not_earlier slot bucket index bucket' index' p q =
    elim (cases_lt bucket bucket') as (λ _. bucket' ≤ bucket) [
      | inl before ↦ (let next : bucket + 1 ≤ bucket' = omega arith in
          let more : 2 ^ (bucket + 1) ≤ 2 ^ bucket' = pow_mono next in
          let twice : 2 ^ (bucket + 1) ≡ 2 ^ bucket * 2 = pow_more 2 bucket in
          absurd (omega (arith, more, twice, p.within, p.position, q.position)))
      | inr after ↦ after
    ]

pub has_one_place : HasOnePlace
has_one_place slot bucket index bucket' index' p q =
    let same : bucket ≡ bucket' = (let up = not_earlier slot bucket index bucket' index' p q in
    let down = not_earlier slot bucket' index' bucket index q p in omega (arith, up, down)) in
    let size : capacity bucket ≡ capacity bucket' = ap capacity same in
    (same, omega (arith, size, p.position, q.position))
