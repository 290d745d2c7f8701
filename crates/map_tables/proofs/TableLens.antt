-- The lengths of tables are powers of two within their bounds.
use Rattle.std.proofs.Common.{◌≡◌, ℕ, zero, suc, ◌+◌, ◌-◌, ◌*◌, ◌/◌, ◌^◌, ◌<◌, ◌≤◌, inl, inr, refl, arith, sym, ap, ◌∙◌, max}
use Rattle.std.specs.Prelude.{IfOk, nat_le, if◌then◌else◌}
use Rattle.std.specs.Int.{IsPowerOfTwo}
use Rattle.std.proofs.Math.Nat.{pow-suc}
use Rattle.std.proofs.Math.Pow.{pow_mono}
use Rattle.std.proofs.lemmas.Nat.{leading_top}
use Rattle.std.proofs.lemmas.Bool.{cases_lt}
use Rattle.std.proofs.lemmas.Bool.Decides.{leb_tells}
use Rattle.map_tables.specs.declared.lengths.Reason.{Reason}
use Rattle.map_tables.specs.declared.lengths.Reason.TheVariants.{Full, Reserved, NoPlace}
use Rattle.map_tables.specs.Powers.{floor_log2, next_power}
use Rattle.map_tables.specs.Lengths.{if_few, places_for, len_of, by_count, next_len, IsTableLen, HaveTableLens, GoByTheCounter}

-- what holds of a number that is answered
pub if_few-holds : (places number : ℕ) (Holds : ℕ → Type 0) → (places ≤ 2 ^ 48 → Holds number) → IfOk (if_few places number) Holds
if_few-holds places number Holds holds =
    elim (leb_tells places (2 ^ 48)) as (λ _. IfOk (if_few places number) Holds) [
      | inl few ↦ rw few.0 (holds few.1)
      | inr many ↦ rw many.0 tt
    ]

pub greater : (left right : ℕ) → IsPowerOfTwo left → IsPowerOfTwo right → IsPowerOfTwo (max left right)
greater left right is_left is_right =
    elim (cases_lt left right) as (λ _. IsPowerOfTwo (max left right)) [
      | inl below ↦ (is_right.0, omega (arith, is_right.1, below))
      | inr above ↦ (is_left.0, omega (arith, is_left.1, above))
    ]

twice : (len : ℕ) → IsPowerOfTwo len → IsPowerOfTwo (len * 2)
twice len is_power = (suc is_power.0, ap (λ n. n * 2) is_power.1 ∙ sym (pow-suc 2 is_power.0))

half : (len bits : ℕ) → 2 ≤ len → len ≡ 2 ^ bits → IsPowerOfTwo (len / 2)
half len zero some is_power = absurd (omega (arith, is_power))
half len (suc bits) some is_power = (bits, (let power = pow-suc 2 bits in omega (arith, is_power, power)))

-- a length that is answered only where it is within the bound
within : (len : ℕ) → IsPowerOfTwo len → IfOk (if_few (max len 8) (max len 8)) IsTableLen
within len is_power = if_few-holds (max len 8) (max len 8) IsTableLen (λ few. record {
  power = greater len 8 is_power (3, refl);
  least = omega arith;
  most = few;
})

next-power-power : (number : ℕ) → IsPowerOfTwo (next_power number)
next-power-power number =
    elim (leb_tells number 1) as (λ _. IsPowerOfTwo (next_power number)) [
      | inl small ↦ rw small.0 (0, refl)
      | inr more ↦ rw more.0 (floor_log2 (number - 1) + 1, refl)
    ]

-- a number below a power of two has a logarithm below its exponent
log-below : (number : ℕ) → 0 < number → number < 2 ^ 48 → floor_log2 number + 1 ≤ 48
log-below number some few =
    let top = leading_top 64 number some (omega arith) in
    let sum = top.1 in
    let least = top.2 in
    elim (cases_lt top.0 48) as (λ _. floor_log2 number + 1 ≤ 48) [
      | inl short ↦ omega (arith, short, sum)
      | inr long ↦ (let more : 2 ^ 48 ≤ 2 ^ top.0 = pow_mono long in absurd (omega (arith, more, least)))
    ]

pub next-power-most : (number : ℕ) → number ≤ 2 ^ 48 → next_power number ≤ 2 ^ 48
next-power-most number few =
    elim (leb_tells number 1) as (λ _. next_power number ≤ 2 ^ 48) [
      | inl small ↦ rw small.0 (omega arith)
      | inr more ↦ rw more.0 (pow_mono (log-below (number - 1) (let above = more.1 in omega (arith, above)) (let above = more.1 in omega (arith, above))))
    ]

made_for : (pairs : ℕ) → IfOk (len_of pairs) IsTableLen
made_for pairs = if_few-holds (places_for pairs) (max (next_power (places_for pairs)) 8) IsTableLen (λ few. record {
  power = greater (next_power (places_for pairs)) 8 (next-power-power (places_for pairs)) (3, refl);
  least = omega arith;
  most = (let most = next-power-most (places_for pairs) few in omega (arith, most));
})

counted : (len count initial : ℕ) → IsTableLen len → IsPowerOfTwo initial → IsPowerOfTwo (by_count len count initial)
counted len count initial is_len is_initial =
    elim (leb_tells (len / 2) count) as (λ _. IsPowerOfTwo (by_count len count initial)) [
      | inl full ↦ rw full.0 (twice len is_len.power)
      | inr open_places ↦ rw open_places.0 (elim (leb_tells count (len / 8)) as (λ _. IsPowerOfTwo (if nat_le count (len / 8) then max initial (len / 2) else len)) [
        | inl few ↦ rw few.0 (greater initial (len / 2) is_initial (half len is_len.power.0 (omega (arith, is_len.least)) is_len.power.1))
        | inr some ↦ rw some.0 is_len.power
      ])
    ]

made_after : (reason : Reason) (len count initial : ℕ) → IsTableLen len → IsPowerOfTwo initial → IfOk (next_len reason len count initial) IsTableLen
made_after (Full met most) len count initial is_len is_initial = within (by_count len (max count most) initial) (counted len (max count most) initial is_len is_initial)
made_after (Reserved additional) len count initial is_len is_initial = made_for (count + additional)
made_after NoPlace len count initial is_len is_initial = within (len * 2) (twice len is_len.power)

pub have_table_lens : HaveTableLens
have_table_lens = record { made_for = made_for; made_after = made_after }

pub go_by_the_counter : GoByTheCounter
go_by_the_counter met most len count initial fewer =
    ap (λ (n : ℕ). if_few (max (by_count len n initial) 8) (max (by_count len n initial) 8)) same_count
  where
    same_count : max count most ≡ max count 0
    same_count = omega (arith, fewer)
