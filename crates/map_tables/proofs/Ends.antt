-- Where no table can be made after another one, and how long one is that can.
use Rattle.std.specs.Prelude.{◌≡◌, ℕ, ◌+◌, ◌*◌, ◌/◌, ◌^◌, ◌<◌, ◌≤◌, nat_le, if◌then◌else◌, max, Bool, true, false, Result, Ok, Err, IfOk}
use Rattle.std.proofs.Common.{ap, sym, subst, ◌∙◌, inl, inr, arith}
use Rattle.std.proofs.lemmas.Bool.{cases_lt}
use Rattle.std.proofs.lemmas.Bool.Decides.{leb_tells}
use Rattle.std.proofs.lemmas.Nat.{pow_below}
use Rattle.seize_words.specs.declared.fault.Fault.{Fault}
use Rattle.seize_words.specs.declared.fault.Fault.TheVariants.{Capacity}
use Rattle.map_tables.specs.declared.lengths.Reason.{Reason}
use Rattle.map_tables.specs.declared.lengths.Reason.TheVariants.{Full, Reserved, NoPlace}
use Rattle.map_tables.specs.Powers.{next_power}
use Rattle.map_tables.specs.Lengths.{if_few, places_for, by_count, next_len, GoesByTable, IsTableLen, OnlyTheLastEnds}
use Rattle.map_tables.proofs.TableLens.{if_few-holds, next-power-most}

-- a length that is answered can be had
few_at : (places : ℕ) → IfOk (if_few places places) (λ len. len ≤ 2 ^ 48)
few_at places = if_few-holds places places (λ len. len ≤ 2 ^ 48) (λ few. few)

pub next_few : (reason : Reason) (len count initial : ℕ) → IfOk (next_len reason len count initial) (λ next. next ≤ 2 ^ 48)
next_few (Full met most) len count initial = few_at (max (by_count len (max count most) initial) 8)
next_few (Reserved additional) len count initial =
    if_few-holds (places_for (count + additional)) (max (next_power (places_for (count + additional))) 8) (λ next. next ≤ 2 ^ 48)
    (λ few. let most = next-power-most (places_for (count + additional)) few in omega (arith, most))
next_few NoPlace len count initial = few_at (max (len * 2) 8)

abbrev IsRefused : Result ℕ Fault → Type 0
IsRefused r = r ≡ Err Capacity

-- one that is refused cannot
more_at : (places number : ℕ) → IsRefused (if_few places number) → 2 ^ 48 < places
more_at places number =
    elim (leb_tells places (2 ^ 48)) as (λ _. IsRefused (if_few places number) → 2 ^ 48 < places) [
      | inl few ↦ λ e. absurd (answered (nat_le places (2 ^ 48)) few.0 e)
      | inr many ↦ λ e. many.1
    ]
  where
    answered : (b : Bool) → b ≡ true → IsRefused (if b then Ok number else Err Capacity) → ⊥
    answered true is e = cc e
    answered false is e = cc is

-- that of a table after a full one
full_long : (len count initial : ℕ) → initial ≤ 2 ^ 48 → 2 ^ 48 < max (by_count len count initial) 8 → 2 ^ 48 < len * 2
full_long len count initial fits more = by (nat_le (len / 2) count) (nat_le count (len / 8)) more
  where
    by : (full few : Bool) → 2 ^ 48 < max (if full then len * 2 else (if few then max initial (len / 2) else len)) 8 → 2 ^ 48 < len * 2
    by true few long = omega (arith, long)
    by false true long = omega (arith, long, fits)
    by false false long = omega (arith, long)

long_then : (reason : Reason) (len count initial : ℕ) → GoesByTable reason → initial ≤ 2 ^ 48 → IsRefused (next_len reason len count initial) → 2 ^ 48 < len * 2
long_then (Full met most) len count initial by_table fits long =
    full_long len (max count most) initial fits (more_at (max (by_count len (max count most) initial) 8) (max (by_count len (max count most) initial) 8) long)
long_then (Reserved additional) len count initial by_table fits long = absurd by_table
long_then NoPlace len count initial by_table fits long = let more = more_at (max (len * 2) 8) (max (len * 2) 8) long in omega (arith, more)

pub only_the_last_ends : OnlyTheLastEnds
only_the_last_ends reason len turn count initial by_table fits (inl long) = inl (long_then reason len count initial by_table fits long)
only_the_last_ends reason len turn count initial by_table fits (inr late) = inr late

-- A table that can have none of twice its places behind it has the most there can be.
pub longest : (len : ℕ) → IsTableLen len → 2 ^ 48 < len * 2 → 2 ^ 48 ≤ len
longest len sized long = by sized.power.0 sized.power.1
  where
    short : (bits : ℕ) → len ≡ 2 ^ bits → bits < 48 → 2 ^ 48 ≤ len
    short bits is low = elim (cases_lt bits 47) as (λ _. 2 ^ 48 ≤ len) [
      | inl below ↦ absurd (let less : len < 2 ^ 47 = subst (λ (n : ℕ). n < 2 ^ 47) (sym is) (pow_below bits 47 below) in omega (arith, less, long))
      | inr same ↦ absurd (let half : len ≡ 2 ^ 47 = is ∙ ap (λ (k : ℕ). 2 ^ k) (let k : bits ≡ 47 = omega (arith, low, same) in k) in omega (arith, half, long))
    ]

    by : (bits : ℕ) → len ≡ 2 ^ bits → 2 ^ 48 ≤ len
    by bits is = elim (cases_lt bits 48) as (λ _. 2 ^ 48 ≤ len) [
      | inl low ↦ short bits is low
      | inr high ↦ elim (cases_lt 48 bits) as (λ _. 2 ^ 48 ≤ len) [
        | inl above ↦ (let more : 2 ^ 48 < len = subst (λ (n : ℕ). 2 ^ 48 < n) (sym is) (pow_below 48 bits above) in omega (arith, more))
        | inr same ↦ (let whole : len ≡ 2 ^ 48 = is ∙ ap (λ (k : ℕ). 2 ^ k) (let k : bits ≡ 48 = omega (arith, high, same) in k) in omega (arith, whole))
      ]
    ]
