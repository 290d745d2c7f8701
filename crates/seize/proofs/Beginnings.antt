-- The bucket that begins with a slot, by the slot's place.
use Rattle.std.specs.Prelude.{if◌then◌else◌}
use Rattle.std.proofs.Common.{◌≡◌, ◌≢◌, ℕ, zero, suc, ◌+◌, ◌*◌, ◌^◌, ◌<◌, ◌≤◌, Option, Some, None, refl, sym, ◌∙◌, ap, inl, inr, arith}
use Rattle.std.proofs.lemmas.Bool.{cases_eq, cases_lt, eq-eqb, ne_eqb, lt-ltb, le-ltb}
use Rattle.std.proofs.Math.Pow.{pow_mono}
use Rattle.std.proofs.lemmas.Nat.{pow-add}
use Rattle.seize_words.specs.OneMemory.Place.{capacity, IsPlace}
use Rattle.seize_words.proofs.OneMemory.Places.Buckets.{has_one_place}
use Rattle.seize.specs.Register.{begun_of, bucket_begun, bucket_needed, NeedsEnough, NeedsTheNext}
use Rattle.seize.specs.declared.states.TheConstants.{LAST_SLOT}

-- a slot that begins a bucket has its place there
first_of : (slot bucket : ℕ) → slot + 32 ≡ capacity bucket → IsPlace slot bucket 0
first_of slot bucket is =
    let from : 0 ≤ bucket = omega arith in
    let least : 2 ^ 0 ≤ 2 ^ bucket = pow_mono from in
    record { within = omega (arith, least); position = omega (arith, is) }

one_more : (left bucket slot : ℕ) (answer : Option ℕ) → (slot + 32 ≡ capacity bucket → Some bucket ≡ answer)
    → (slot + 32 ≢ capacity bucket → begun_of left (bucket + 1) slot ≡ answer) → begun_of (suc left) bucket slot ≡ answer
one_more left bucket slot answer here later =
    elim (cases_eq (slot + 32) (capacity bucket)) as (λ _. begun_of (suc left) bucket slot ≡ answer) [
      | inl is ↦ ap (λ t. if t then Some bucket else begun_of left (bucket + 1) slot) (eq-eqb (slot + 32) (capacity bucket) is) ∙ here is
      | inr not_is ↦ ap (λ t. if t then Some bucket else begun_of left (bucket + 1) slot) (ne_eqb (slot + 32) (capacity bucket) not_is) ∙ later not_is
    ]

-- the bucket of the slot's place is found among those that are tried
begun_there : (left bucket slot place : ℕ) → IsPlace slot place 0 → bucket ≤ place → place < bucket + left → begun_of left bucket slot ≡ Some place
begun_there zero bucket slot place at low high = absurd (omega (arith, low, high))
begun_there (suc left) bucket slot place at low high =
    one_more left bucket slot (Some place)
    (λ is. ap Some ((has_one_place slot bucket 0 place 0 (first_of slot bucket is) at).0))
    (λ not_is. begun_there left (bucket + 1) slot place at (further not_is) (omega (arith, high)))
  where
    further : slot + 32 ≢ capacity bucket → bucket + 1 ≤ place
    further not_is = elim (cases_eq bucket place) as (λ _. bucket + 1 ≤ place) [
      | inl same ↦ absurd (not_is (at.position ∙ omega (arith) ∙ ap capacity (sym same)))
      | inr other ↦ omega (arith, low, other)
    ]

-- a slot whose place is not the first of its bucket begins none
begun_nowhere : (left bucket slot place index : ℕ) → IsPlace slot place index → index ≢ 0 → begun_of left bucket slot ≡ None
begun_nowhere zero bucket slot place index at not_first = refl
begun_nowhere (suc left) bucket slot place index at not_first =
    one_more left bucket slot None
    (λ is. absurd (not_first (sym (has_one_place slot bucket 0 place index (first_of slot bucket is) at).1)))
    (λ _. begun_nowhere left (bucket + 1) slot place index at not_first)

needed_below : (slot : ℕ) (answer : Option ℕ) → slot < LAST_SLOT → answer ≡ bucket_begun (slot + 1) → answer ≡ bucket_needed slot
needed_below slot answer below begins = begins ∙ sym (ap (λ t. if t then bucket_begun (slot + 1) else None) (lt-ltb slot LAST_SLOT below))

-- behind a slot that is the last of its bucket the next bucket begins
pub bucket_needed-last : (slot place index : ℕ) → slot < LAST_SLOT → IsPlace (slot + 1) place index → index ≡ 0 → place ≤ 58
    → Some place ≡ bucket_needed slot
bucket_needed-last slot place index below at first few =
    let begins : IsPlace (slot + 1) place 0 = record { within = omega (arith, at.within, first); position = omega (arith, at.position, first) } in
    needed_below slot (Some place) below (sym (begun_there 59 0 (slot + 1) place begins (omega arith) (omega (arith, few))))

pub bucket_needed-other : (slot place index : ℕ) → slot < LAST_SLOT → IsPlace (slot + 1) place index → index ≢ 0 → None ≡ bucket_needed slot
bucket_needed-other slot place index below at other = needed_below slot None below (sym (begun_nowhere 59 0 (slot + 1) place index at other))

-- what is found is a bucket that begins with the slot, among those that are tried
pub begun_is : (left bucket slot found : ℕ) → begun_of left bucket slot ≡ Some found → (slot + 32 ≡ capacity found) × (found < bucket + left)
begun_is zero bucket slot found is = absurd (cc)
begun_is (suc left) bucket slot found is =
    elim (cases_eq (slot + 32) (capacity bucket)) as (λ _. (slot + 32 ≡ capacity found) × (found < bucket + suc left)) [
      | inl here ↦
          let first : Some bucket ≡ Some found =
          sym (ap (λ t. if t then Some bucket else begun_of left (bucket + 1) slot) (eq-eqb (slot + 32) (capacity bucket) here)) ∙ is
          in
          let same : bucket ≡ found = cc in
          (here ∙ ap capacity same, omega (arith, same))
      | inr not_here ↦
          let rest : begun_of left (bucket + 1) slot ≡ Some found =
          sym (ap (λ t. if t then Some bucket else begun_of left (bucket + 1) slot) (ne_eqb (slot + 32) (capacity bucket) not_here)) ∙ is
          in
          let later = begun_is left (bucket + 1) slot found rest in
          (later.0, omega (arith, later.1))
    ]

-- a slot up to the last one begins no bucket past the last
begun_few : (slot bucket : ℕ) → slot < LAST_SLOT → slot + 1 + 32 ≡ capacity bucket → bucket ≤ 58
begun_few slot bucket below is =
    elim (cases_lt 58 bucket) as (λ _. bucket ≤ 58) [
      | inl many ↦ (let from : 59 ≤ bucket = omega arith in let long : 2 ^ 59 ≤ 2 ^ bucket = pow_mono from in absurd (omega (arith, long, is, below)))
      | inr few ↦ few
    ]

pub needs_enough : NeedsEnough
needs_enough slot buckets below within none =
    elim (cases_eq (slot + 1 + 32) (capacity buckets)) as (λ _. slot + 1 + 32 < capacity buckets) [
      | inl is ↦
          let few : buckets ≤ 58 = begun_few slot buckets below is in
          let begins : Some buckets ≡ bucket_needed slot = bucket_needed-last slot buckets 0 below (first_of (slot + 1) buckets is) refl few in
          absurd (some_none buckets (begins ∙ none))
      | inr other ↦ omega (arith, other, within)
    ]
  where
    some_none : (found : ℕ) → Some found ≡ None → ⊥
    some_none found is = cc

needed_is : (slot bucket : ℕ) → bucket_needed slot ≡ Some bucket → (slot + 1 + 32 ≡ capacity bucket) × (bucket < 59)
needed_is slot bucket is =
    elim (cases_lt slot LAST_SLOT) as (λ _. (slot + 1 + 32 ≡ capacity bucket) × (bucket < 59)) [
      | inl below ↦ begun_is 59 0 (slot + 1) bucket (sym (ap (λ t. if t then bucket_begun (slot + 1) else None) (lt-ltb slot LAST_SLOT below)) ∙ is)
      | inr last ↦ absurd (none_some bucket (sym (ap (λ t. if t then bucket_begun (slot + 1) else None) (le-ltb slot LAST_SLOT last)) ∙ is))
    ]
  where
    none_some : (found : ℕ) → None ≡ Some found → ⊥
    none_some found is = cc

pub needs_the_next : NeedsTheNext
needs_the_next slot buckets bucket within is =
    let needed = needed_is slot bucket is in
    let begins : slot + 1 + 32 ≡ capacity bucket = needed.0 in
    let few : bucket < 59 = needed.1 in
    let more : 2 ^ (bucket + 1) ≡ 2 ^ bucket * 2 ^ 1 = pow-add 2 bucket 1 in
    let twice : capacity (bucket + 1) ≡ 2 * capacity bucket = omega (arith, more) in
    (omega (arith, few), omega (arith, begins, within), omega (arith, begins, twice))
