-- A slot's words, in its bucket and among the slots of all buckets.
use Rattle.std.proofs.Common.{◌≡◌, ℕ, ◌+◌, ◌-◌, ◌^◌, ◌<◌, ◌≤◌, List, [], ◌∷◌, ◌++◌, length, ap, sym, ◌∙◌, arith, add-zero, zero-add, inl, inr, length-append}
use Rattle.std.specs.Prelude.{◌==◌, nat_eq, slice_index_or, slice_set, IsSome, slice_get, ◌≢◌, replicate}
use Rattle.std.proofs.lemmas.Bool.{cases_eq, cases_lt, cases_order, eq-eqb, ne_eqb}
use Rattle.seize_words.specs.declared.slots.TheConstants.{SLOT_WORDS}
use Rattle.std.proofs.lemmas.List.{length-set, get_or_default, length-replicate}
use Rattle.seize_words.specs.OneMemory.Place.{capacity, IsPlace}
use Rattle.std.proofs.Math.ListN.{get_or-eq_default}
use Rattle.seize_words.specs.OneMemory.Buckets.{all_in, AreFull, AreFilled, IsBucketed}
pub use Rattle.seize_words.proofs.OneMemory.Places.Filled.{capacity-more, capacity_le_capacity, capacity_pos}
use Rattle.seize_words.proofs.OneMemory.Places.Filled.{bucket_lt, all_in-at, all_in-set, all_in-push, AreFilled-full, AreFull-set, AreFull-push}
use Rattle.seize_words.specs.OneMemory.SlotWords.{slot_word, with_slot_word, with_bucket}

pub capacity-one_to_one : (low high : ℕ) → capacity low ≡ capacity high → low ≡ high
capacity-one_to_one low high same =
    elim (cases_order low high) as (λ _. low ≡ high) [
      | inl equal ↦ equal
      | inr apart ↦ elim apart as (λ _. low ≡ high) [
        | inl less ↦ absurd (omega (arith, capacity_le_capacity (low + 1) high (omega arith), capacity-more low, capacity_pos low))
        | inr more ↦ absurd (omega (arith, capacity_le_capacity (high + 1) low (omega arith), capacity-more high, capacity_pos high))
      ]
    ]

pub length-all : (number : ℕ) (buckets : List (List (List ℕ))) → AreFull number buckets
    → length (all_in buckets) + capacity number ≡ capacity (number + length buckets)
length-all number [] h = zero-add (capacity number) ∙ sym (ap capacity (add-zero number))
length-all number (bucket ∷ rest) h =
    let more = length-all (number + 1) rest h.1 in
    let e : capacity (number + 1 + length rest) ≡ capacity (number + length (bucket ∷ rest)) = ap capacity (omega arith) in
    omega (arith, more, e, h.0, capacity-more number, length-append bucket (all_in rest))

-- a slot that has a word is there
pub slot_lt : (slots : List (List ℕ)) (slot field : ℕ) → IsSome (slot_word slots slot field) → slot < length slots
slot_lt slots slot field some =
    elim (cases_lt slot (length slots)) as (λ _. slot < length slots) [
      | inl inside ↦ inside
      | inr past ↦ (let none : slice_index_or slots slot [] ≡ [] = get_or-eq_default slots [] past in
          let e : IsSome (slice_get {X = ℕ} [] field) = rw none at some in cc)
    ]

pub slot_fits : (buckets : List (List (List ℕ))) → IsBucketed buckets → (slot field : ℕ) → IsSome (slot_word (all_in buckets) slot field)
    → slot < 2 ^ 64 - 32
slot_fits buckets b slot field some =
    let inside = slot_lt (all_in buckets) slot field some in
    let whole = length-all 0 buckets b.are_full in
    let most = capacity_le_capacity (0 + length buckets) 59 (omega (arith, b.few)) in
    omega (arith, inside, whole, most)

module _ (buckets : List (List (List ℕ))) (b : IsBucketed buckets) (slot bucket index field : ℕ) (p : IsPlace slot bucket index)
    (some : IsSome (slot_word (all_in buckets) slot field)) where
  at_place : slot + capacity 0 ≡ capacity (0 + bucket) + index
  at_place = p.position ∙ ap (λ k. capacity k + index) (sym (zero-add bucket))

  within_place : index < capacity (0 + bucket)
  within_place = let e : capacity (0 + bucket) ≡ capacity bucket = ap capacity (zero-add bucket) in omega (arith, e, p.within)

  inside : slot < length (all_in buckets)
  inside = slot_lt (all_in buckets) slot field some

  filled : AreFilled 0 buckets
  filled = AreFilled-full 0 buckets b.are_full

  pub bucket_there : bucket < length buckets
  bucket_there = bucket_lt 0 buckets filled slot bucket index within_place at_place inside

  pub slot-place : slice_index_or (all_in buckets) slot [] ≡ slice_index_or (slice_index_or buckets bucket []) index []
  slot-place = all_in-at 0 buckets [] filled slot bucket index within_place at_place inside

  pub slot_word-place : slot_word (all_in buckets) slot field ≡ slot_word (slice_index_or buckets bucket []) index field
  slot_word-place = ap (λ words. slice_get words field) slot-place

  module _ (old new : List (List ℕ)) (word : ℕ) (was : old ≡ slice_index_or buckets bucket old) (is : new ≡ with_slot_word old index field word) where
    old_bucket : old ≡ slice_index_or buckets bucket []
    old_bucket = was ∙ get_or_default buckets bucket old [] bucket_there

    new_bucket : new ≡ with_slot_word (slice_index_or buckets bucket []) index field word
    new_bucket = is ∙ ap (λ x. with_slot_word x index field word) old_bucket

    pub some_in_bucket : IsSome (slot_word old index field)
    some_in_bucket = rw (old_bucket, ← slot_word-place) some

    pub slots_in-written : all_in (slice_set buckets bucket new) ≡ with_slot_word (all_in buckets) slot field word
    slots_in-written =
        ap (λ x. all_in (slice_set buckets bucket x)) new_bucket
        ∙ all_in-set 0 buckets filled slot bucket index (slice_set (slice_index_or (slice_index_or buckets bucket []) index []) field word)
        within_place at_place inside
        ∙ ap (λ words. slice_set (all_in buckets) slot (slice_set words field word)) (sym slot-place)

    pub IsBucketed-written : IsBucketed (slice_set buckets bucket new)
    IsBucketed-written =
        let same : length new ≡ length (slice_index_or buckets bucket []) =
        ap length new_bucket ∙ length-set (slice_index_or buckets bucket []) index (slice_set (slice_index_or (slice_index_or buckets bucket []) index []) field word) in
        record {
          are_full = AreFull-set 0 buckets bucket new b.are_full same;
          few = omega (arith, b.few, length-set buckets bucket new);
        }

pub with_bucket_next : (slots : List (List ℕ)) (bucket : ℕ) → length slots + 32 ≡ capacity bucket
    → with_bucket slots bucket ≡ slots ++ replicate (capacity bucket) (replicate SLOT_WORDS 0)
with_bucket_next slots bucket h = grind (arith, eq-eqb _ _ h)

pub with_bucket_there : (slots : List (List ℕ)) (bucket : ℕ) → length slots + 32 ≢ capacity bucket → with_bucket slots bucket ≡ slots
with_bucket_there slots bucket h = grind arith

module _ (buckets : List (List (List ℕ))) (b : IsBucketed buckets) where
  whole_length : length (all_in buckets) + 32 ≡ capacity (length buckets)
  whole_length = length-all 0 buckets b.are_full ∙ ap capacity (zero-add (length buckets))

  module _ (bucket : ℕ) (next : bucket ≡ length buckets) (last : bucket ≤ 58) (new : List (List ℕ))
      (is : new ≡ replicate (capacity bucket) (replicate SLOT_WORDS 0)) where
    pub IsBucketed-more : IsBucketed (buckets ++ new ∷ [])
    IsBucketed-more =
        let long : length new ≡ capacity (0 + length buckets) =
        ap length is ∙ length-replicate (capacity bucket) (replicate SLOT_WORDS 0) ∙ ap capacity (next ∙ sym (zero-add (length buckets))) in
        record {
          are_full = AreFull-push 0 buckets new b.are_full long;
          few = omega (arith, length-append buckets (new ∷ []));
        }

    pub slots_in-more : all_in (buckets ++ new ∷ []) ≡ with_bucket (all_in buckets) bucket
    slots_in-more =
        all_in-push buckets new ∙ ap (λ x. all_in buckets ++ x) is
        ∙ sym (with_bucket_next (all_in buckets) bucket (whole_length ∙ ap capacity (sym next)))

  -- the bucket is not the next one
  pub slots_in-same : (bucket : ℕ) → bucket ≢ length buckets → all_in buckets ≡ with_bucket (all_in buckets) bucket
  slots_in-same bucket other =
      sym (with_bucket_there (all_in buckets) bucket (λ same. other (capacity-one_to_one bucket (length buckets) (sym same ∙ whole_length))))

  -- a bucket is the next one where its number is how many there are
  pub next_length : (bucket : ℕ) → bucket ≡ length buckets → length (all_in buckets) + 32 ≡ capacity bucket
  next_length bucket next = whole_length ∙ ap capacity (sym next)

  pub is_next : (bucket : ℕ) → nat_eq bucket (length buckets) ≡ (length (all_in buckets) + 32 == capacity bucket)
  is_next bucket =
      elim (cases_eq bucket (length buckets)) as (λ _. nat_eq bucket (length buckets) ≡ (length (all_in buckets) + 32 == capacity bucket)) [
        | inl next ↦ eq-eqb _ _ next ∙ sym (eq-eqb _ _ (next_length bucket next))
        | inr other ↦ ne_eqb _ _ other ∙ sym (ne_eqb _ _ (λ same. other (capacity-one_to_one bucket (length buckets) (sym same ∙ whole_length))))
      ]
