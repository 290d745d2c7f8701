-- Which slots have their words: all of a whole number of buckets, with the slot behind each that was ever taken.
use Rattle.std.specs.Prelude.{Option, Some, None, is_some, IsSome, if◌then◌else◌, nat_lt, slice_get, slice_index_or, slice_set, replicate, Ok}
use Rattle.std.proofs.Common.{◌≡◌, ◌≢◌, ℕ, zero, suc, ◌+◌, ◌-◌, ◌<◌, ◌≤◌, Bool, true, false, cond, eqb, List, [], ◌++◌, length, refl, arith, subst, sym, ap, ◌∙◌, inl, inr, length-append}
use Rattle.std.proofs.lemmas.Bool.{cases_eq, cases_lt, eq-eqb}
use Rattle.std.proofs.lemmas.List.{length-set, length-replicate, get_or_append_left, get_or-append_right}
use Rattle.seize.specs.Given.SeizeWordsDeclared.at.At.{At}
use Rattle.seize.specs.Given.SeizeWordsDeclared.at.At.TheVariants.{Root, Used, Slot, Entry, Word}
use Rattle.seize.specs.Given.SeizeWordsDeclared.slots.TheConstants.{SLOT_WORDS}
use Rattle.seize.specs.Given.SeizeWordsMem.{Mem, word_at, with_word, with_room, with_block, after, Can}
use Rattle.seize.specs.Given.SeizeWordsOp.{Make, Made, Room}
use Rattle.seize.specs.Given.SeizeWordsPlace.{capacity}
use Rattle.seize.specs.Given.SeizeWordsSlotWords.{slot_word, with_bucket}
use Rattle.seize.proofs.Given.SeizeWordsPlaces.Words.{capacity-more, capacity_pos, capacity_le_capacity, with_bucket_next, with_bucket_there}
use Rattle.seize.specs.declared.states.TheConstants.{LAST_SLOT}
use Rattle.seize.specs.Register.{begun_of, bucket_begun, bucket_needed}
use Rattle.seize_moves.proofs.Moves.State.Ghost.{put, Head, is_never}
use Rattle.seize_moves.proofs.Memory.Words.Named.{has, wrote}
use Rattle.seize_moves.proofs.Memory.Words.There.{some_of}
use Rattle.seize.proofs.Beginnings.{begun_is as begun_some}
use Rattle.seize.proofs.Given.General.{less_so as below_lt, less_true as below_true}

-- the slots that have words have both, and are those of whole buckets
pub record Bucketed {T : Type 0} (m : Mem T) : Type 0 where
  pub there : (s i : ℕ) → s < length m.slots → i < 2 → has m (Slot s i) ≡ true
  pub number : ℕ
  pub whole : length m.slots + 32 ≡ capacity number

-- and the one behind each slot that was ever taken is among them
pub record HasRoom {T : Type 0} (n : ℕ) (head : ℕ → Head) (m : Mem T) : Type 0 where
  pub bucketed : Bucketed m
  pub enough : (s t : ℕ) → is_never (head s) ≡ false → t ≤ s + 1 → t < n → t < length m.slots

module _ {T : Type 0} where
  pub slot_there : (m : Mem T) (s i : ℕ) → Bucketed m → s < length m.slots → i < 2 → IsSome (word_at m (Slot s i))
  slot_there m s i b h l = some_of (word_at m (Slot s i)) (b.there s i h l)

  -- other heads, of slots that were taken already
  pub room_heads : (n : ℕ) (head other : ℕ → Head) (m : Mem T) → ((s : ℕ) → is_never (other s) ≡ false → is_never (head s) ≡ false) → HasRoom n head m → HasRoom n other m
  room_heads n head other m h r = record { bucketed = r.bucketed; enough = λ s t k le lt. r.enough s t (h s k) le lt }

  -- a slot is taken whose next one has its words
  pub room_taken : (n : ℕ) (head : ℕ → Head) (m : Mem T) (s : ℕ) (h : Head) → s < length m.slots → (s + 1 < n → s + 1 < length m.slots) → HasRoom n head m → HasRoom n (put head s h) m
  room_taken n head m s h here next r = record { bucketed = r.bucketed; enough = λ u t k le lt. one u t (eqb u s) refl k le lt }
    where
      one : (u t : ℕ) (z : Bool) → eqb u s ≡ z → is_never (cond z h (head u)) ≡ false → t ≤ u + 1 → t < n → t < length m.slots
      one u t true e k le lt = grind arith
      one u t false e k le lt = r.enough u t k le lt

  -- writes

  pub same_length : (m : Mem T) (at : At) (w : ℕ) → length (with_word m at w).slots ≡ length m.slots
  same_length m (Root r) w = refl
  same_length m (Used r) w = refl
  same_length m (Slot s i) w = length-set m.slots s (slice_set (slice_index_or m.slots s []) i w)
  same_length m (Entry b i) w = refl
  same_length m (Word b i) w = refl

  pub bucketed_written : (m : Mem T) (at : At) (w : ℕ) → IsSome (word_at m at) → Bucketed m → Bucketed (with_word m at w)
  bucketed_written m at w some b = record {
    there = λ s i h l. (wrote m at w some).had (Slot s i) ∙ b.there s i (subst (λ (k : ℕ). s < k) (same_length m at w) h) l;
    number = b.number;
    whole = ap (λ k. k + 32) (same_length m at w) ∙ b.whole;
  }

  pub room_written : (n : ℕ) (head : ℕ → Head) (m : Mem T) (at : At) (w : ℕ) → IsSome (word_at m at) → HasRoom n head m → HasRoom n head (with_word m at w)
  room_written n head m at w some r = record {
    bucketed = bucketed_written m at w some r.bucketed;
    enough = λ s t k le lt. subst (λ (a : ℕ). t < a) (sym (same_length m at w)) (r.enough s t k le lt);
  }

  pub bucketed_made : (m : Mem T) (value : T) (words b : ℕ) → Bucketed m → Bucketed (after m (Make value words) (Made (Ok b)))
  bucketed_made m value words b k = record { there = k.there; number = k.number; whole = k.whole }

  pub room_made : (n : ℕ) (head : ℕ → Head) (m : Mem T) (value : T) (words b : ℕ) → HasRoom n head m → HasRoom n head (after m (Make value words) (Made (Ok b)))
  room_made n head m value words b r = record { bucketed = bucketed_made m value words b r.bucketed; enough = r.enough }

  pub room_taken_block : (n : ℕ) (head : ℕ → Head) (m : Mem T) (b : ℕ) → HasRoom n head m → HasRoom n head (with_block m b None)
  room_taken_block n head m b r =
      record { bucketed = record { there = r.bucketed.there; number = r.bucketed.number; whole = r.bucketed.whole }; enough = r.enough }

-- a further bucket

module _ (slots : List (List ℕ)) (bucket : ℕ) where
  more_length : length slots + 32 ≡ capacity bucket → length (with_bucket slots bucket) ≡ length slots + capacity bucket
  more_length h =
      ap length (with_bucket_next slots bucket h) ∙ length-append slots (replicate (capacity bucket) (replicate SLOT_WORDS 0))
      ∙ ap (λ k. length slots + k) (length-replicate (capacity bucket) (replicate SLOT_WORDS 0))

  grows : length slots ≤ length (with_bucket slots bucket)
  grows =
      elim (cases_eq (length slots + 32) (capacity bucket)) as (λ _. length slots ≤ length (with_bucket slots bucket)) [
        | inl e ↦ (let l = more_length e in omega (arith, l))
        | inr ne ↦ (let l : length (with_bucket slots bucket) ≡ length slots = ap length (with_bucket_there slots bucket ne) in omega (arith, l))
      ]

  -- the first slot of the bucket has its place
  begins : (t : ℕ) → t + 32 ≡ capacity bucket → capacity bucket ≤ length slots + 32 → t < length (with_bucket slots bucket)
  begins t is le =
      elim (cases_eq (length slots + 32) (capacity bucket)) as (λ _. t < length (with_bucket slots bucket)) [
        | inl e ↦ (let l = more_length e in let p = capacity_pos bucket in omega (arith, l, p))
        | inr ne ↦ (let l : length (with_bucket slots bucket) ≡ length slots = ap length (with_bucket_there slots bucket ne) in omega (arith, l))
      ]

replicated : {X : Type 0} (n i : ℕ) (x d : X) → i < n → slice_index_or (replicate n x) i d ≡ x
replicated zero i x d h = absurd (omega arith)
replicated (suc n) zero x d h = refl
replicated (suc n) (suc i) x d h = replicated n i x d (omega arith)

new_slot : (i : ℕ) → i < 2 → is_some {T = ℕ} (slice_get (replicate SLOT_WORDS 0) i) ≡ true
new_slot zero h = refl
new_slot (suc zero) h = refl
new_slot (suc (suc i)) h = absurd (omega arith)

module _ {T : Type 0} where
  pub bucketed_more : (m : Mem T) (bucket : ℕ) → Bucketed m → Bucketed (with_room m bucket)
  bucketed_more m bucket b =
      elim (cases_eq (length m.slots + 32) (capacity bucket)) as (λ _. Bucketed (with_room m bucket)) [
        | inl e ↦ record {
          there = λ s i h l. subst (λ (slots : List (List ℕ)). is_some (slot_word slots s i) ≡ true) (sym (with_bucket_next m.slots bucket e)) (more s i (subst (λ (k : ℕ). s < k) (more_length m.slots bucket e) h) l);
          number = b.number + 1;
          whole = (let l = more_length m.slots bucket e in let c = capacity-more b.number in let w = b.whole in omega (arith, l, c, w));
        }
        | inr ne ↦ record {
          there = λ s i h l. subst (λ (slots : List (List ℕ)). is_some (slot_word slots s i) ≡ true) (sym (with_bucket_there m.slots bucket ne)) (b.there s i (subst (λ (slots : List (List ℕ)). s < length slots) (with_bucket_there m.slots bucket ne) h) l);
          number = b.number;
          whole = ap (λ (slots : List (List ℕ)). length slots + 32) (with_bucket_there m.slots bucket ne) ∙ b.whole;
        }
      ]
    where
      more : (s i : ℕ) → s < length m.slots + capacity bucket → i < 2 → is_some (slot_word (m.slots ++ replicate (capacity bucket) (replicate SLOT_WORDS 0)) s i) ≡ true
      more s i h l =
          elim (cases_lt s (length m.slots)) as (λ _. is_some (slot_word (m.slots ++ replicate (capacity bucket) (replicate SLOT_WORDS 0)) s i) ≡ true) [
            | inl inside ↦ ap (λ (words : List ℕ). is_some (slice_get words i)) (get_or_append_left m.slots (replicate (capacity bucket) (replicate SLOT_WORDS 0)) [] s inside) ∙ b.there s i inside l
            | inr past ↦ ap (λ (words : List ℕ). is_some (slice_get words i))
                (get_or-append_right m.slots (replicate (capacity bucket) (replicate SLOT_WORDS 0)) (length m.slots) s [] refl past
                ∙ replicated (capacity bucket) (s - length m.slots) (replicate SLOT_WORDS 0) [] (omega arith)) ∙ new_slot i l
          ]

  pub room_more : (n : ℕ) (head : ℕ → Head) (m : Mem T) (bucket : ℕ) → HasRoom n head m → HasRoom n head (with_room m bucket)
  room_more n head m bucket r = record {
    bucketed = bucketed_more m bucket r.bucketed;
    enough = λ s t k le lt. (let a = r.enough s t k le lt in let g = grows m.slots bucket in omega (arith, a, g));
  }

  -- the first bucket can be asked for, and then slot 0 has its words
  pub first_room : (m : Mem T) → Can m (Room 0)
  first_room m = (omega arith, omega arith)

  pub first_there : (m : Mem T) → 0 < length (with_room m 0).slots
  first_there m = begins m.slots 0 0 refl (omega arith)

  -- what has its words keeps them
  pub slots_grow : (m : Mem T) (bucket t : ℕ) → t < length m.slots → t < length (with_room m bucket).slots
  slots_grow m bucket t h = let g = grows m.slots bucket in omega (arith, h, g)

-- which bucket a slot needs

begun_none : (left bucket slot k : ℕ) → begun_of left bucket slot ≡ None → bucket ≤ k → k < bucket + left → slot + 32 ≡ capacity k → ⊥
begun_none zero bucket slot k none le lt is = omega arith
begun_none (suc left) bucket slot k none le lt is =
    elim (cases_eq (slot + 32) (capacity bucket)) as (λ _. ⊥) [
      | inl e ↦ first e none
      | inr ne ↦ elim (cases_eq k bucket) as (λ _. ⊥) [
        | inl same ↦ ne (is ∙ ap capacity same)
        | inr other ↦ begun_none left (bucket + 1) slot k (rest ne none) (omega arith) (omega arith) is
      ]
    ]
  where
    first : slot + 32 ≡ capacity bucket → begun_of (suc left) bucket slot ≡ None → ⊥
    first e h = absurd (grind (arith, eq-eqb _ _ e))

    rest : slot + 32 ≢ capacity bucket → begun_of (suc left) bucket slot ≡ None → begun_of left (bucket + 1) slot ≡ None
    rest ne h = grind arith

chosen : (t : Bool) (a o : Option ℕ) → (if t then a else None) ≡ o → t ≡ true → a ≡ o
chosen true a o h e = h
chosen false a o h e = absurd (cc e)

chosen_some : (t : Bool) (a : Option ℕ) (k : ℕ) → (if t then a else None) ≡ Some k → t ≡ true
chosen_some true a k h = refl
chosen_some false a k h = absurd (cc h)

pub needed_is : (slot : ℕ) (o : Option ℕ) → bucket_needed slot ≡ o → slot < LAST_SLOT → bucket_begun (slot + 1) ≡ o
needed_is slot o h l = chosen (nat_lt slot LAST_SLOT) (bucket_begun (slot + 1)) o h (below_true slot LAST_SLOT l)

pub needed_not : (slot bucket : ℕ) → bucket_needed slot ≡ Some bucket → slot < LAST_SLOT
needed_not slot bucket h = below_lt slot LAST_SLOT (chosen_some (nat_lt slot LAST_SLOT) (bucket_begun (slot + 1)) bucket h)

module _ {T : Type 0} (m : Mem T) (slot : ℕ) where
  -- no bucket is needed: the next slot has its words
  pub next_there : Bucketed m → slot < length m.slots → bucket_needed slot ≡ None → slot + 1 < 65536 → slot + 1 < length m.slots
  next_there b here none l =
      elim (cases_lt (slot + 1) (length m.slots)) as (λ _. slot + 1 < length m.slots) [
        | inl inside ↦ inside
        | inr past ↦ absurd (begun_none 59 0 (slot + 1) b.number (needed_is slot None none (omega arith)) (omega arith) (few b.number (omega (arith, b.whole))) (omega (arith, b.whole)))
      ]
    where
      few : (k : ℕ) → capacity k ≤ 65568 → k < 0 + 59
      few k h = elim (cases_lt k 12) as (λ _. k < 0 + 59) [
        | inl small ↦ omega arith
        | inr large ↦ absurd (let c = capacity_le_capacity 12 k large in omega (arith, c))
      ]

  -- a bucket is needed: it can be asked for, and then the next slot has its words
  pub needed_room : (bucket : ℕ) → slot < length m.slots → bucket_needed slot ≡ Some bucket → Can m (Room bucket)
  needed_room bucket here some =
      let k = begun_some 59 0 (slot + 1) bucket (needed_is slot (Some bucket) some (needed_not slot bucket some)) in
      (omega (arith, k.1), omega (arith, k.0))

  pub needed_there : (bucket : ℕ) → slot < length m.slots → bucket_needed slot ≡ Some bucket → slot + 1 < length (with_room m bucket).slots
  needed_there bucket here some =
      let k = begun_some 59 0 (slot + 1) bucket (needed_is slot (Some bucket) some (needed_not slot bucket some)) in
      begins m.slots bucket (slot + 1) k.0 (omega (arith, k.0))
