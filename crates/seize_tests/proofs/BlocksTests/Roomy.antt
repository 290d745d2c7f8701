-- Buckets of slots: room is made, and words of slots are read and added to, and what is said of them holds again.
use Rattle.std.specs.Prelude.{◌≡◌, ◌≢◌, ◌≤◌, ◌<◌, ◌⊎◌, ◌+◌, ◌-◌, ◌^◌, ◌%◌, ℕ, zero, suc, List, [], ◌∷◌, ◌++◌, Some, IsSome, Ok, Err, length, replicate, slice_get, slice_set, slice_index_or}
use Rattle.std.proofs.Common.{ap, refl, sym, ◌∙◌, subst, inl, inr, arith, length-append, length-set}
use Rattle.std.proofs.lemmas.Bool.{cases_eq, cases_lt}
use Rattle.std.proofs.lemmas.List.{length-replicate, get_or_append_left, get_or-append_right, get_or-set_same, get_or-set_other}
use Rattle.seize_words.specs.OneMemory.Mem.{Mem, Took, word_at, with_word, after}
use Rattle.seize_words.specs.OneMemory.Op.{Op, Out, Load, Add, Room, Found, Stored, Exchanged, Made, Taken, Roomed}
use Rattle.seize_words.specs.OneMemory.Place.{capacity}
use Rattle.seize_words.specs.OneMemory.SlotWords.{with_slot_word}
use Rattle.seize_words.specs.declared.at.At.TheVariants.{Slot}
use Rattle.seize_words.proofs.OneMemory.Places.Words.{capacity-more, capacity_le_capacity, with_bucket_next, with_bucket_there}
use Rattle.seize_seats.specs.Seats.State.{State, Goes, Allows, Comes}
use Rattle.seize_seats.specs.Seats.State as State
use Rattle.seize_tests.specs.BlocksTests.Roomy.{HasBuckets, AreRoomy, finds_room}
use Rattle.seize_tests.proofs.BlocksTests.Growing.{NoneKept, S, after_set, after_push}

-- ---- words of slots
one_of_two : (l : List ℕ) (f : ℕ) → length l ≡ 2 → f < 2 → IsSome (slice_get l f)
one_of_two [] f two lt = absurd (omega (arith, two))
one_of_two (x ∷ l) zero two lt = refl
one_of_two (x ∷ []) (suc f) two lt = absurd (omega (arith, two))
one_of_two (x ∷ y ∷ l) (suc zero) two lt = refl
one_of_two (x ∷ y ∷ l) (suc (suc f)) two lt = absurd (omega (arith, lt))

has_two : (ls : List (List ℕ)) (s i f w : ℕ) → ((k : ℕ) → k < length ls → length (slice_index_or ls k []) ≡ 2) → i < length ls
    → length (slice_index_or (with_slot_word ls s f w) i []) ≡ 2
has_two ls s i f w two lt = by (cases_eq i s)
  where
    l : List ℕ
    l = slice_set (slice_index_or ls s []) f w

    by : (i ≡ s) ⊎ (i ≢ s) → length (slice_index_or (slice_set ls s l) i []) ≡ 2
    by (inl e) = ap (λ (k : ℕ). length (slice_index_or (slice_set ls s l) k [])) e ∙ ap length (get_or-set_same ls s l [] (omega (arith, lt, e)))
        ∙ length-set (slice_index_or ls s []) f w ∙ two s (omega (arith, lt, e))
    by (inr ne) = ap length (get_or-set_other ls s i l [] ne) ∙ two i lt

-- ---- the state after a step
module _ (s : S) (has : AreRoomy s) (id : ℕ) (m : Mem ℕ) (u n : ℕ) (now : HasBuckets m n) (more : length s.memory.slots ≤ length m.slots) (known : u ≤ length m.slots) where
  pub keeps_roomy : AreRoomy (State.after s m id u tt)
  keeps_roomy = ((n, now), λ j v e. by j v (after_set s.views id j u v e))
    where
      by : (j v : ℕ) → (v ≡ u) ⊎ (slice_get s.views j ≡ Some v) → v ≤ length m.slots
      by j v (inl same) = omega (arith, same, known)
      by j v (inr e) = let r = has.1 j v e in omega (arith, r, more)

  goes : (so : ℕ → Type 0) → so u → Goes AreRoomy NoneKept s m id so
  goes so told = (u, tt, keeps_roomy, (λ j k b x o a c d f kept. kept), told)

module _ (s : S) (has : AreRoomy s) (id v : ℕ) (at : slice_get s.views id ≡ Some v) (op : Op ℕ) where
  -- as it was
  stays : (m : Mem ℕ) → m ≡ s.memory → (so : ℕ → Type 0) → so v → Goes AreRoomy NoneKept s m id so
  stays m same so told = let n = has.0 in let r = has.1 id v at in
      subst (λ (k : Mem ℕ). Goes AreRoomy NoneKept s k id so) (sym same) (goes s has id s.memory v n.0 n.1 (omega arith) r so told)

-- the word of a slot that is there
module _ (id v a f : ℕ) (lt : a < v) (low : f < 2) where
  some : (s : S) (has : AreRoomy s) → slice_get s.views id ≡ Some v → IsSome (word_at s.memory (Slot a f))
  some s has at = let r = has.1 id v at in one_of_two (slice_index_or s.memory.slots a []) f (has.0.1.1 a (omega (arith, r, lt))) low

  pub loads : Allows AreRoomy NoneKept id v (Load (Slot a f)) (finds_room v (Load (Slot a f)))
  loads s has at = (some s has at, told)
    where
      told : (out : Out ℕ) (m : Mem ℕ) → Took s.memory (Load (Slot a f)) out m → Goes AreRoomy NoneKept s m id (finds_room v (Load (Slot a f)) out)
      told (Found w) m took = stays s has id v at (Load (Slot a f)) m took.1 (finds_room v (Load (Slot a f)) (Found w)) refl
      told Stored m took = absurd took.0
      told (Exchanged r) m took = absurd took.0
      told (Made r) m took = absurd took.0
      told (Taken r) m took = absurd took.0
      told (Roomed r) m took = absurd took.0

  pub adds : (by : ℕ) → Allows AreRoomy NoneKept id v (Add (Slot a f) by) (finds_room v (Add (Slot a f) by))
  adds by s has at = (some s has at, told)
    where
      set : (w : ℕ) → Mem ℕ
      set w = with_word s.memory (Slot a f) w

      fits : (w : ℕ) → HasBuckets (set w) has.0.0
      fits w = let l = length-set s.memory.slots a (slice_set (slice_index_or s.memory.slots a []) f w) in let e = has.0.1.0 in
          (omega (arith, l, e), λ k lt. has_two s.memory.slots a k f w has.0.1.1 (omega (arith, l, lt)))

      told : (out : Out ℕ) (m : Mem ℕ) → Took s.memory (Add (Slot a f) by) out m → Goes AreRoomy NoneKept s m id (finds_room v (Add (Slot a f) by) out)
      told (Found w) m took = let x : ℕ = (w + by) % 2 ^ 64 in let r = has.1 id v at in
          let l = length-set s.memory.slots a (slice_set (slice_index_or s.memory.slots a []) f x) in
          subst (λ (k : Mem ℕ). Goes AreRoomy NoneKept s k id (finds_room v (Add (Slot a f) by) (Found w))) (sym took.1)
          (goes s has id (set x) v has.0.0 (fits x) (omega (arith, l)) (omega (arith, l, r)) (finds_room v (Add (Slot a f) by) (Found w)) refl)
      told Stored m took = absurd took.0
      told (Exchanged r) m took = absurd took.0
      told (Made r) m took = absurd took.0
      told (Taken r) m took = absurd took.0
      told (Roomed r) m took = absurd took.0

-- ---- room for a bucket, where those before it are there
pub rooms : (id v b : ℕ) → b ≤ 58 → capacity b ≤ v + 32 → Allows AreRoomy NoneKept id v (Room b) (finds_room v (Room b))
rooms id v b most may s has at = ((most, let r = has.1 id v at in omega (arith, r, may)), told)
  where
    n : ℕ
    n = has.0.0

    slots : List (List ℕ)
    slots = s.memory.slots

    So : Out ℕ → ℕ → Type 0
    So = finds_room v (Room b)

    zs : List (List ℕ)
    zs = replicate (capacity b) (replicate {A = ℕ} 2 0)

    twos : (c k : ℕ) → k < c → length (slice_index_or (replicate c (replicate {A = ℕ} 2 0)) k []) ≡ 2
    twos zero k lt = absurd (omega (arith, lt))
    twos (suc c) zero lt = refl
    twos (suc c) (suc k) lt = twos c k (omega (arith, lt))

    next : length slots + 32 ≡ capacity b → Goes AreRoomy NoneKept s (after s.memory (Room b) (Roomed (Ok tt))) id (So (Roomed (Ok tt)))
    next e =
        let l = length-append slots zs in let z = length-replicate {A = List ℕ} (capacity b) (replicate {A = ℕ} 2 0) in let c = capacity-more b in
        subst (λ (ls : List (List ℕ)). Goes AreRoomy NoneKept s (record s.memory { slots = ls }) id (So (Roomed (Ok tt)))) (sym (with_bucket_next slots b e))
        (goes s has id (record s.memory { slots = slots ++ zs }) (capacity (b + 1) - 32) (b + 1) (omega (arith, l, z, c, e), two) (omega (arith, l)) (omega (arith, l, z, c, e))
        (So (Roomed (Ok tt))) refl)
      where
        two : (k : ℕ) → k < length (slots ++ zs) → length (slice_index_or (slots ++ zs) k []) ≡ 2
        two k lt = by (cases_lt k (length slots))
          where
            by : (k < length slots) ⊎ (length slots ≤ k) → length (slice_index_or (slots ++ zs) k []) ≡ 2
            by (inl low) = ap length (get_or_append_left slots zs [] k low) ∙ has.0.1.1 k low
            by (inr high) = let l = length-append slots zs in let z = length-replicate {A = List ℕ} (capacity b) (replicate {A = ℕ} 2 0) in
                ap length (get_or-append_right slots zs (length slots) k [] refl high) ∙ twos (capacity b) (k - length slots) (omega (arith, l, z, lt, high))

    there : length slots + 32 ≢ capacity b → Goes AreRoomy NoneKept s (after s.memory (Room b) (Roomed (Ok tt))) id (So (Roomed (Ok tt)))
    there ne =
        let e = has.0.1.0 in let r = has.1 id v at in
        subst (λ (ls : List (List ℕ)). Goes AreRoomy NoneKept s (record s.memory { slots = ls }) id (So (Roomed (Ok tt)))) (sym (with_bucket_there slots b ne))
        (goes s has id s.memory (capacity (b + 1) - 32) n has.0.1 (omega arith) (far (cases_lt b n)) (So (Roomed (Ok tt))) refl)
      where
        far : (b < n) ⊎ (n ≤ b) → capacity (b + 1) - 32 ≤ length slots
        far (inl lt) = let c = capacity_le_capacity (b + 1) n (omega (arith, lt)) in let e = has.0.1.0 in omega (arith, c, e)
        far (inr le) = let c = capacity_le_capacity n b le in let e = has.0.1.0 in let r = has.1 id v at in absurd (ne (omega (arith, c, e, r, may)))

    told : (out : Out ℕ) (m : Mem ℕ) → Took s.memory (Room b) out m → Goes AreRoomy NoneKept s m id (So out)
    told (Roomed (Ok made)) m took = subst (λ (k : Mem ℕ). Goes AreRoomy NoneKept s k id (So (Roomed (Ok made)))) (sym took.1) (by (cases_eq (length slots + 32) (capacity b)))
      where
        by : (length slots + 32 ≡ capacity b) ⊎ (length slots + 32 ≢ capacity b) → Goes AreRoomy NoneKept s (after s.memory (Room b) (Roomed (Ok made))) id (So (Roomed (Ok made)))
        by (inl e) = next e
        by (inr ne) = there ne
    told (Roomed (Err x)) m took = stays s has id v at (Room b) m took.1 (So (Roomed (Err x))) refl
    told (Found w) m took = absurd took.0
    told Stored m took = absurd took.0
    told (Exchanged r) m took = absurd took.0
    told (Made r) m took = absurd took.0
    told (Taken r) m took = absurd took.0

pub comes : Comes AreRoomy NoneKept 0
comes s has = (tt, (has.0, λ j v e. by j v (after_push s.views j 0 v e)), λ b u o kept. kept)
  where
    by : (j v : ℕ) → (v ≡ 0) ⊎ (slice_get s.views j ≡ Some v) → v ≤ length s.memory.slots
    by j v (inl same) = omega (arith, same)
    by j v (inr e) = has.1 j v e
