-- What is read of a memory of one owner after a write.
use Rattle.std.specs.Prelude.{◌≡◌, ◌≢◌, ℕ, ◌-◌, ◌<◌, ◌≤◌, ◌==◌, Option, Some, None, Ok, IsSome, Bool, true, false, ◌&&◌, if◌then◌else◌, List, [], ◌∷◌, ◌++◌, length, slice_get, slice_index_or, slice_set, replicate}
use Rattle.std.proofs.Common.{ap, sym, ◌∙◌, refl, zero, suc, arith, inl, inr, subst}
use Rattle.seize_words.proofs.OneMemory.Places.Words.{slot_lt}
use Rattle.std.proofs.lemmas.Bool.{cases_eq, eq-eqb, ne_eqb, cases_lt}
use Rattle.std.proofs.lemmas.List.{get_or-set_same, get_or-set_other, get_or_append_left}
use Rattle.std.proofs.Math.ListN.{get_or-eq_default}
use Rattle.seize_words.specs.declared.at.At.{At}
use Rattle.seize_words.specs.declared.at.At.TheVariants.{Root, Used, Slot, Entry, Word}
use Rattle.seize_words.specs.declared.block.Block.{Block}
use Rattle.seize_words.specs.OneMemory.Mem.{Mem, same_at, block_of, value_in, entry_in, word_in, with_entry, with_word_in, with_value_in, value_at, word_at, with_block, with_word, with_value, with_made, next_number, IsFreeNumber, fresh, after}
use Rattle.seize_words.specs.OneMemory.Op.{Make, Made}
use Rattle.seize_words.proofs.OneMemory.FreeNumbers.{IsOpen, IsOpen-picked}
use Rattle.std.proofs.Math.Seq.{get_or-append_right}
use Rattle.seize_words.specs.OneMemory.SlotWords.{slot_word, with_slot_word}

-- a choice by two numbers, where each case is known
by_equal : {X : Type 0} (a b : ℕ) (x y z : X) → (a ≡ b → z ≡ x) → (a ≢ b → z ≡ y) → z ≡ (if a == b then x else y)
by_equal a b x y z same other =
    elim (cases_eq a b) as (λ _. z ≡ (if a == b then x else y)) [
      | inl e ↦ same e ∙ ap (λ t. if t then x else y) (sym (eq-eqb a b e))
      | inr ne ↦ other ne ∙ ap (λ t. if t then x else y) (sym (ne_eqb a b ne))
    ]

slice_get-slice_set_same : {X : Type 0} (xs : List X) (i : ℕ) (x : X) → IsSome (slice_get xs i) → slice_get (slice_set xs i x) i ≡ Some x
slice_get-slice_set_same [] i x some = absurd (cc)
slice_get-slice_set_same (y ∷ ys) zero x some = refl
slice_get-slice_set_same (y ∷ ys) (suc i) x some = slice_get-slice_set_same ys i x some

slice_get-slice_set_other : {X : Type 0} (xs : List X) (i j : ℕ) (x : X) → j ≢ i → slice_get (slice_set xs i x) j ≡ slice_get xs j
slice_get-slice_set_other [] i j x other = refl
slice_get-slice_set_other (y ∷ ys) zero zero x other = absurd (other refl)
slice_get-slice_set_other (y ∷ ys) zero (suc j) x other = refl
slice_get-slice_set_other (y ∷ ys) (suc i) zero x other = refl
slice_get-slice_set_other (y ∷ ys) (suc i) (suc j) x other = slice_get-slice_set_other ys i j x (λ e. other (ap suc e))

slice_get-slice_set : {X : Type 0} (xs : List X) (i j : ℕ) (x : X) → IsSome (slice_get xs i)
    → slice_get (slice_set xs i x) j ≡ (if j == i then Some x else slice_get xs j)
slice_get-slice_set xs i j x some =
    by_equal j i (Some x) (slice_get xs j) (slice_get (slice_set xs i x) j)
    (λ e. ap (slice_get (slice_set xs i x)) e ∙ slice_get-slice_set_same xs i x some)
    (slice_get-slice_set_other xs i j x)

-- a choice by two pairs of numbers
by_both : {X : Type 0} (a b c d : ℕ) (x y z : X) → (a ≡ b → c ≡ d → z ≡ x) → (a ≡ b → c ≢ d → z ≡ y) → (a ≢ b → z ≡ y)
    → z ≡ (if (a == b) && (c == d) then x else y)
by_both a b c d x y z same second first =
    elim (cases_eq a b) as (λ _. z ≡ (if (a == b) && (c == d) then x else y)) [
      | inl e ↦ by_equal c d x y z (same e) (second e) ∙ ap (λ t. if t && (c == d) then x else y) (sym (eq-eqb a b e))
      | inr ne ↦ first ne ∙ ap (λ t. if t && (c == d) then x else y) (sym (ne_eqb a b ne))
    ]

slot_word-with_slot_word : (slots : List (List ℕ)) (s i s' i' w : ℕ) → IsSome (slot_word slots s i)
    → slot_word (with_slot_word slots s i w) s' i' ≡ (if (s' == s) && (i' == i) then Some w else slot_word slots s' i')
slot_word-with_slot_word slots s i s' i' w some =
    let new = slice_set (slice_index_or slots s []) i w in
    let at_s : s' ≡ s → slot_word (with_slot_word slots s i w) s' i' ≡ slice_get new i' =
    (λ e. ap (λ k. slot_word (with_slot_word slots s i w) k i') e
    ∙ ap (λ words. slice_get words i') (get_or-set_same slots s new [] (slot_lt slots s i some))) in
    by_both s' s i' i (Some w) (slot_word slots s' i') (slot_word (with_slot_word slots s i w) s' i')
    (λ e ei. at_s e ∙ ap (slice_get new) ei ∙ slice_get-slice_set_same (slice_index_or slots s []) i w some)
    (λ e ne. at_s e ∙ slice_get-slice_set_other (slice_index_or slots s []) i i' w ne ∙ sym (ap (λ k. slot_word slots k i') e))
    (λ ne. ap (λ words. slice_get words i') (get_or-set_other slots s s' new [] ne))

module _ {T : Type 0} where
  block_of-zero : (m : Mem T) → block_of m 0 ≡ None
  block_of-zero m = refl

  block_of-place : (m : Mem T) (b : ℕ) → 0 < b → block_of m b ≡ slice_index_or m.blocks (b - 1) None
  block_of-place m b some = ap (λ t. if t then None else slice_index_or m.blocks (b - 1) None) (ne_eqb b 0 (omega arith))

  -- a number with a block has a place in the table
  pub placed : (m : Mem T) (b : ℕ) (x : Block T) → block_of m b ≡ Some x → (0 < b) × (b - 1 < length m.blocks)
  placed m b x is =
      elim (cases_eq b 0) as (λ _. (0 < b) × (b - 1 < length m.blocks)) [
        | inl zero_is ↦ absurd (let none : block_of m b ≡ None = ap (block_of m) zero_is ∙ block_of-zero m in cc)
        | inr other ↦ (let some : 0 < b = omega arith in (
          some,
          elim (cases_lt (b - 1) (length m.blocks)) as (λ _. b - 1 < length m.blocks) [
            | inl within ↦ within
            | inr past ↦ absurd (let none : block_of m b ≡ None = block_of-place m b some ∙ get_or-eq_default m.blocks None past in cc)
          ],
        ))
      ]

  pub block_of-with_block : (m : Mem T) (b b' : ℕ) (x : Block T) (new : Option (Block T)) → block_of m b ≡ Some x
      → block_of (with_block m b new) b' ≡ (if b' == b then new else block_of m b')
  block_of-with_block m b b' x new is =
      let at = placed m b x is in
      by_equal b' b new (block_of m b') (block_of (with_block m b new) b')
      (λ e. ap (block_of (with_block m b new)) e ∙ block_of-place (with_block m b new) b at.0 ∙ get_or-set_same m.blocks (b - 1) new None at.1)
      (λ ne. elim (cases_eq b' 0) as (λ _. block_of (with_block m b new) b' ≡ block_of m b') [
        | inl zero_is ↦ ap (block_of (with_block m b new)) zero_is ∙ sym (ap (block_of m) zero_is)
        | inr some ↦ (let pos : 0 < b' = omega arith in let apart : b' - 1 ≢ b - 1 = omega (arith, at.0) in
            block_of-place (with_block m b new) b' pos ∙ get_or-set_other m.blocks (b - 1) (b' - 1) new None apart ∙ sym (block_of-place m b' pos))
      ])

  -- the block of a number, where there is one
  found : (m : Mem T) (b : ℕ) {X : Type 0} (get : Option (Block T) → Option X) → get None ≡ None → IsSome (get (block_of m b))
      → (x : Block T) × (block_of m b ≡ Some x)
  found m b get none some = go (block_of m b) refl
    where
      go : (o : Option (Block T)) → block_of m b ≡ o → (x : Block T) × (block_of m b ≡ Some x)
      go None e = absurd (let e' : IsSome (get None) = rw e at some in cc)
      go (Some x) e = (x, e)

  block_of-same : (m : Mem T) (b : ℕ) (x : Block T) (new : Option (Block T)) → block_of m b ≡ Some x → block_of (with_block m b new) b ≡ new
  block_of-same m b x new is =
      block_of-with_block m b b x new is ∙ ap (λ t. if t then new else block_of m b) (eq-eqb b b refl)

  block_of-other : (m : Mem T) (b b' : ℕ) (x : Block T) (new : Option (Block T)) → block_of m b ≡ Some x → b' ≢ b
      → block_of (with_block m b new) b' ≡ block_of m b'
  block_of-other m b b' x new is other =
      block_of-with_block m b b' x new is ∙ ap (λ t. if t then new else block_of m b') (ne_eqb b' b other)

  -- what a write to a block leaves there is left at each number
  kept : {X : Type 0} (get : Option (Block T) → X) (m : Mem T) (b b' : ℕ) (x : Block T) (new : Option (Block T)) → block_of m b ≡ Some x
      → get new ≡ get (Some x) → get (block_of (with_block m b new) b') ≡ get (block_of m b')
  kept get m b b' x new is same =
      elim (cases_eq b' b) as (λ _. get (block_of (with_block m b new) b') ≡ get (block_of m b')) [
        | inl e ↦ ap (λ k. get (block_of (with_block m b new) k)) e ∙ ap get (block_of-same m b x new is) ∙ same ∙ sym (ap get is)
            ∙ ap (λ k. get (block_of m k)) (sym e)
        | inr ne ↦ ap get (block_of-other m b b' x new is ne)
      ]

  entry-written : (m : Mem T) (b i b' i' w : ℕ) → IsSome (entry_in (block_of m b) i)
      → entry_in (block_of (with_block m b (with_entry (block_of m b) i w)) b') i'
      ≡ (if (b' == b) && (i' == i) then Some w else entry_in (block_of m b') i')
  entry-written m b i b' i' w some =
      let f = found m b (λ o. entry_in o i) refl some in
      let here : with_entry (block_of m b) i w ≡ with_entry (Some f.0) i w = ap (λ o. with_entry o i w) f.1 in
      let inside : IsSome (slice_get f.0.entry i) = subst (λ (o : Option (Block T)). IsSome (entry_in o i)) f.1 some in
      let at_b : (k : ℕ) → b' ≡ b → entry_in (block_of (with_block m b (with_entry (block_of m b) i w)) b') k ≡ slice_get (slice_set f.0.entry i w) k =
      (λ k e. ap (λ n. entry_in (block_of (with_block m b (with_entry (block_of m b) i w)) n) k) e
      ∙ ap (λ o. entry_in o k) (block_of-same m b f.0 (with_entry (block_of m b) i w) f.1 ∙ here)) in
      by_both b' b i' i (Some w) (entry_in (block_of m b') i') (entry_in (block_of (with_block m b (with_entry (block_of m b) i w)) b') i')
      (λ e ei. at_b i' e ∙ ap (slice_get (slice_set f.0.entry i w)) ei ∙ slice_get-slice_set_same f.0.entry i w inside)
      (λ e ne. at_b i' e ∙ slice_get-slice_set_other f.0.entry i i' w ne ∙ sym (ap (λ n. entry_in (block_of m n) i') e ∙ ap (λ o. entry_in o i') f.1))
      (λ ne. ap (λ o. entry_in o i') (block_of-other m b b' f.0 (with_entry (block_of m b) i w) f.1 ne))

  word-written : (m : Mem T) (b i b' i' w : ℕ) → IsSome (word_in (block_of m b) i)
      → word_in (block_of (with_block m b (with_word_in (block_of m b) i w)) b') i'
      ≡ (if (b' == b) && (i' == i) then Some w else word_in (block_of m b') i')
  word-written m b i b' i' w some =
      let f = found m b (λ o. word_in o i) refl some in
      let here : with_word_in (block_of m b) i w ≡ with_word_in (Some f.0) i w = ap (λ o. with_word_in o i w) f.1 in
      let inside : IsSome (slice_get f.0.words i) = subst (λ (o : Option (Block T)). IsSome (word_in o i)) f.1 some in
      let at_b : (k : ℕ) → b' ≡ b → word_in (block_of (with_block m b (with_word_in (block_of m b) i w)) b') k ≡ slice_get (slice_set f.0.words i w) k =
      (λ k e. ap (λ n. word_in (block_of (with_block m b (with_word_in (block_of m b) i w)) n) k) e
      ∙ ap (λ o. word_in o k) (block_of-same m b f.0 (with_word_in (block_of m b) i w) f.1 ∙ here)) in
      by_both b' b i' i (Some w) (word_in (block_of m b') i') (word_in (block_of (with_block m b (with_word_in (block_of m b) i w)) b') i')
      (λ e ei. at_b i' e ∙ ap (slice_get (slice_set f.0.words i w)) ei ∙ slice_get-slice_set_same f.0.words i w inside)
      (λ e ne. at_b i' e ∙ slice_get-slice_set_other f.0.words i i' w ne ∙ sym (ap (λ n. word_in (block_of m n) i') e ∙ ap (λ o. word_in o i') f.1))
      (λ ne. ap (λ o. word_in o i') (block_of-other m b b' f.0 (with_word_in (block_of m b) i w) f.1 ne))

  -- a write of an entry's word changes no value and no word of a block's own, and the other way round
  entry-kept : {X : Type 0} (get : Option (Block T) → X) → ((x : Block T) (i w : ℕ) → get (with_entry (Some x) i w) ≡ get (Some x))
      → (m : Mem T) (b i w b' : ℕ) → IsSome (entry_in (block_of m b) i)
      → get (block_of (with_block m b (with_entry (block_of m b) i w)) b') ≡ get (block_of m b')
  entry-kept get same m b i w b' some =
      let f = found m b (λ o. entry_in o i) refl some in
      kept get m b b' f.0 (with_entry (block_of m b) i w) f.1 (ap (λ o. get (with_entry o i w)) f.1 ∙ same f.0 i w)

  word-kept : {X : Type 0} (get : Option (Block T) → X) → ((x : Block T) (i w : ℕ) → get (with_word_in (Some x) i w) ≡ get (Some x))
      → (m : Mem T) (b i w b' : ℕ) → IsSome (word_in (block_of m b) i)
      → get (block_of (with_block m b (with_word_in (block_of m b) i w)) b') ≡ get (block_of m b')
  word-kept get same m b i w b' some =
      let f = found m b (λ o. word_in o i) refl some in
      kept get m b b' f.0 (with_word_in (block_of m b) i w) f.1 (ap (λ o. get (with_word_in o i w)) f.1 ∙ same f.0 i w)

  -- a word that was written is read, and each other word is as before
  pub word_at-with_word : (m : Mem T) (at : At) (w : ℕ) (x : At) → IsSome (word_at m at)
      → word_at (with_word m at w) x ≡ (if same_at x at then Some w else word_at m x)
  word_at-with_word m (Root r) w (Root r') some = slice_get-slice_set m.roots r r' w some
  word_at-with_word m (Root r) w (Used r') some = refl
  word_at-with_word m (Root r) w (Slot s' i') some = refl
  word_at-with_word m (Root r) w (Entry b' i') some = refl
  word_at-with_word m (Root r) w (Word b' i') some = refl
  word_at-with_word m (Used r) w (Root r') some = refl
  word_at-with_word m (Used r) w (Used r') some = slice_get-slice_set m.used r r' w some
  word_at-with_word m (Used r) w (Slot s' i') some = refl
  word_at-with_word m (Used r) w (Entry b' i') some = refl
  word_at-with_word m (Used r) w (Word b' i') some = refl
  word_at-with_word m (Slot s i) w (Root r') some = refl
  word_at-with_word m (Slot s i) w (Used r') some = refl
  word_at-with_word m (Slot s i) w (Slot s' i') some = slot_word-with_slot_word m.slots s i s' i' w some
  word_at-with_word m (Slot s i) w (Entry b' i') some = refl
  word_at-with_word m (Slot s i) w (Word b' i') some = refl
  word_at-with_word m (Entry b i) w (Root r') some = refl
  word_at-with_word m (Entry b i) w (Used r') some = refl
  word_at-with_word m (Entry b i) w (Slot s' i') some = refl
  word_at-with_word m (Entry b i) w (Entry b' i') some = entry-written m b i b' i' w some
  word_at-with_word m (Entry b i) w (Word b' i') some = entry-kept (λ o. word_in o i') (λ x k v. refl) m b i w b' some
  word_at-with_word m (Word b i) w (Root r') some = refl
  word_at-with_word m (Word b i) w (Used r') some = refl
  word_at-with_word m (Word b i) w (Slot s' i') some = refl
  word_at-with_word m (Word b i) w (Entry b' i') some = word-kept (λ o. entry_in o i') (λ x k v. refl) m b i w b' some
  word_at-with_word m (Word b i) w (Word b' i') some = word-written m b i b' i' w some

  -- a write changes no value
  pub value_at-with_word : (m : Mem T) (at : At) (w b' : ℕ) → IsSome (word_at m at) → value_at (with_word m at w) b' ≡ value_at m b'
  value_at-with_word m (Root r) w b' some = refl
  value_at-with_word m (Used r) w b' some = refl
  value_at-with_word m (Slot s i) w b' some = refl
  value_at-with_word m (Entry b i) w b' some = entry-kept value_in (λ x k v. refl) m b i w b' some
  value_at-with_word m (Word b i) w b' some = word-kept value_in (λ x k v. refl) m b i w b' some

  -- another value of a block changes no word
  value-kept : {X : Type 0} (get : Option (Block T) → X) → ((x : Block T) (v : T) → get (with_value_in (Some x) v) ≡ get (Some x))
      → (m : Mem T) (b : ℕ) (v : T) (b' : ℕ) → IsSome (value_at m b)
      → get (block_of (with_value m b v) b') ≡ get (block_of m b')
  value-kept get same m b v b' some =
      let f = found m b value_in refl some in
      kept get m b b' f.0 (with_value_in (block_of m b) v) f.1 (ap (λ o. get (with_value_in o v)) f.1 ∙ same f.0 v)

  pub word_at-with_value : (m : Mem T) (b : ℕ) (v : T) (x : At) → IsSome (value_at m b) → word_at (with_value m b v) x ≡ word_at m x
  word_at-with_value m b v (Root r) some = refl
  word_at-with_value m b v (Used r) some = refl
  word_at-with_value m b v (Slot s i) some = refl
  word_at-with_value m b v (Entry k i) some = value-kept (λ o. entry_in o i) (λ x u. refl) m b v k some
  word_at-with_value m b v (Word k i) some = value-kept (λ o. word_in o i) (λ x u. refl) m b v k some

  -- a value that was replaced is the new one, and each other value is as before
  pub value_at-with_value : (m : Mem T) (b : ℕ) (v : T) (b' : ℕ) → IsSome (value_at m b)
      → value_at (with_value m b v) b' ≡ (if b' == b then Some v else value_at m b')
  value_at-with_value m b v b' some =
      let f = found m b value_in refl some in
      ap value_in (block_of-with_block m b b' f.0 (with_value_in (block_of m b) v) f.1) ∙ by f.0 f.1 (b' == b)
    where
      by : (x : Block T) → block_of m b ≡ Some x → (t : Bool)
          → value_in (if t then with_value_in (block_of m b) v else block_of m b') ≡ (if t then Some v else value_at m b')
      by x is true = ap (λ o. value_in (with_value_in o v)) is
      by x is false = refl

  -- the next number is no block's
  pub free_number : (m : Mem T) (b : ℕ) → b ≡ next_number m → IsFreeNumber m b
  free_number m b is =
      let o : IsOpen m.blocks b = subst (IsOpen m.blocks) (sym is) (IsOpen-picked m.blocks (slice_index_or m.choices 0 0)) in
      (block_of-place m b o.some ∙ o.free, o.some)

  -- behind so many free numbers stands the block, and nothing else
  gap_at : (free i : ℕ) (x : Block T) → slice_index_or (replicate free None ++ Some x ∷ []) i None ≡ (if i == free then Some x else None)
  gap_at zero zero x = refl
  gap_at zero (suc i) x = ap (λ (q : Bool). if q then Some x else None) (sym (ne_eqb (suc i) 0 (omega arith)))
  gap_at (suc free) zero x = ap (λ (q : Bool). if q then Some x else None) (sym (ne_eqb 0 (suc free) (omega arith)))
  gap_at (suc free) (suc i) x = gap_at free i x ∙ ap (λ (q : Bool). if q then Some x else None) later
    where
      later : (i == free) ≡ (suc i == suc free)
      later = grind arith

  made_at : (blocks : List (Option (Block T))) (b k : ℕ) (x : Block T) → 0 < b → 0 < k
      → slice_index_or (with_made blocks b x) (k - 1) None ≡ (if k == b then Some x else slice_index_or blocks (k - 1) None)
  made_at blocks b k x some_b some =
      by_equal k b (Some x) (slice_index_or blocks (k - 1) None) (slice_index_or (with_made blocks b x) (k - 1) None)
      (λ e. elim (cases_lt (length blocks) b) as (λ _. slice_index_or (with_made blocks b x) (k - 1) None ≡ Some x) [
        | inl behind ↦ past_table k behind (omega arith)
            ∙ ap (λ (q : Bool). if q then Some x else None) (eq-eqb (k - 1 - length blocks) (b - 1 - length blocks) (omega arith))
        | inr inside ↦ (let same : k - 1 ≡ b - 1 = omega arith in
            ap (λ bs. slice_index_or bs (k - 1) None) (in_table blocks b x inside)
            ∙ ap (λ n. slice_index_or (slice_set blocks (b - 1) (Some x)) n None) same
            ∙ get_or-set_same blocks (b - 1) (Some x) None (omega (arith, some_b)))
      ])
      (λ ne. elim (cases_lt (length blocks) b) as (λ _. slice_index_or (with_made blocks b x) (k - 1) None ≡ slice_index_or blocks (k - 1) None) [
        | inl behind ↦ elim (cases_lt (k - 1) (length blocks)) as (λ _. slice_index_or (with_made blocks b x) (k - 1) None ≡ slice_index_or blocks (k - 1) None) [
          | inl within ↦ ap (λ bs. slice_index_or bs (k - 1) None) (behind_table blocks b x behind)
              ∙ get_or_append_left blocks (replicate (b - 1 - length blocks) None ++ Some x ∷ []) None (k - 1) within
          | inr past ↦ past_table k behind past
              ∙ ap (λ (q : Bool). if q then Some x else None) (ne_eqb (k - 1 - length blocks) (b - 1 - length blocks) (omega (arith, some_b, ne)))
              ∙ sym (get_or-eq_default blocks None past)
        ]
        | inr inside ↦ (let apart : k - 1 ≢ b - 1 = omega (arith, some_b) in
            ap (λ bs. slice_index_or bs (k - 1) None) (in_table blocks b x inside)
            ∙ get_or-set_other blocks (b - 1) (k - 1) (Some x) None apart)
      ])
    where
      behind_table : (blocks : List (Option (Block T))) (b : ℕ) (x : Block T) → length blocks < b
          → with_made blocks b x ≡ blocks ++ (replicate (b - 1 - length blocks) None ++ Some x ∷ [])
      behind_table blocks b x h = grind arith

      past_table : (k : ℕ) → length blocks < b → length blocks ≤ k - 1
          → slice_index_or (with_made blocks b x) (k - 1) None ≡ (if k - 1 - length blocks == b - 1 - length blocks then Some x else None)
      past_table k behind past =
          ap (λ bs. slice_index_or bs (k - 1) None) (behind_table blocks b x behind)
          ∙ get_or-append_right blocks (replicate (b - 1 - length blocks) None ++ Some x ∷ []) (k - 1) None past
          ∙ gap_at (b - 1 - length blocks) (k - 1 - length blocks) x

      in_table : (blocks : List (Option (Block T))) (b : ℕ) (x : Block T) → b ≤ length blocks → with_made blocks b x ≡ slice_set blocks (b - 1) (Some x)
      in_table blocks b x h = grind arith

  -- a make puts its block at its number, and leaves each other block
  pub block_of-made : (m : Mem T) (value : T) (words b k : ℕ) → IsFreeNumber m b
      → block_of (after m (Make value words) (Made (Ok b))) k ≡ (if k == b then Some (fresh value words) else block_of m k)
  block_of-made m value words b k is =
      elim (cases_eq k 0) as (λ _. block_of (after m (Make value words) (Made (Ok b))) k ≡ (if k == b then Some (fresh value words) else block_of m k)) [
        | inl zero_is ↦ ap (block_of (after m (Make value words) (Made (Ok b)))) zero_is ∙ sym (ap (block_of m) zero_is)
            ∙ ap (λ t. if t then Some (fresh value words) else block_of m k) (sym (ne_eqb k b (omega (arith, is.1))))
        | inr other ↦ (let some : 0 < k = omega arith in
            block_of-place (after m (Make value words) (Made (Ok b))) k some ∙ made_at m.blocks b k (fresh value words) is.1 some
            ∙ ap (λ z. if k == b then Some (fresh value words) else z) (sym (block_of-place m k some)))
      ]
