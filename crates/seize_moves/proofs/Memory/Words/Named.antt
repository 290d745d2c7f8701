-- A memory seen as functions: the word of each name, 0 where there is none, and the value of each block.
use Rattle.std.specs.Prelude.{◌≡◌, ℕ, zero, suc, ◌+◌, ◌*◌, ◌/◌, ◌<◌, Bool, true, false, cond, eqb, ltb, ◌&&◌, Option, Some, None, Ok, IsSome, is_some, if◌then◌else◌, replicate, slice_get}
use Rattle.std.proofs.Common.{ap, sym, ◌∙◌, refl, arith, eqb-true, subst}
use Rattle.std.proofs.Math.Path.{fun_ext}
use Rattle.std.proofs.lemmas.Bool.{eq-eqb}
use Rattle.std.proofs.lemmas.Nat.{div-mul-add}
use Rattle.seize_moves.proofs.Moves.State.Ghost.{put}
use Rattle.seize.specs.Given.SeizeWordsDeclared.at.At.{At}
use Rattle.seize.specs.Given.SeizeWordsDeclared.at.At.TheVariants.{Root, Used, Slot, Entry, Word}
use Rattle.seize.specs.Given.SeizeWordsDeclared.block.Block.{Block}
use Rattle.seize.specs.Given.SeizeWordsOp.{Make, Made}
use Rattle.seize.specs.Given.SeizeWordsSlotWords.{slot_word}
use Rattle.seize.specs.Given.SeizeWordsMem.{Mem, same_at, block_of, value_in, entry_in, word_in, value_at, word_at, with_block, with_word, IsFreeNumber, fresh, after}
use Rattle.seize.proofs.Given.SeizeWordsOneOwner.AfterWrites.{word_at-with_word, value_at-with_word, block_of-with_block, block_of-made}

abbrev pub or_zero : Option ℕ → ℕ
or_zero None = 0
or_zero (Some w) = w

-- these words with another one at a name
abbrev pub write : (At → ℕ) → At → ℕ → At → ℕ
write w at v x = cond (same_at x at) v (w x)

-- the name is of a word of this block
abbrev pub is_of : ℕ → At → Bool
is_of b (Entry c i) = eqb c b
is_of b (Word c i) = eqb c b
is_of b _ = false

-- these words without those of a block
abbrev pub clear : (At → ℕ) → ℕ → At → ℕ
clear w b x = cond (is_of b x) 0 (w x)

-- a number's link, which is what a word says of a block
abbrev pub link : ℕ → ℕ
link b = b * 2048

pub link-block : (b : ℕ) → link b / 2048 ≡ b
link-block b = let k : b * 2048 + 0 ≡ b * 2048 = omega arith in ap (λ n. n / 2048) (sym k) ∙ div-mul-add b 2048 0 (omega arith)

-- names

pub same_at-refl : (x : At) → same_at x x ≡ true
same_at-refl (Root r) = eq-eqb r r refl
same_at-refl (Used r) = eq-eqb r r refl
same_at-refl (Slot s i) = ap (λ t. t && (eqb i i)) (eq-eqb s s refl) ∙ eq-eqb i i refl
same_at-refl (Entry b i) = ap (λ t. t && (eqb i i)) (eq-eqb b b refl) ∙ eq-eqb i i refl
same_at-refl (Word b i) = ap (λ t. t && (eqb i i)) (eq-eqb b b refl) ∙ eq-eqb i i refl

both_same : (a b c d : ℕ) → (eqb a b && eqb c d) ≡ true → (a ≡ b) × (c ≡ d)
both_same a b c d h = (grind arith, grind arith)

pub same_at-true : (x y : At) → same_at x y ≡ true → x ≡ y
same_at-true (Root r) (Root r') h = ap Root (eqb-true r r' h)
same_at-true (Used r) (Used r') h = ap Used (eqb-true r r' h)
same_at-true (Slot s i) (Slot s' i') h = let k = both_same s s' i i' h in cc
same_at-true (Entry s i) (Entry s' i') h = let k = both_same s s' i i' h in cc
same_at-true (Word s i) (Word s' i') h = let k = both_same s s' i i' h in cc
same_at-true (Root r) (Used r') h = cc
same_at-true (Root r) (Slot s' i') h = cc
same_at-true (Root r) (Entry s' i') h = cc
same_at-true (Root r) (Word s' i') h = cc
same_at-true (Used r) (Root r') h = cc
same_at-true (Used r) (Slot s' i') h = cc
same_at-true (Used r) (Entry s' i') h = cc
same_at-true (Used r) (Word s' i') h = cc
same_at-true (Slot s i) (Root r') h = cc
same_at-true (Slot s i) (Used r') h = cc
same_at-true (Slot s i) (Entry s' i') h = cc
same_at-true (Slot s i) (Word s' i') h = cc
same_at-true (Entry s i) (Root r') h = cc
same_at-true (Entry s i) (Used r') h = cc
same_at-true (Entry s i) (Slot s' i') h = cc
same_at-true (Entry s i) (Word s' i') h = cc
same_at-true (Word s i) (Root r') h = cc
same_at-true (Word s i) (Used r') h = cc
same_at-true (Word s i) (Slot s' i') h = cc
same_at-true (Word s i) (Entry s' i') h = cc

pub write_here : (w : At → ℕ) (at : At) (v : ℕ) → write w at v at ≡ v
write_here w at v = ap (λ t. cond t v (w at)) (same_at-refl at)

pub write_apart : (w : At → ℕ) (at : At) (v : ℕ) (x : At) → same_at x at ≡ false → write w at v x ≡ w x
write_apart w at v x h = ap (λ t. cond t v (w x)) h

or_zero-if : (b : Bool) (v : ℕ) (o : Option ℕ) → or_zero (if b then Some v else o) ≡ cond b v (or_zero o)
or_zero-if true v o = refl
or_zero-if false v o = refl

is_some-if : (b : Bool) (v : ℕ) (o : Option ℕ) → (b ≡ true → IsSome o) → is_some (if b then Some v else o) ≡ is_some o
is_some-if true v None h = absurd (cc (h refl))
is_some-if true v (Some x) h = refl
is_some-if false v o h = refl

zeros : (n i : ℕ) → or_zero (slice_get (replicate n 0) i) ≡ 0
zeros zero i = refl
zeros (suc n) zero = refl
zeros (suc n) (suc i) = zeros n i

zeros_has : (n i : ℕ) → is_some {T = ℕ} (slice_get (replicate n 0) i) ≡ ltb i n
zeros_has zero i = grind arith
zeros_has (suc n) zero = grind arith
zeros_has (suc n) (suc i) = zeros_has n i ∙ grind arith

module _ {T : Type 0} where
  abbrev pub words_of : Mem T → At → ℕ
  words_of m a = or_zero (word_at m a)

  abbrev pub has : Mem T → At → Bool
  has m a = is_some (word_at m a)

  pub word_found : (m : Mem T) (at : At) (w : ℕ) → word_at m at ≡ Some w → words_of m at ≡ w
  word_found m at w h = ap or_zero h

  -- one word was written
  pub record Wrote (m : Mem T) (at : At) (v : ℕ) (n : Mem T) : Type 0 where
    pub words : words_of n ≡ write (words_of m) at v
    pub values : value_at n ≡ value_at m
    pub had : (x : At) → has n x ≡ has m x

  pub wrote : (m : Mem T) (at : At) (v : ℕ) → IsSome (word_at m at) → Wrote m at v (with_word m at v)
  wrote m at v some = record {
    words = fun_ext (λ x. ap or_zero (word_at-with_word m at v x some) ∙ or_zero-if (same_at x at) v (word_at m x));
    values = fun_ext (λ b. value_at-with_word m at v b some);
    had = λ x. ap is_some (word_at-with_word m at v x some) ∙ is_some-if (same_at x at) v (word_at m x) (λ e. subst (λ (y : At). IsSome (word_at m y)) (sym (same_at-true x at e)) some);
  }

  -- a block was made: its words are 0, as they were while it had none
  pub record Made_one (m : Mem T) (value : T) (count b : ℕ) (n : Mem T) : Type 0 where
    pub some : 0 < b
    pub was_free : value_at m b ≡ None
    pub words : words_of n ≡ words_of m
    pub values : value_at n ≡ put (value_at m) b (Some value)
    pub had : (x : At) → is_of b x ≡ false → has n x ≡ has m x
    pub entry : (i : ℕ) → has n (Entry b i) ≡ ltb i 4
    pub own : (i : ℕ) → has n (Word b i) ≡ ltb i count

  if_some : {X : Type 0} (t : Bool) (get : Option (Block T) → X) (x o : Option (Block T)) → get (if t then x else o) ≡ cond t (get x) (get o)
  if_some true get x o = refl
  if_some false get x o = refl

  -- each word of the names is as it was, where the block was free and is new
  new_words : (m n : Mem T) (value : T) (words b : ℕ) → block_of m b ≡ None
      → ((k : ℕ) → block_of n k ≡ (if eqb k b then Some (fresh value words) else block_of m k)) → n.roots ≡ m.roots → n.used ≡ m.used → n.slots ≡ m.slots
      → (x : At) → words_of n x ≡ words_of m x
  new_words m n value words b free at er eu es (Root r) = ap (λ l. or_zero (slice_get l r)) er
  new_words m n value words b free at er eu es (Used r) = ap (λ l. or_zero (slice_get l r)) eu
  new_words m n value words b free at er eu es (Slot s i) = ap (λ l. or_zero (slot_word l s i)) es
  new_words m n value words b free at er eu es (Entry c i) =
      ap (λ o. or_zero (entry_in o i)) (at c) ∙ zero_new (eqb c b) (λ e. ap (block_of m) (eqb-true c b e) ∙ free)
    where
      zero_new : (t : Bool) → (t ≡ true → block_of m c ≡ None) → or_zero (entry_in (if t then Some (fresh value words) else block_of m c) i) ≡ or_zero (entry_in (block_of m c) i)
      zero_new true h = zeros 4 i ∙ sym (ap (λ o. or_zero (entry_in o i)) (h refl))
      zero_new false h = refl
  new_words m n value words b free at er eu es (Word c i) =
      ap (λ o. or_zero (word_in o i)) (at c) ∙ zero_new (eqb c b) (λ e. ap (block_of m) (eqb-true c b e) ∙ free)
    where
      zero_new : (t : Bool) → (t ≡ true → block_of m c ≡ None) → or_zero (word_in (if t then Some (fresh value words) else block_of m c) i) ≡ or_zero (word_in (block_of m c) i)
      zero_new true h = zeros words i ∙ sym (ap (λ o. or_zero (word_in o i)) (h refl))
      zero_new false h = refl

  -- which names have a word is as it was but for one block
  other_has : (m n : Mem T) (b : ℕ) (new : Option (Block T))
      → ((k : ℕ) → block_of n k ≡ (if eqb k b then new else block_of m k)) → n.roots ≡ m.roots → n.used ≡ m.used → n.slots ≡ m.slots
      → (x : At) → is_of b x ≡ false → has n x ≡ has m x
  other_has m n b new at er eu es (Root r) h = ap (λ l. is_some (slice_get l r)) er
  other_has m n b new at er eu es (Used r) h = ap (λ l. is_some (slice_get l r)) eu
  other_has m n b new at er eu es (Slot s i) h = ap (λ l. is_some (slot_word l s i)) es
  other_has m n b new at er eu es (Entry c i) h = ap (λ o. is_some (entry_in o i)) (at c ∙ ap (λ t. if t then new else block_of m c) h)
  other_has m n b new at er eu es (Word c i) h = ap (λ o. is_some (word_in o i)) (at c ∙ ap (λ t. if t then new else block_of m c) h)

  at_one : (m n : Mem T) (b : ℕ) (new : Option (Block T)) → ((k : ℕ) → block_of n k ≡ (if eqb k b then new else block_of m k)) → block_of n b ≡ new
  at_one m n b new at = at b ∙ ap (λ t. if t then new else block_of m b) (eq-eqb b b refl)

  pub made_one : (m : Mem T) (value : T) (words b : ℕ) → IsFreeNumber m b → Made_one m value words b (after m (Make value words) (Made (Ok b)))
  made_one m value words b is =
      let n = after m (Make value words) (Made (Ok b)) in
      let at : (k : ℕ) → block_of n k ≡ (if eqb k b then Some (fresh value words) else block_of m k) = (λ k. block_of-made m value words b k is) in
      record {
        some = is.1;
        was_free = ap value_in is.0;
        words = fun_ext (new_words m n value words b is.0 at refl refl refl);
        values = fun_ext (λ k. ap value_in (at k) ∙ if_some (eqb k b) value_in (Some (fresh value words)) (block_of m k));
        had = other_has m n b (Some (fresh value words)) at refl refl refl;
        entry = λ i. ap (λ o. is_some (entry_in o i)) (at_one m n b (Some (fresh value words)) at) ∙ zeros_has 4 i;
        own = λ i. ap (λ o. is_some (word_in o i)) (at_one m n b (Some (fresh value words)) at) ∙ zeros_has words i;
      }

  -- a block was taken
  pub record Taken_one (m : Mem T) (b : ℕ) (n : Mem T) : Type 0 where
    pub words : words_of n ≡ clear (words_of m) b
    pub values : value_at n ≡ put (value_at m) b None
    pub had : (x : At) → is_of b x ≡ false → has n x ≡ has m x

  left_words : (m n : Mem T) (b : ℕ) → ((k : ℕ) → block_of n k ≡ (if eqb k b then None else block_of m k))
      → n.roots ≡ m.roots → n.used ≡ m.used → n.slots ≡ m.slots → (x : At) → words_of n x ≡ clear (words_of m) b x
  left_words m n b at er eu es (Root r) = ap (λ l. or_zero (slice_get l r)) er
  left_words m n b at er eu es (Used r) = ap (λ l. or_zero (slice_get l r)) eu
  left_words m n b at er eu es (Slot s i) = ap (λ l. or_zero (slot_word l s i)) es
  left_words m n b at er eu es (Entry c i) = ap (λ o. or_zero (entry_in o i)) (at c) ∙ if_some (eqb c b) (λ o. or_zero (entry_in o i)) None (block_of m c)
  left_words m n b at er eu es (Word c i) = ap (λ o. or_zero (word_in o i)) (at c) ∙ if_some (eqb c b) (λ o. or_zero (word_in o i)) None (block_of m c)

  pub block_there : (m : Mem T) (b : ℕ) → IsSome (value_at m b) → (x : Block T) × (block_of m b ≡ Some x)
  block_there m b some = go (block_of m b) some
    where
      go : (o : Option (Block T)) → IsSome (value_in o) → (x : Block T) × (o ≡ Some x)
      go None h = absurd (cc h)
      go (Some x) h = (x, refl)

  pub taken_one : (m : Mem T) (b : ℕ) → IsSome (value_at m b) → Taken_one m b (with_block m b None)
  taken_one m b some =
      let n = with_block m b None in
      let x = block_there m b some in
      let at : (k : ℕ) → block_of n k ≡ (if eqb k b then None else block_of m k) = (λ k. block_of-with_block m b k x.0 None x.1) in
      record {
        words = fun_ext (left_words m n b at refl refl refl);
        values = fun_ext (λ k. ap value_in (at k) ∙ if_some (eqb k b) value_in None (block_of m k));
        had = other_has m n b None at refl refl refl;
      }
