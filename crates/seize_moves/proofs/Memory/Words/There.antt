-- Which words are there: each live block's entry has its four, and its list's first word. And what a number without a block has.
use Rattle.std.specs.Prelude.{Option, Some, None, is_some, IsSome}
use Rattle.std.proofs.Common.{◌≡◌, ℕ, zero, suc, ◌<◌, ◌^◌, Bool, true, false, cond, eqb, refl, arith, subst, sym, ap, ◌∙◌, eqb-true}
use Rattle.seize.specs.Given.SeizeWordsDeclared.at.At.{At}
use Rattle.seize.specs.Given.SeizeWordsDeclared.at.At.TheVariants.{Entry, Word}
use Rattle.seize.specs.Given.SeizeWordsDeclared.block.Block.{Block}
use Rattle.seize.specs.Given.SeizeWordsMem.{Mem, block_of, value_in, word_in, value_at, word_at}
use Rattle.seize_moves.proofs.Moves.State.Ghost.{State}
use Rattle.seize_moves.proofs.Memory.Words.Named.{or_zero, words_of, has, Wrote, Made_one, Taken_one}
use Rattle.seize_moves.proofs.Memory.Words.View.{view, list_in}
use Rattle.seize_moves.proofs.Memory.Words.Shows.{Extra, Shows, lives}

pub some_of : {X : Type 0} (o : Option X) → is_some o ≡ true → IsSome o
some_of None h = absurd (cc h)
some_of (Some x) h = refl

module _ {T : Type 0} where
  -- there is no block 0
  pub live_pos : (m : Mem T) (b : ℕ) → is_some (value_at m b) ≡ true → 0 < b
  live_pos m zero h = absurd (cc h)
  live_pos m (suc b) h = omega arith

  no_block : (o : Option (Block T)) → value_in o ≡ None → o ≡ None
  no_block None h = refl
  no_block (Some x) h = absurd (cc h)

  -- a number without a block has no words
  pub free_word : (m : Mem T) (b d : ℕ) → value_at m b ≡ None → words_of m (Word b d) ≡ 0
  free_word m b d h = ap (λ o. or_zero (word_in o d)) (no_block (block_of m b) h)

-- the words of the blocks that live, and that there are so few numbers of blocks
pub record Stocked {T : Type 0} (defers : T → Option ℕ) (m : Mem T) : Type 0 where
  pub entries : (b i : ℕ) → is_some (value_at m b) ≡ true → i < 4 → has m (Entry b i) ≡ true
  pub lists : (b d : ℕ) → list_in defers (value_at m b) ≡ Some d → has m (Word b d) ≡ true
  pub few : (b : ℕ) → is_some (value_at m b) ≡ true → b < 2 ^ 53

module _ {T : Type 0} (defers : T → Option ℕ) where
  pub stocked_written : (m : Mem T) (at : At) (w : ℕ) (n : Mem T) → Wrote m at w n → Stocked defers m → Stocked defers n
  stocked_written m at w n h s = record {
    entries = λ b i k l. h.had (Entry b i) ∙ s.entries b i (subst (λ (v : ℕ → Option T). is_some (v b) ≡ true) h.values k) l;
    lists = λ b d k. h.had (Word b d) ∙ s.lists b d (subst (λ (v : ℕ → Option T). list_in defers (v b) ≡ Some d) h.values k);
    few = λ b k. s.few b (subst (λ (v : ℕ → Option T). is_some (v b) ≡ true) h.values k);
  }

  -- a block is made with the words that its value asks for
  pub stocked_made : (m : Mem T) (value : T) (k b : ℕ) (n : Mem T) → Made_one m value k b n → b < 2 ^ 53 → ((d : ℕ) → defers value ≡ Some d → d < k) → Stocked defers m
      → Stocked defers n
  stocked_made m value k b n h low enough s = record {
    entries = λ c i l lt. entry c i (eqb c b) refl (subst (λ (v : ℕ → Option T). is_some (v c) ≡ true) h.values l) lt;
    lists = λ c d l. list c d (eqb c b) refl (subst (λ (v : ℕ → Option T). list_in defers (v c) ≡ Some d) h.values l);
    few = λ c l. number c (eqb c b) refl (subst (λ (v : ℕ → Option T). is_some (v c) ≡ true) h.values l);
  }
    where
      number : (c : ℕ) (t : Bool) → eqb c b ≡ t → is_some (cond t (Some value) (value_at m c)) ≡ true → c < 2 ^ 53
      number c true e l = let is = eqb-true c b e in omega (arith, is, low)
      number c false e l = s.few c l

      entry : (c i : ℕ) (t : Bool) → eqb c b ≡ t → is_some (cond t (Some value) (value_at m c)) ≡ true → i < 4 → has n (Entry c i) ≡ true
      entry c i true e l lt = subst (λ (a : ℕ). has n (Entry a i) ≡ true) (sym (eqb-true c b e)) (h.entry i ∙ grind arith)
      entry c i false e l lt = h.had (Entry c i) e ∙ s.entries c i l lt

      list : (c d : ℕ) (t : Bool) → eqb c b ≡ t → list_in defers (cond t (Some value) (value_at m c)) ≡ Some d → has n (Word c d) ≡ true
      list c d true e l = let lt = enough d l in subst (λ (a : ℕ). has n (Word a d) ≡ true) (sym (eqb-true c b e)) (h.own d ∙ grind arith)
      list c d false e l = h.had (Word c d) e ∙ s.lists c d l

  pub stocked_taken : (m : Mem T) (b : ℕ) (n : Mem T) → Taken_one m b n → Stocked defers m → Stocked defers n
  stocked_taken m b n h s = record {
    entries = λ c i l lt. entry c i (eqb c b) refl (subst (λ (v : ℕ → Option T). is_some (v c) ≡ true) h.values l) lt;
    lists = λ c d l. list c d (eqb c b) refl (subst (λ (v : ℕ → Option T). list_in defers (v c) ≡ Some d) h.values l);
    few = λ c l. number c (eqb c b) (subst (λ (v : ℕ → Option T). is_some (v c) ≡ true) h.values l);
  }
    where
      number : (c : ℕ) (t : Bool) → is_some (cond t None (value_at m c)) ≡ true → c < 2 ^ 53
      number c true l = absurd (cc l)
      number c false l = s.few c l

      entry : (c i : ℕ) (t : Bool) → eqb c b ≡ t → is_some (cond t None (value_at m c)) ≡ true → i < 4 → has n (Entry c i) ≡ true
      entry c i true e l lt = absurd (cc l)
      entry c i false e l lt = h.had (Entry c i) e ∙ s.entries c i l lt

      list : (c d : ℕ) (t : Bool) → eqb c b ≡ t → list_in defers (cond t None (value_at m c)) ≡ Some d → has n (Word c d) ≡ true
      list c d true e l = absurd (cc l)
      list c d false e l = h.had (Word c d) e ∙ s.lists c d l

  module _ (count : ℕ) (m : Mem T) (st : State) (x : Extra) where
    pub life_live : (c : ℕ) → Shows count (view defers m) st x → lives (st.life c) ≡ true → is_some (value_at m c) ≡ true
    life_live c v h = v.lists.lived c ∙ h

    -- the words of a live block's entry are there
    pub entry_there : (c i : ℕ) → Stocked defers m → Shows count (view defers m) st x → lives (st.life c) ≡ true → i < 4 → IsSome (word_at m (Entry c i))
    entry_there c i s v h l = some_of (word_at m (Entry c i)) (s.entries c i (life_live c v h) l)

    -- and the word that its list begins with
    pub list_there : (t d : ℕ) → Stocked defers m → list_in defers (value_at m t) ≡ Some d → IsSome (word_at m (Word t d))
    list_there t d s h = some_of (word_at m (Word t d)) (s.lists t d h)

    -- a live block can be taken
    pub value_there : (c : ℕ) → Shows count (view defers m) st x → lives (st.life c) ≡ true → IsSome (value_at m c)
    value_there c v h = some_of (value_at m c) (life_live c v h)
