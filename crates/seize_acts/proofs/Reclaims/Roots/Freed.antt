-- What is gone of a memory, and which roots are free, as blocks behind roots are taken away.
use Rattle.std.specs.Prelude.{Option, Some, None, IsSome, if◌then◌else◌, ◌==◌}
use Rattle.std.proofs.Common.{◌≡◌, ℕ, suc, ◌+◌, ◌<◌, Bool, true, false, List, [], ◌∷◌, ◌++◌, inl, inr, refl, arith, ap, sym, ◌∙◌, eq-eqb}
use Rattle.std.proofs.lemmas.Bool.{cases_eq, ne_eqb}
use Rattle.seize_words.specs.declared.at.At.TheVariants.{Root, Used, Entry}
use Rattle.seize_words.specs.declared.block.Block.{Block}
use Rattle.seize_words.specs.OneMemory.Mem.{Mem, value_at, value_in, entry_in, word_at, block_of, with_word, with_block}
use Rattle.seize_words.proofs.OneMemory.OneOwner.AfterWrites.{word_at-with_word, block_of-with_block}
use Rattle.seize.specs.declared.states.TheConstants.{NEXT}
use Rattle.seize.specs.World.{times}
use Rattle.seize_acts.specs.Reclaims.Roots.{Frees, freed}
use Rattle.seize_model.proofs.Given.SeizeMemoryWords.Named.{block_there}
use Rattle.seize_acts.proofs.Reclaims.Roots.Listed.{times_append}

module _ {T : Type 0} where
  -- a block with a word is there
  pub entry_some : (m : Mem T) (b next : ℕ) → word_at m (Entry b NEXT) ≡ Some next → IsSome (value_at m b)
  entry_some m b next e = by (block_of m b) e
    where
      by : (o : Option (Block T)) → entry_in o NEXT ≡ Some next → IsSome (value_in o)
      by None k = absurd (cc k)
      by (Some x) k = refl

module _ {T : Type 0} (lists : ℕ → List ℕ) (m m2 : Mem T) (back : List ℕ) where
  pub kept_value : (n u b : ℕ) → Frees lists n u m m2 back → times b back ≡ 0 → value_at m2 b ≡ value_at m b
  kept_value n u b f none = ap value_in (f.others b none)

  pub kept_next : (n u b : ℕ) → Frees lists n u m m2 back → times b back ≡ 0 → word_at m2 (Entry b NEXT) ≡ word_at m (Entry b NEXT)
  kept_next n u b f none = ap (λ (o : Option (Block T)). entry_in o NEXT) (f.others b none)

  pub frees_taken : (n u b : ℕ) → Frees lists n u m m2 back → IsSome (value_at m2 b) → Frees lists n u m (with_block m2 b None) (back ++ b ∷ [])
  frees_taken n u b f some = record {
    gone = λ c more. gone c more (c == b) refl (at c);
    others = λ c none. others c none (c == b) refl (at c);
    slots = f.slots;
    choices = f.choices;
    root = f.root;
    other_root = f.other_root;
    used = f.used;
    other_used = f.other_used;
  }
    where
      at : (c : ℕ) → block_of (with_block m2 b None) c ≡ (if c == b then None else block_of m2 c)
      at c = let x = block_there m2 b some in block_of-with_block m2 b c x.0 None x.1

      gone : (c : ℕ) → 0 < times c (back ++ b ∷ []) → (t : Bool) → (c == b) ≡ t → block_of (with_block m2 b None) c ≡ (if t then None else block_of m2 c) → block_of (with_block m2 b None) c ≡ None
      gone c more true e k = k
      gone c more false e k =
          let s = times_append c back (b ∷ []) in
          let here : times c (b ∷ []) ≡ 0 = ap (λ (t : Bool). (if t then 1 else 0) + 0) e in
          k ∙ f.gone c (omega (arith, more, s, here))

      others : (c : ℕ) → times c (back ++ b ∷ []) ≡ 0 → (t : Bool) → (c == b) ≡ t → block_of (with_block m2 b None) c ≡ (if t then None else block_of m2 c)
          → block_of (with_block m2 b None) c ≡ block_of m c
      others c none true e k =
          let s = times_append c back (b ∷ []) in
          let here : times c (b ∷ []) ≡ 1 = ap (λ (t : Bool). (if t then 1 else 0) + 0) e in
          absurd (omega (arith, none, s, here))
      others c none false e k = let s = times_append c back (b ∷ []) in k ∙ f.others c (omega (arith, none, s))

  -- a root that led to a list names nothing
  pub frees_named : (r first : ℕ) (rest : List ℕ) → Frees lists r r m m2 back → IsSome (word_at m2 (Root r)) → lists r ≡ first ∷ rest → Frees lists (suc r) r m (with_word m2 (Root r) 0) back
  frees_named r first rest f some list = record {
    gone = f.gone;
    others = f.others;
    slots = f.slots;
    choices = f.choices;
    root = λ s lt. (elim (cases_eq s r) as (λ _. word_at (with_word m2 (Root r) 0) (Root s) ≡ freed (lists s) (word_at m (Root s))) [
      | inl same ↦ at s ∙ ap (λ (t : Bool). if t then Some 0 else word_at m2 (Root s)) (eq-eqb s r same) ∙ sym (ap (λ (l : List ℕ). freed l (word_at m (Root s))) (ap lists same ∙ list))
      | inr other ↦ at s ∙ ap (λ (t : Bool). if t then Some 0 else word_at m2 (Root s)) (ne_eqb s r other) ∙ f.root s (omega (arith, lt, other))
    ]);
    other_root = λ s le. (let other : s ≡ r → ⊥ = (λ e. omega (arith, le, e)) in
        at s ∙ ap (λ (t : Bool). if t then Some 0 else word_at m2 (Root s)) (ne_eqb s r other) ∙ f.other_root s (omega (arith, le)));
    used = f.used;
    other_used = f.other_used;
  }
    where
      at : (s : ℕ) → word_at (with_word m2 (Root r) 0) (Root s) ≡ (if s == r then Some 0 else word_at m2 (Root s))
      at s = word_at-with_word m2 (Root r) 0 (Root s) some

  -- and then it is free
  pub frees_unused : (r first : ℕ) (rest : List ℕ) → Frees lists (suc r) r m m2 back → IsSome (word_at m2 (Used r)) → lists r ≡ first ∷ rest
      → Frees lists (suc r) (suc r) m (with_word m2 (Used r) 0) back
  frees_unused r first rest f some list = record {
    gone = f.gone;
    others = f.others;
    slots = f.slots;
    choices = f.choices;
    root = f.root;
    other_root = f.other_root;
    used = λ s lt. (elim (cases_eq s r) as (λ _. word_at (with_word m2 (Used r) 0) (Used s) ≡ freed (lists s) (word_at m (Used s))) [
      | inl same ↦ at s ∙ ap (λ (t : Bool). if t then Some 0 else word_at m2 (Used s)) (eq-eqb s r same) ∙ sym (ap (λ (l : List ℕ). freed l (word_at m (Used s))) (ap lists same ∙ list))
      | inr other ↦ at s ∙ ap (λ (t : Bool). if t then Some 0 else word_at m2 (Used s)) (ne_eqb s r other) ∙ f.used s (omega (arith, lt, other))
    ]);
    other_used = λ s le. (let other : s ≡ r → ⊥ = (λ e. omega (arith, le, e)) in
        at s ∙ ap (λ (t : Bool). if t then Some 0 else word_at m2 (Used s)) (ne_eqb s r other) ∙ f.other_used s (omega (arith, le)));
  }
    where
      at : (s : ℕ) → word_at (with_word m2 (Used r) 0) (Used s) ≡ (if s == r then Some 0 else word_at m2 (Used s))
      at s = word_at-with_word m2 (Used r) 0 (Used s) some

  -- a root that leads to no list is passed over
  pub frees_passed : (r : ℕ) → Frees lists r r m m2 back → lists r ≡ [] → Frees lists (suc r) (suc r) m m2 back
  frees_passed r f none = record {
    gone = f.gone;
    others = f.others;
    slots = f.slots;
    choices = f.choices;
    root = λ s lt. (elim (cases_eq s r) as (λ _. word_at m2 (Root s) ≡ freed (lists s) (word_at m (Root s))) [
      | inl same ↦ f.other_root s (omega (arith, same)) ∙ sym (ap (λ (l : List ℕ). freed l (word_at m (Root s))) (ap lists same ∙ none))
      | inr other ↦ f.root s (omega (arith, lt, other))
    ]);
    other_root = λ s le. f.other_root s (omega (arith, le));
    used = λ s lt. (elim (cases_eq s r) as (λ _. word_at m2 (Used s) ≡ freed (lists s) (word_at m (Used s))) [
      | inl same ↦ f.other_used s (omega (arith, same)) ∙ sym (ap (λ (l : List ℕ). freed l (word_at m (Used s))) (ap lists same ∙ none))
      | inr other ↦ f.used s (omega (arith, lt, other))
    ]);
    other_used = λ s le. f.other_used s (omega (arith, le));
  }
