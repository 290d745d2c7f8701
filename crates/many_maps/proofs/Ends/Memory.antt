-- What a memory still has, once a block of it is taken away, or the link of one is written.
use Rattle.std.specs.Prelude.{Option, Some, None, IsSome, ◌≢◌, if◌then◌else◌}
use Rattle.std.proofs.Common.{◌≡◌, ℕ, ◌<◌, Bool, List, [], ◌∷◌, ◌++◌, refl, arith, ap, sym, subst, ◌∙◌, ◌⊎◌, inl, inr, eq-eqb}
use Rattle.std.proofs.lemmas.Bool.{ne_eqb}
use Rattle.many_calls.specs.Given.SeizeWordsDeclared.block.Block.{Block}
use Rattle.many_calls.specs.Given.SeizeWordsDeclared.at.At.TheVariants.{Entry, Word}
use Rattle.many_calls.specs.Given.SeizeWordsMem.{Mem, block_of, value_in, entry_in, word_in, value_at, word_at, with_word, with_block}
use Rattle.many_calls.proofs.Given.SeizeWordsOneOwner.AfterWrites.{block_of-with_block, word_at-with_word, value_at-with_word}
use Rattle.many_calls.specs.Given.SeizeDeclared.states.TheConstants.{NEXT}
use Rattle.many_calls.specs.Given.SeizeFurther.{ListFrom}
use Rattle.many_calls.specs.Given.SeizeWorld.{times}
use Rattle.many_calls.proofs.Given.SeizeMemoryWords.Named.{block_there}
use Rattle.many_maps.proofs.Ends.CountedBlocks.{times_here, times_other, some_last, some_here, some_of_first}
use Rattle.many_calls.proofs.Given.General.{some_is as is_some_of}

module _ {T : Type 0} (m : Mem T) (b : ℕ) (some : IsSome (value_at m b)) where
  abbrev left : Mem T
  left = with_block m b None

  block_other : (x : ℕ) → x ≢ b → block_of left x ≡ block_of m x
  block_other x ne = let h = block_there m b some in block_of-with_block m b x h.0 None h.1 ∙ ap (λ (t : Bool). if t then None else block_of m x) (ne_eqb x b ne)

  pub taken_value : (x : ℕ) → x ≢ b → value_at left x ≡ value_at m x
  taken_value x ne = ap value_in (block_other x ne)

  pub taken_word : (x i : ℕ) → x ≢ b → word_at left (Word x i) ≡ word_at m (Word x i)
  taken_word x i ne = ap (λ (o : Option (Block T)). word_in o i) (block_other x ne)

  pub taken_link : (x : ℕ) → x ≢ b → word_at left (Entry x NEXT) ≡ word_at m (Entry x NEXT)
  taken_link x ne = ap (λ (o : Option (Block T)). entry_in o NEXT) (block_other x ne)

  pub taken_gone : value_at left b ≡ None
  taken_gone = let h = block_there m b some in ap value_in (block_of-with_block m b b h.0 None h.1 ∙ ap (λ (t : Bool). if t then None else block_of m b) (eq-eqb b b refl))

-- the link of a block is written
module _ {T : Type 0} (m : Mem T) (b word : ℕ) (some : IsSome (word_at m (Entry b NEXT))) where
  abbrev linked : Mem T
  linked = with_word m (Entry b NEXT) word

  pub linked_value : (x : ℕ) → value_at linked x ≡ value_at m x
  linked_value x = value_at-with_word m (Entry b NEXT) word x some

  pub linked_word : (x i : ℕ) → word_at linked (Word x i) ≡ word_at m (Word x i)
  linked_word x i = word_at-with_word m (Entry b NEXT) word (Word x i) some

  pub linked_other : (x : ℕ) → x ≢ b → word_at linked (Entry x NEXT) ≡ word_at m (Entry x NEXT)
  linked_other x ne = word_at-with_word m (Entry b NEXT) word (Entry x NEXT) some ∙ (let k = ne_eqb x b ne in grind (arith, k))

  pub linked_here : word_at linked (Entry b NEXT) ≡ Some word
  linked_here = word_at-with_word m (Entry b NEXT) word (Entry b NEXT) some ∙ (let k = eq-eqb b b refl in grind (arith, k))

-- lists that stand in a memory
module _ {T : Type 0} (m : Mem T) where
  -- it stands in another one where its links are the same
  pub list_kept : (m2 : Mem T) (word : ℕ) (l : List ℕ) → ((x : ℕ) → 0 < times x l → word_at m2 (Entry x NEXT) ≡ word_at m (Entry x NEXT)) → ListFrom m word l → ListFrom m2 word l
  list_kept m2 word [] same h = h
  list_kept m2 word (b ∷ l) same h =
      (h.0, h.1, h.2, same b (some_here b l) ∙ h.3, list_kept m2 h.0 l (λ x some. same x (some_last x (b ∷ []) l some)) h.4)

  -- or lead where they led
  pub list_led : (m2 : Mem T) (word : ℕ) (l : List ℕ) → ((x : ℕ) → 0 < times x l → (next : ℕ) → word_at m (Entry x NEXT) ≡ Some next → word_at m2 (Entry x NEXT) ≡ Some next) → ListFrom m word l
      → ListFrom m2 word l
  list_led m2 word [] leads h = h
  list_led m2 word (b ∷ l) leads h =
      (h.0, h.1, h.2, leads b (some_here b l) h.0 h.3, list_led m2 h.0 l (λ x some. leads x (some_last x (b ∷ []) l some)) h.4)

  -- the links of those in it are there
  pub list_link : (word x : ℕ) (l : List ℕ) → ListFrom m word l → 0 < times x l → IsSome (word_at m (Entry x NEXT))
  list_link word x [] h some = absurd (omega (arith, some))
  list_link word x (b ∷ l) h some = by (some_of_first x b l some) (list_link h.0 x l h.4)
    where
      by : (x ≡ b) ⊎ (0 < times x l) → (0 < times x l → IsSome (word_at m (Entry x NEXT))) → IsSome (word_at m (Entry x NEXT))
      by (inl is) k = subst (λ (y : ℕ). IsSome (word_at m (Entry y NEXT))) (sym is) (is_some_of (word_at m (Entry b NEXT)) h.0 h.3)
      by (inr there) k = k there

  -- what follows one of its blocks
  pub list_after : (word p : ℕ) (before rest : List ℕ) → ListFrom m word (before ++ p ∷ rest) → (next : ℕ) × (word_at m (Entry p NEXT) ≡ Some next) × ListFrom m next rest
  list_after word p [] rest h = (h.0, h.3, h.4)
  list_after word p (b ∷ before) rest h = list_after h.0 p before rest h.4

  -- one list behind another
  pub list_joined : (word p next : ℕ) (before rest : List ℕ) → times p before ≡ 0 → times p rest ≡ 0 → IsSome (word_at m (Entry p NEXT)) → ListFrom m word (before ++ p ∷ [])
      → ListFrom m next rest → ListFrom (with_word m (Entry p NEXT) next) word (before ++ p ∷ rest)
  list_joined word p next [] rest none apart some h k = (
    next,
    h.1,
    h.2,
    linked_here m p next some,
    list_kept (with_word m (Entry p NEXT) next) next rest (λ x there. linked_other m p next some x (λ e. let z = subst (λ (y : ℕ). 0 < times y rest) e there in omega (arith, z, apart))) k,
  )
  list_joined word p next (b ∷ before) rest none apart some h k = (
    h.0,
    h.1,
    h.2,
    linked_other m p next some b (λ e. let z = subst (λ (y : ℕ). times y (b ∷ before) ≡ 0) (sym e) none in let q = times_here b before in omega (arith, z, q)) ∙ h.3,
    list_joined h.0 p next before rest (let q = times_other p b before (λ e. let z = subst (λ (y : ℕ). times y (b ∷ before) ≡ 0) e none in let q = times_here b before in omega (arith, z, q)) in omega (arith, q, none))
        apart some h.4 k,
  )
