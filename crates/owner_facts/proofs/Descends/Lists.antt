-- What is known of a list that waits: it is as long as it was from one of its blocks on.
use Rattle.std.specs.Prelude.{◌++◌, IsSome, Option, Some, None}
use Rattle.std.proofs.Common.{◌≡◌, ℕ, ◌*◌, ◌<◌, ◌≤◌, List, [], ◌∷◌, length, refl, sym, subst, arith}
use Rattle.std.proofs.lemmas.List.{length-append}
use Rattle.many_maps.specs.Given.SeizeWordsMem.{Mem, block_of, value_in, entry_in}
use Rattle.many_maps.specs.Given.SeizeWordsDeclared.block.Block.{Block}
use Rattle.many_maps.specs.Given.SeizeFurther.{ListFrom}
use Rattle.many_maps.specs.Given.SeizeWorld.{times}
use Rattle.many_maps.specs.Given.SeizeDeclared.states.TheConstants.{NEXT as LINK}
use Rattle.many_maps.proofs.Ends.CountedBlocks.{some_here, some_last, times_here}
use Rattle.many_maps.proofs.Ends.Memory.{list_link}
use Rattle.owner_facts.specs.Maps.MeasuresEnds.{most_blocks, list_len}
use Rattle.owner_facts.proofs.Maps.Ends.BlocksFew.{blocks_few, list_few, list_len_is}
use Rattle.many_maps.proofs.Given.General.{some_is as is_some_of}

-- a block with an entry is there
pub entry_value : {T : Type 0} (o : Option (Block T)) (i : ℕ) → IsSome (entry_in o i) → IsSome (value_in o)
entry_value None i some = some
entry_value (Some x) i some = is_some_of (value_in (Some x)) x.value refl

module _ {T : Type 0} (m : Mem T) where
  -- a list from one of its blocks on
  pub list_on : (word b : ℕ) (before rest : List ℕ) → ListFrom m word (before ++ b ∷ rest) → ListFrom m (b * 2048) (b ∷ rest)
  list_on word b [] rest h = (h.0, h.1, refl, h.3, h.4)
  list_on word b (x ∷ before) rest h = list_on h.0 b before rest h.4

  -- is no longer than there are blocks, if none stands in it twice
  pub list_short : (word b : ℕ) (before rest : List ℕ) → ((x : ℕ) → times x (before ++ b ∷ rest) ≤ 1) → ListFrom m word (before ++ b ∷ rest) → length (b ∷ rest) ≤ most_blocks m
  list_short word b before rest once list =
      let few = list_few m (before ++ b ∷ rest) once (λ x on. entry_value (block_of m x) LINK (list_link m word x (before ++ b ∷ rest) list on)) in
      let long = length-append before (b ∷ rest) in let most = blocks_few m in omega (arith, few, long, most)

  -- so its length is read off the memory
  pub length_read : (word b : ℕ) (before rest : List ℕ) → ((x : ℕ) → times x (before ++ b ∷ rest) ≤ 1) → ListFrom m word (before ++ b ∷ rest)
      → list_len m (b * 2048) (most_blocks m) ≡ length (b ∷ rest)
  length_read word b before rest once list =
      list_len_is m (most_blocks m) (b * 2048) (b ∷ rest) (list_on word b before rest list) (list_short word b before rest once list)

-- a block that stands once in a list stands at one place
head_is : (x y : ℕ) (r s : List ℕ) → x ∷ r ≡ y ∷ s → (x ≡ y) × (r ≡ s)
head_is x y r s e = (cc e, cc e)

later_twice : (b : ℕ) (before rest r : List ℕ) → r ≡ before ++ b ∷ rest → times b (b ∷ r) ≤ 1 → ⊥
later_twice b before rest r is once =
    let some : 0 < times b r = subst (λ (l : List ℕ). 0 < times b l) (sym is) (some_last b before (b ∷ rest) (some_here b rest)) in
    let more = times_here b r in omega (arith, some, once, more)

pub rest_is : (b : ℕ) (before before2 rest rest2 : List ℕ) → before ++ b ∷ rest ≡ before2 ++ b ∷ rest2 → ((x : ℕ) → times x (before ++ b ∷ rest) ≤ 1)
    → ((x : ℕ) → times x (before2 ++ b ∷ rest2) ≤ 1) → rest ≡ rest2
rest_is b [] [] rest rest2 e once once2 = (head_is b b rest rest2 e).1
rest_is b [] (y ∷ before2) rest rest2 e once once2 =
    let h = head_is b y rest (before2 ++ b ∷ rest2) e in absurd (later_twice b before2 rest2 rest h.1 (once b))
rest_is b (x ∷ before) [] rest rest2 e once once2 =
    let h = head_is x b (before ++ b ∷ rest) rest2 e in absurd (later_twice b before rest rest2 (sym h.1) (once2 b))
rest_is b (x ∷ before) (y ∷ before2) rest rest2 e once once2 =
    let h = head_is x y (before ++ b ∷ rest) (before2 ++ b ∷ rest2) e in rest_is b before before2 rest rest2 h.1 (λ z. fewer z x (before ++ b ∷ rest) (once z)) (λ z. fewer z y (before2 ++ b ∷ rest2) (once2 z))
  where
    fewer : (z x : ℕ) (l : List ℕ) → times z (x ∷ l) ≤ 1 → times z l ≤ 1
    fewer z x l few = grind (arith, few)
