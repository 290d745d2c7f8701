-- Blocks that are in a memory, none of them named twice, are no more than it has; and a list of them is as long as it is when it is gone along.
use Rattle.std.specs.Prelude.{Option, Some, None, IsSome, ◌==◌, ◌/◌, ◌-◌, if◌then◌else◌}
use Rattle.std.proofs.Common.{◌≡◌, ℕ, zero, suc, ◌+◌, ◌*◌, ◌<◌, ◌≤◌, Bool, true, false, List, [], ◌∷◌, length, refl, ap, sym, subst, ◌∙◌, arith}
use Rattle.std.proofs.lemmas.List.{length-set}
use Rattle.many_maps.specs.Given.SeizeWordsDeclared.at.At.{At}
use Rattle.many_maps.specs.Given.SeizeWordsDeclared.at.At.TheVariants.{Root, Used, Slot, Entry, Word}
use Rattle.many_maps.specs.Given.SeizeWordsMem.{Mem, value_at, word_at, with_block, with_word}
use Rattle.many_maps.specs.Given.SeizeDeclared.states.TheConstants.{NEXT}
use Rattle.many_maps.specs.Given.SeizeAloneAlone.{number_of, blocks_in}
use Rattle.many_maps.specs.Given.SeizeFurther.{ListFrom}
use Rattle.many_maps.specs.Given.SeizeWorld.{times}
use Rattle.many_maps.proofs.Given.SeizeAloneSpared.Fewer.{take_fewer}
use Rattle.many_maps.proofs.Given.RuleWords.TablesSeen.{block_of_link}
use Rattle.owner_facts.specs.Alone.Counting.{number_in}
use Rattle.owner_facts.specs.Maps.MeasuresEnds.{list_len, most_blocks}
use Rattle.many_maps.proofs.Ends.CountedBlocks.{times_here, some_here, some_last}
use Rattle.many_maps.proofs.Ends.Memory.{taken_value}

-- no more are there than places for them
number_few : {X : Type 0} (l : List (Option X)) → number_of l ≤ length l
number_few [] = omega arith
number_few (None ∷ l) = let ih = number_few l in omega (arith, ih)
number_few (Some x ∷ l) = let ih = number_few l in omega (arith, ih)

pub blocks_few : {T : Type 0} (m : Mem T) → blocks_in m ≤ most_blocks m
blocks_few m = number_few m.blocks

-- the places for them stay
pub most_taken : {T : Type 0} (m : Mem T) (b : ℕ) → most_blocks (with_block m b None) ≡ most_blocks m
most_taken m b = length-set m.blocks (b - 1) None

pub most_written : {T : Type 0} (m : Mem T) (at : At) (word : ℕ) → most_blocks (with_word m at word) ≡ most_blocks m
most_written m (Root r) word = refl
most_written m (Used r) word = refl
most_written m (Slot s i) word = refl
most_written m (Entry b i) word = length-set m.blocks (b - 1) _
most_written m (Word b i) word = length-set m.blocks (b - 1) _

module _ {T : Type 0} where
  -- those of a list
  pub list_few : (m : Mem T) (l : List ℕ) → ((x : ℕ) → times x l ≤ 1) → ((x : ℕ) → 0 < times x l → IsSome (value_at m x)) → length l ≤ blocks_in m
  list_few m [] once there = omega arith
  list_few m (b ∷ l) once there =
      let fewer = take_fewer m b (there b (some_here b l)) in
      let rest = list_few (with_block m b None) l (λ x. later x) (λ x some. still x some) in
      omega (arith, fewer, rest)
    where
      later : (x : ℕ) → times x l ≤ 1
      later x = let a = once x in grind (arith, a)

      other : (x : ℕ) → 0 < times x l → x ≡ b → ⊥
      other x some is = let a = once b in let k = times_here b l in let s = subst (λ (y : ℕ). 0 < times y l) is some in omega (arith, a, k, s)

      still : (x : ℕ) → 0 < times x l → IsSome (value_at (with_block m b None) x)
      still x some = subst (λ (o : Option T). IsSome o) (sym (taken_value m b (there b (some_here b l)) x (other x some))) (there x (some_last x (b ∷ []) l some))

  -- those that are named by a range
  pub range_few : (m : Mem T) (block : ℕ → ℕ) (a n : ℕ) → ((u : ℕ) → a ≤ u → u < a + n → IsSome (value_at m (block u)))
      → ((u v : ℕ) → a ≤ u → u < a + n → a ≤ v → v < a + n → block u ≡ block v → u ≡ v) → n ≤ blocks_in m
  range_few m block a zero there apart = omega arith
  range_few m block a (suc n) there apart =
      let fewer = take_fewer m (block a) (there a (omega arith) (omega arith)) in
      let rest = range_few (with_block m (block a) None) block (suc a) n still
      (λ u v low high low2 high2 e. apart u v (omega (arith, low)) (omega (arith, high)) (omega (arith, low2)) (omega (arith, high2)) e) in
      omega (arith, fewer, rest)
    where
      still : (u : ℕ) → suc a ≤ u → u < suc a + n → IsSome (value_at (with_block m (block a) None) (block u))
      still u low high =
          subst (λ (o : Option T). IsSome o)
          (sym (taken_value m (block a) (there a (omega arith) (omega arith)) (block u)
          (λ e. let is = apart u a (omega (arith, low)) (omega (arith, high)) (omega arith) (omega arith) e in omega (arith, is, low))))
          (there u (omega (arith, low)) (omega (arith, high)))

module _ {T : Type 0} (m : Mem T) where
  -- no more are counted than are to be
  pub list_len_few : (word most : ℕ) → list_len m word most ≤ most
  list_len_few word zero = omega arith
  list_len_few word (suc most) = by (word == 0) (list_len_few (number_in (word_at m (Entry (word / 2048) NEXT))) most)
    where
      by : (none : Bool) → list_len m (number_in (word_at m (Entry (word / 2048) NEXT))) most ≤ most
          → (if none then 0 else suc (list_len m (number_in (word_at m (Entry (word / 2048) NEXT))) most)) ≤ suc most
      by true few = omega arith
      by false few = omega (arith, few)

  -- and where the list is no longer, all of it
  pub list_len_is : (most word : ℕ) (l : List ℕ) → ListFrom m word l → length l ≤ most → list_len m word most ≡ length l
  list_len_is zero word [] h few = refl
  list_len_is zero word (b ∷ l) h few = absurd (omega (arith, few))
  list_len_is (suc most) word [] h few =
      ap (λ (x : ℕ). if x == 0 then 0 else suc (list_len m (number_in (word_at m (Entry (x / 2048) NEXT))) most)) h
  list_len_is (suc most) word (b ∷ l) h few =
      ap (λ (none : Bool). if none then 0 else suc (list_len m (number_in (word_at m (Entry (word / 2048) NEXT))) most)) some
      ∙ ap (λ (x : ℕ). suc (list_len m x most)) behind ∙ ap suc (list_len_is most h.0 l h.4 (omega (arith, few)))
    where
      some : (word == 0) ≡ false
      some = let a = h.1 in let e = h.2 in not_zero word b a e
        where
          not_zero : (w b : ℕ) → 0 < b → w ≡ b * 2048 → (w == 0) ≡ false
          not_zero w b a e = grind (arith, a, e)

      behind : number_in (word_at m (Entry (word / 2048) NEXT)) ≡ h.0
      behind = ap (λ (x : ℕ). number_in (word_at m (Entry (x / 2048) NEXT))) h.2 ∙ ap (λ (x : ℕ). number_in (word_at m (Entry x NEXT))) (block_of_link b) ∙ ap number_in h.3
