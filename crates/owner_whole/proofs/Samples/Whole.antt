-- The words on lists of pairs, and what answers tell by them, on cases worked by hand.
mod Swept
use Rattle.std.specs.Prelude.{◌≡◌, ℕ, List, [], ◌∷◌, Some, None, eqb}
use Rattle.std.proofs.Common.{refl, ap}
use Rattle.seize_words.specs.OneMemory.Mem.{Mem}
use Rattle.map_tables.specs.declared.node.Node.{Node}
use Rattle.papaya_raw.specs.declared.machines.answer.KeyAnswer.TheVariants as answers
use Rattle.map_measures.specs.Given.RuleChart.{Chart}
use Rattle.map_measures.specs.Given.RuleWords.{Blocks}
use Rattle.map_measures.specs.Given.CallersPairs.{Given}
use Rattle.owner_whole.specs.Whole.Contents.{pair_for, without, HasOneEach}
use Rattle.owner_whole.specs.Whole.AtEnd.{AnswersSo}

-- two pairs, stored one after the other
abbrev two : List (ℕ × ℕ)
two = (1, 10) ∷ (2, 20) ∷ []

-- each is found by its key, and no other
found : pair_for eqb 2 two ≡ Some (2, 20)
found = refl

missing : pair_for eqb 3 two ≡ None
missing = refl

-- one is taken away
one_less : without eqb 1 two ≡ (2, 20) ∷ []
one_less = refl

none_less : without eqb 3 two ≡ two
none_less = refl

-- they have one pair for each key; with one of them twice they would not
each_once : HasOneEach eqb two
each_once = (refl, (refl, tt))

abbrev twice : List (ℕ × ℕ)
twice = (1, 10) ∷ (1, 11) ∷ []

not_twice : HasOneEach eqb twice → ⊥
not_twice h = cc h.0

-- of a call on a key, where the map had the two
module _ (hash : ℕ → ℕ) (m0 : Mem (Node ℕ ℕ)) (blocks0 : Blocks) (m : Mem (Node ℕ ℕ)) (c : Chart ℕ) (seen : Blocks) (given : Given ℕ ℕ) where
  -- one that is there is not absent
  not_absent : AnswersSo eqb hash m0 blocks0 m c seen given 2 two two answers.Absent → ⊥
  not_absent h = cc h.1

  -- one that is not there is not removed
  not_removed : (ys : List (ℕ × ℕ)) (word : ℕ) → AnswersSo eqb hash m0 blocks0 m c seen given 3 two ys (answers.Removed word) → ⊥
  not_removed ys word h = cc h.1.3

  -- what is removed does not stay
  not_left : (word : ℕ) → AnswersSo eqb hash m0 blocks0 m c seen given 1 two two (answers.Removed word) → ⊥
  not_left word h = cc h.2

  -- one that is there is not stored beside it
  not_beside : (ys : List (ℕ × ℕ)) (word : ℕ) → AnswersSo eqb hash m0 blocks0 m c seen given 1 two ys (answers.Stored word) → ⊥
  not_beside ys word h = cc h.0

  -- what is found is what the list has
  the_one : (h : AnswersSo eqb hash m0 blocks0 m c seen given 2 two two (answers.Found 8)) → h.3 ≡ 20
  the_one h =
      let here = h.4 in
      let one : (h.2, h.3) ≡ (2, 20) = cc here in ap (λ (x : ℕ × ℕ). x.1) one
