-- Which pairs a memory has, and which have come, on cases worked by hand.
use Rattle.std.specs.Prelude.{◌≡◌, ℕ, ◌==◌, if◌then◌else◌, [], ◌∷◌, ◌++◌, None, Some}
use Rattle.std.proofs.Common.{Bool, true, false, refl, arith, ◌∙◌, sym, inl, inr}
use Rattle.std.proofs.lemmas.List.Sorted.{length_permutation}
use Rattle.seize_words.specs.OneMemory.Mem.{Mem, fresh, value_at, value_in}
use Rattle.seize.specs.declared.rows.settle.Settled.TheVariants as settled
use Rattle.map_tables.specs.declared.node.Node.{Node}
use Rattle.map_tables.specs.declared.node.Node.TheVariants as node
use Rattle.owner_calls.specs.Holds.Balances.{HasJust, Balances}
use Rattle.owner_calls.specs.Holds.Came.{NoneCame, HandsOut, StayInPlace}
use Rattle.owner_calls.specs.Holds.Held.{HoldsOn, held_in}
use Rattle.owner_whole.proofs.Given.FinishesEnds.Frames.{that_one as here}

-- a memory without blocks
abbrev bare : Mem (Node ℕ ℕ)
bare = record { roots = []; used = []; slots = []; blocks = []; choices = [] }

-- and one with one pair, in block 1
abbrev one : Mem (Node ℕ ℕ)
one = record { roots = []; used = []; slots = []; blocks = Some (fresh (node.Pair 3 30) 0) ∷ []; choices = [] }

-- the one does not have just no pair
not_none : HasJust one [] → ⊥
not_none ([], stand, each) = let k = each 1 (3, 30) refl in absurd (omega (arith, k))
not_none (b ∷ blocks, stand, each) = stand

-- A pair has come to it.
has_come : NoneCame bare one → ⊥
has_come none = let e = none 1 (3, 30) refl in cc e

-- A pair may not go without being told.
not_told : HandsOut one bare settled.Goes → ⊥
not_told hands = elim (hands 1 (3, 30) refl) as (λ _. ⊥) [
  | inl e ↦ cc e
  | inr e ↦ cc e
]

nothing : (b : ℕ) → value_at bare b ≡ None
nothing b = by (b == 0)
  where
    by : (t : Bool) → value_in {T = Node ℕ ℕ} (if t then None else None) ≡ None
    by true = refl
    by false = refl

-- nor does it stay where it is not
not_away : StayInPlace one bare ((3, 30) ∷ []) → ⊥
not_away ([], was, is) = was
not_away (b ∷ blocks, was, is) = let e = sym (nothing b) ∙ is.0 in cc e

-- with the same pair in two blocks
abbrev pub two : Mem (Node ℕ ℕ)
two = record { roots = []; used = []; slots = []; blocks = Some (fresh (node.Pair 3 30) 0) ∷ Some (fresh (node.Pair 3 30) 0) ∷ []; choices = [] }

-- A pair that was stored once does not stand there twice.
not_twice : Balances two [] ((3, 30) ∷ []) ((3, 30) ∷ []) → ⊥
not_twice (w ∷ waiting, given, just, same) = let e = length_permutation ((3, 30) ∷ []) (((3, 30) ∷ w ∷ waiting) ++ given) same in absurd (omega (arith, e))
not_twice ([], given, ([], stand, each), same) = stand
not_twice ([], given, (b ∷ [], stand, each), same) = let k = here 1 b (each 1 (3, 30) refl) in let l = here 2 b (each 2 (3, 30) refl) in absurd (omega (arith, k, l))
not_twice ([], given, (b ∷ c ∷ blocks, stand, each), same) = stand.2

-- A memory holds the pair of its block.
holds_one : held_in one ≡ (3, 30) ∷ []
unfolding held_in
holds_one = refl

-- A change may not give back what its map had,
not_given_back : HoldsOn {X = ℕ × ℕ} [] ((3, 30) ∷ []) ((3, 30) ∷ []) [] → ⊥
not_given_back (waiting, given, before, after) = absurd (let e = length_permutation [] (((3, 30) ∷ []) ++ waiting) after in omega (arith, e))

-- nor hold what was neither there nor stored.
not_of_nothing : HoldsOn {X = ℕ × ℕ} [] [] [] ((3, 30) ∷ []) → ⊥
not_of_nothing (w ∷ waiting, given, before, after) = absurd (let e = length_permutation [] ((w ∷ waiting) ++ given) before in omega (arith, e))
not_of_nothing ([], given, before, after) = absurd (let e = length_permutation ((3, 30) ∷ []) [] after in omega (arith, e))
