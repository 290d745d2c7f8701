-- What a block was of ends, in worlds of two blocks: what it carries is left over with it, and nobody may be putting a block on its list.
use Rattle.std.specs.Prelude.{◌==◌, if◌then◌else◌, Option, Some, None}
use Rattle.std.proofs.Common.{◌≡◌, ℕ, zero, suc, [], ◌∷◌, refl, arith}
use Rattle.seize_moves.specs.Given.SeizeWordsDeclared.at.At.TheVariants.{Word}
use Rattle.seize_moves.specs.Given.SeizeWordsMem.{Mem}
use Rattle.seize_moves.specs.Given.SeizeDefer.{deferring}
use Rattle.seize_moves.specs.Given.SeizeFurther.{FurtherFrom}
use Rattle.seize_moves.specs.Given.SeizeLaw.{Linked, Ended, LeftOver}
use Rattle.seize_moves.specs.Given.SeizeWorld.{World, Hand, Cutting, Handed, LeftTo, Defers, LeavesOver, Happens, at_start}

-- a block of value 0 has a list, in its word 0
abbrev carries : ℕ → Option ℕ
carries zero = Some 0
carries (suc value) = None

-- block 1 carries block 2
abbrev two_blocks : Mem ℕ
two_blocks = record {
  roots = [];
  used = [];
  slots = [];
  blocks = Some record { value = 0; entry = 0 ∷ 0 ∷ 0 ∷ 0 ∷ []; words = 4096 ∷ [] } ∷ Some record { value = 9; entry = 0 ∷ 0 ∷ 0 ∷ 0 ∷ []; words = [] } ∷ [];
  choices = [];
}

-- caller 0 has unlinked block 1
abbrev unlinked : ℕ → Hand
unlinked b = if b == 1 then Cutting 0 else Handed

abbrev resting : World ℕ
resting = record (at_start carries 0) { memory = two_blocks; hand = unlinked; log = Ended 3 ∷ Linked 1 3 ∷ [] }

-- while caller 3 is putting a block on its list
abbrev putting : World ℕ
putting = record resting { row = λ i. if i == 3 then Defers 0 (deferring 4096 (Word 1 0)) else resting.row i }

-- both are left to caller 0
both_left :
    (n : World ℕ) × Happens carries 1 (LeavesOver 0 1 (2 ∷ [])) resting n × (n.hand 1 ≡ LeftTo 0) × (n.hand 2 ≡ LeftTo 0) × (n.log ≡ LeftOver 1 (2 ∷ []) ∷ resting.log)
both_left = (_, ((0, refl), refl, (λ j onto. onto), (0, refl, (4096, refl, (0, omega arith, refl, refl, refl))), refl), refl, refl, refl)

-- wrong: what it carries is not left over with it
one_left : (n : World ℕ) → Happens carries 1 (LeavesOver 0 1 []) resting n → ⊥
one_left n h = by h.3.0 h.3.1 h.3.2
  where
    by : (value : ℕ) → Some 0 ≡ Some value → FurtherFrom two_blocks 1 (carries value) [] → ⊥
    by zero is (word, is_word, none) = let a = is_word in let b = none in cc
    by (suc value) is none = cc is

-- wrong: it ends while a block is put on its list
left_while_put_on : (n : World ℕ) → Happens carries 1 (LeavesOver 0 1 (2 ∷ [])) putting n → ⊥
left_while_put_on n h = h.2 3 refl

-- wrong: its owner has not ended
left_early : (n : World ℕ) → Happens carries 1 (LeavesOver 0 1 (2 ∷ [])) (record resting { log = Ended 4 ∷ Linked 1 3 ∷ [] }) n → ⊥
left_early n h = let a = h.1 in cc
