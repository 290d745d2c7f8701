-- A block as it lies in its piece: the place of its value, and those of its words.
use Rattle.std.specs.Prelude.{◌≡◌, ℕ, ◌≤◌, true, List, [], ◌∷◌, length, take, drop}
use native.Mathlib.Omega.{arith}
use denote.RawPtr.{Ptr}
use Rattle.core.specs.declared.slots.Slots.{Slots}
use Rattle.core.specs.Mem.Slots.{slots_filled, slots_ptr, slots_len, IsFull}
use Rattle.seize_words.specs.declared.block.Block.{Block}
use Rattle.seize_words.specs.declared.block.TheConstants.{ENTRY_WORDS}

-- the one of a list of one
abbrev pub only_of : {X : Type 0} (xs : List X) → length xs ≡ 1 → X
only_of [] one = absurd (omega (arith, one))
only_of (x ∷ xs) one = x

-- the block of a value and its words, those of the entry first
abbrev pub block_of : {T : Type 0} → T → List ℕ → Block T
block_of value words = record { value = value; entry = take ENTRY_WORDS words; words = drop ENTRY_WORDS words }

-- The place holds its value, each of the words' places holds one, and both lie where the piece has them.
pub record IsPiece {T : Type 0} (value : Slots T) (words : Slots ℕ) (at next : Ptr) (count : ℕ) : Type 0 where
  pub holds : slots_filled value ≡ true ∷ []
  pub full : IsFull words
  pub entry : ENTRY_WORDS ≤ slots_len words
  pub counted : count ≡ slots_len words
  pub begins : slots_ptr value ≡ at
  pub goes_on : slots_ptr words ≡ next
