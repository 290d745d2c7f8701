-- The list of a block's further values, as the words of a memory show it.
use Rattle.std.specs.Prelude.{◌≡◌, ℕ, ◌<◌, List, [], ◌∷◌, Option, Some, None}
use Rattle.seize_words.specs.OneMemory.Word.{link_to}
use Rattle.seize_words.specs.declared.at.At.{At}
use Rattle.seize_words.specs.declared.at.At.TheVariants.{Entry, Word}
use Rattle.seize_words.specs.OneMemory.Mem.{Mem, value_at, word_at}
use Rattle.seize.specs.declared.states.TheConstants.{NEXT}

-- the word is one of this block
abbrev pub IsWordOf : ℕ → At → Type 0
IsWordOf b (Word c field) = b ≡ c
IsWordOf b _ = ⊥

module _ {T : Type 0} where
  -- the numbers of a list, from the word on that it begins with
  abbrev pub ListFrom : Mem T → ℕ → List ℕ → Type 0
  ListFrom m word [] = word ≡ 0
  ListFrom m word (b ∷ blocks) = (next : ℕ) × (0 < b) × (word ≡ link_to b) × (word_at m (Entry b NEXT) ≡ Some next) × ListFrom m next blocks

  -- the further values of a block whose list begins with this word of it
  abbrev pub FurtherFrom : Mem T → ℕ → Option ℕ → List ℕ → Type 0
  FurtherFrom m b None further = further ≡ []
  FurtherFrom m b (Some field) further = (word : ℕ) × (word_at m (Word b field) ≡ Some word) × ListFrom m word further

  -- the further values of a block that is there
  abbrev pub FurtherAre : (T → Option ℕ) → Mem T → ℕ → List ℕ → Type 0
  FurtherAre defers m b further = (value : T) × (value_at m b ≡ Some value) × FurtherFrom m b (defers value) further
