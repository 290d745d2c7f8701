-- To what words lead: from a word of a slot, from one that a row has at hand, or from one of a block.
use Rattle.std.specs.Prelude.{◌≡◌, ◌<◌, ◌⊎◌, ℕ, List, [], ◌∷◌, Option, Some, IsSome}
use Rattle.seize_words.specs.OneMemory.Mem.{Mem, value_at, word_at}
use Rattle.seize_words.specs.OneMemory.Word.{block_in}
use Rattle.seize_words.specs.declared.at.At.{At}
use Rattle.seize_words.specs.declared.at.At.TheVariants.{Slot, Entry, Word}
use Rattle.seize.specs.declared.rows.settle.Settle.{Settle}
use Rattle.seize.specs.declared.rows.settle.Settling.{Settling}
use Rattle.seize.specs.declared.rows.settle.Settling.TheVariants as at
use Rattle.seize.specs.declared.rows.leave.Leaving.{Leaving}
use Rattle.seize.specs.declared.rows.leave.Leaving.TheVariants as leaving
use Rattle.seize.specs.World.{World, Row, Settles, Leaves, Defers, Handed, Event, Runs, at_start}

-- the name is of a word of this block
abbrev pub IsWordIn : ℕ → At → Type 0
IsWordIn b (Entry c field) = c ≡ b
IsWordIn b (Word c field) = c ≡ b
IsWordIn b _ = ⊥

-- the block that a settling is about to put into its batch, or the blocks that it is about to join to its list
abbrev pub in_work : Settling → ℕ
in_work (at.Firsts block) = block
in_work (at.Batches block) = block
in_work (at.Ends block) = block
in_work (at.Appends block) = block
in_work (at.Counts block) = block
in_work (at.Joins next more) = more
in_work _ = 0

-- the words that a row has at hand: of what it is to retire, of what it reclaims, of the list that it counts down, and of its batch
abbrev pub words_of_settling : Settle → List ℕ
words_of_settling c = in_work c.stands ∷ c.pending ∷ c.put_first ∷ c.reclaiming ∷ c.list ∷ c.first ∷ c.last ∷ []

abbrev pub words_of_leaving : Leaving → List ℕ
words_of_leaving (leaving.Settles settle) = words_of_settling settle
words_of_leaving _ = []

abbrev pub words_of_row : Row → List ℕ
words_of_row (Settles c) = words_of_settling c
words_of_row (Leaves c) = words_of_leaving c.stands
words_of_row (Defers s c) = c.block ∷ []
words_of_row _ = []

module _ {T : Type 0} where
  -- The word leads to the block by these words, of which each is one of the block that the word before it names.
  abbrev pub LeadsBy : Mem T → ℕ → List At → ℕ → Type 0
  LeadsBy m word [] b = (0 < b) × (block_in word ≡ b)
  LeadsBy m word (name ∷ names) b = IsWordIn (block_in word) name × ((next : ℕ) × (word_at m name ≡ Some next) × LeadsBy m next names b)

  abbrev pub LeadsTo : Mem T → ℕ → ℕ → Type 0
  LeadsTo m b word = (names : List At) × LeadsBy m word names b

  -- one of these words does
  abbrev pub OneLeadsTo : Mem T → ℕ → List ℕ → Type 0
  OneLeadsTo m b [] = ⊥
  OneLeadsTo m b (word ∷ words) = LeadsTo m b word ⊎ OneLeadsTo m b words

  -- a word of a slot does,
  abbrev pub IsOfASlot : Mem T → ℕ → Type 0
  IsOfASlot m b = (s field word : ℕ) × (word_at m (Slot s field) ≡ Some word) × LeadsTo m b word

  -- or one that a row has at hand,
  abbrev pub IsOfARow : World T → ℕ → Type 0
  IsOfARow w b = (i : ℕ) × OneLeadsTo w.memory b (words_of_row (w.row i))

  -- or one of a block that is there
  abbrev pub IsOfABlock : Mem T → ℕ → Type 0
  IsOfABlock m b = (t field word : ℕ) × IsSome (value_at m t) × (word_at m (Word t field) ≡ Some word) × LeadsTo m b word

  -- The promise: whatever happens, in whatever order the callers take their steps, words lead to each block that was handed over and is not reclaimed.
  abbrev pub HandedAreReached : (T → Option ℕ) → Type 0
  HandedAreReached defers =
      (batch_size roots : ℕ) (events : List (Event T)) (w : World T) → Runs defers batch_size events (at_start defers roots) w
      → (b : ℕ) → w.hand b ≡ Handed → IsOfASlot w.memory b ⊎ IsOfARow w b ⊎ IsOfABlock w.memory b
