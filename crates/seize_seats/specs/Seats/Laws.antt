-- What is promised of the places of words.
use Rattle.std.specs.Prelude.{◌≡◌, ℕ, ◌-◌, ◌<◌, Some, length, slice_index, slice_set}
use Rattle.seize_words.specs.OneMemory.Mem.{entry_in, word_at, with_word}
use Rattle.seize_words.specs.declared.at.At.{At}
use Rattle.seize_words.specs.declared.at.At.TheVariants.{Entry}
use Rattle.seize_seats.specs.Seats.Cells.{block_in, cell_at, noted_in}
use Rattle.seize_seats.specs.Seats.Lines.{Parts, place_of, memory_of, IsWord, IsNoBlocks, AreLaid}

module _ (T : Type 0) where
  -- a word of a root or of a slot lies at its place
  abbrev pub WordsLie : Type 0
  WordsLie =
      (roots count : ℕ) (s : Parts T) (at : At) (w : ℕ) → AreLaid roots count s → IsNoBlocks at → word_at (memory_of roots s) at ≡ Some w
      → IsWord roots count at × (place_of roots at < length s.words) × (slice_index s.words (place_of roots at) ≡ w)

  abbrev pub rewritten : ℕ → Parts T → At → ℕ → Parts T
  rewritten roots s at new = record { words = slice_set s.words (place_of roots at) new; slots = s.slots; cells = s.cells; given = s.given }

  -- another word at its place is another word of its name, and nothing else
  abbrev pub WordsAreApart : Type 0
  WordsAreApart =
      (roots count : ℕ) (s : Parts T) (at : At) (w new : ℕ) → AreLaid roots count s → IsNoBlocks at → word_at (memory_of roots s) at ≡ Some w
      → AreLaid roots count (rewritten roots s at new) × (memory_of roots (rewritten roots s at new) ≡ with_word (memory_of roots s) at new)

  -- a word of an entry lies in the cell of its number
  abbrev pub EntriesLie : Type 0
  EntriesLie =
      (roots count : ℕ) (s : Parts T) (b i w : ℕ) → AreLaid roots count s → word_at (memory_of roots s) (Entry b i) ≡ Some w
      → IsWord roots count (Entry b i) × (entry_in (block_in (cell_at s.cells (b - 1))) i ≡ Some w)

  abbrev pub noted : Parts T → ℕ → ℕ → ℕ → Parts T
  noted s b i new =
      record { words = s.words; slots = s.slots; cells = slice_set s.cells (b - 1) (noted_in (cell_at s.cells (b - 1)) i new); given = s.given }

  abbrev pub EntriesAreApart : Type 0
  EntriesAreApart =
      (roots count : ℕ) (s : Parts T) (b i new : ℕ) → AreLaid roots count s → 0 < b
      → AreLaid roots count (noted s b i new) × (memory_of roots (noted s b i new) ≡ with_word (memory_of roots s) (Entry b i) new)
