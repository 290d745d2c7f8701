-- Where the words of a memory lie: each root's on lines of their own, each slot's on one, bucket after bucket; and those of the blocks' entries. A line has 16
-- words, which are 128 bytes.
use Rattle.std.specs.Prelude.{◌≡◌, ℕ, zero, suc, ◌+◌, ◌*◌, ◌^◌, ◌<◌, ◌≤◌, ◌⊎◌, List, [], ◌∷◌, Some, None, length, slice_index}
use Rattle.seize_words.specs.OneMemory.Mem.{Mem}
use Rattle.seize_words.specs.declared.at.At.{At}
use Rattle.seize_words.specs.declared.block.Block.{Block}
use Rattle.seize_words.specs.declared.at.At.TheVariants.{Root, Used, Slot, Entry, Word}
use Rattle.seize_seats.specs.Seats.Cells.{Cell, block_in, blocks_in, cell_at}

-- the first word of each of so many lines, from a word on
abbrev pub column : ℕ → List ℕ → ℕ → List ℕ
column zero words from = []
column (suc lines) words from = slice_index words from ∷ column lines words (from + 16)

-- the words of so many slots, a line each, from a word on
abbrev pub slots_from : ℕ → List ℕ → ℕ → List (List ℕ)
slots_from zero words from = []
slots_from (suc slots) words from = (slice_index words from ∷ slice_index words (from + 1) ∷ []) ∷ slots_from slots words (from + 16)

-- how many words there are for so many roots: their links, whether each is in use, and the slots of the first bucket
abbrev pub long : ℕ → ℕ
long roots = (roots + roots + 32) * 16

-- how many with those of so many numbers of blocks: four of the entry, and one that says whether the number is free
abbrev pub whole : ℕ → ℕ → ℕ
whole roots count = long roots + count * 5

-- where the word of a name lies, if it is no block's
abbrev pub place_of : ℕ → At → ℕ
place_of roots (Root r) = r * 16
place_of roots (Used r) = (roots + r) * 16
place_of roots (Slot s field) = (roots + roots + s) * 16 + field
place_of roots (Entry b i) = 0
place_of roots (Word b i) = 0

-- there is such a word, once the slots have theirs, and a block of the number is there that has as many words: 33 buckets of slots have theirs at most
abbrev pub IsWord : ℕ → ℕ → At → Type 0
IsWord roots count (Root r) = r < roots
IsWord roots count (Used r) = r < roots
IsWord roots count (Slot s field) = (s + 32 < 2 ^ 38) × (field < 2)
IsWord roots count (Entry b i) = (0 < b) × (b ≤ count) × (i < 4)
IsWord roots count (Word b i) = (0 < b) × (b ≤ count)

-- it is no block's
abbrev pub IsNoBlocks : At → Type 0
IsNoBlocks (Entry b i) = ⊥
IsNoBlocks (Word b i) = ⊥
IsNoBlocks _ = Unit {0}

-- What a memory is made of: the words of roots and slots, how many slots have theirs, what lies under each number, and how many numbers were given so far.
pub record Parts (T : Type 0) : Type 0 where
  pub words : List ℕ
  pub slots : ℕ
  pub cells : List (Cell T)
  pub given : ℕ

abbrev pub memory_of : {T : Type 0} → ℕ → Parts T → Mem T
memory_of roots s = record {
  roots = column roots s.words 0;
  used = column roots s.words (roots * 16);
  slots = slots_from s.slots s.words ((roots + roots) * 16);
  blocks = blocks_in s.given s.cells;
  choices = [];
}

-- no slot has its words, which are 0, or so many have
abbrev pub AreSlots : ℕ → List ℕ → ℕ → Type 0
AreSlots roots ws slots =
    ((slots ≡ 0) × (length ws ≡ long roots) × ((k : ℕ) → (roots + roots) * 16 ≤ k → slice_index ws k ≡ 0))
    ⊎ ((length ws ≡ (roots + roots + slots) * 16) × (slots + 32 ≤ 2 ^ 38))

-- All words of roots are there, those of the slots of the first bucket, and no more numbers than so many. Either no slot has its words, and they are 0, or as
-- many have as there are words for. There is no block of a number that was not given.
pub record AreLaid {T : Type 0} (roots count : ℕ) (s : Parts T) : Type 0 where
  pub all : long roots ≤ length s.words
  pub slots_are : AreSlots roots s.words s.slots
  pub counted : length s.cells ≤ count
  pub within : s.given ≤ length s.cells
  pub rest : (k : ℕ) → s.given ≤ k → block_in (cell_at s.cells k) ≡ None
  pub fours : (k : ℕ) (x : Block T) → block_in (cell_at s.cells k) ≡ Some x → length x.entry ≡ 4
