-- The marks of a word.
use Rattle.std.specs.Prelude.{ℕ, ◌/◌, ◌*◌, ◌==◌, Bool, not, bit_and}
use Rattle.seize_words.specs.OneMemory.Word.{block_in, link_to}

-- the link to its block, with no byte and no mark
abbrev pub link_in : ℕ → ℕ
link_in word = link_to (block_in word)

-- the word with no mark
abbrev pub unmarked_in : ℕ → ℕ
unmarked_in word = word / 8 * 8

-- whether a mark is set, or one of several
abbrev pub has_mark : ℕ → ℕ → Bool
has_mark word mark = not (bit_and word mark == 0)
