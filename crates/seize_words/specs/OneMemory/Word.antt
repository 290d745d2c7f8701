-- A link as one word of 64 bits, and the parts of such a word.
use Rattle.std.specs.Prelude.{ℕ, ◌+◌, ◌*◌, ◌/◌, ◌%◌}

-- the word of a block's number, a byte and marks
abbrev pub link_word : ℕ → ℕ → ℕ → ℕ
link_word block byte marks = block * 2048 + byte * 8 + marks

-- the word that links to a block, with no byte and no marks
abbrev pub link_to : ℕ → ℕ
link_to block = block * 2048

-- the number of the block that a word links to, 0 for none
abbrev pub block_in : ℕ → ℕ
block_in word = word / 2048

abbrev pub byte_in : ℕ → ℕ
byte_in word = word / 8 % 256

abbrev pub marks_in : ℕ → ℕ
marks_in word = word % 8
