-- The tag of a word: what it bears beside the number of a block.
use Rattle.std.specs.Prelude.{ℕ, ◌+◌, ◌*◌, ◌/◌, ◌%◌}

-- its byte and its marks
abbrev pub tag_in : ℕ → ℕ
tag_in word = word % 2048

-- the same block and byte, with these marks, of which three bits count
abbrev pub with_marks : ℕ → ℕ → ℕ
with_marks word marks = word / 8 * 8 + marks % 8
