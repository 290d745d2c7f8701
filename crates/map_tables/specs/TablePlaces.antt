-- Where a table's words stand.
use Rattle.std.specs.Prelude.{ℕ, ◌+◌, ◌%◌, ◌^◌}
use Rattle.seize_words.specs.OneMemory.Word.{block_in}
use Rattle.seize_words.specs.declared.at.At.{At}
use Rattle.seize_words.specs.declared.at.At.TheVariants.{Word}
use Rattle.map_tables.specs.declared.table.Table.{Table}
use Rattle.map_tables.specs.declared.table_words.TheConstants.{PLACES}

-- a word of the table that is no place
abbrev pub at_word : Table → ℕ → At
at_word table number = Word (block_in table.link) number

-- the word of a place
abbrev pub at_place : Table → ℕ → At
at_place table place = Word (block_in table.link) ((place + PLACES) % 2 ^ 64)
