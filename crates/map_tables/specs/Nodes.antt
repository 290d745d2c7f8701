-- What the values of blocks say.
use Rattle.std.specs.Prelude.{ℕ, ◌==◌, Bool, true, false, if◌then◌else◌, Option, Some, None}
use Rattle.map_tables.specs.declared.node.Node.{Node}
use Rattle.map_tables.specs.declared.node.Node.TheVariants as node
use Rattle.map_tables.specs.declared.table.Table.{Table}
use Rattle.map_tables.specs.declared.table_words.TheConstants.{DEFERRED}

module _ {K V : Type 0} where
  -- a table carries pairs, in a list whose head is this word of its block; one of no places carries none
  abbrev pub deferred_word : Node K V → Option ℕ
  deferred_word (node.Table len limit turn) = if len == 0 then None else Some DEFERRED
  deferred_word _ = None

  -- A root that names a pair leads to what a map has left that has ended. Where it names a table, the map is there.
  abbrev pub was_left : Node K V → Bool
  was_left (node.Pair key value) = true
  was_left _ = false

  -- the table of a link to a block with this value, and one of no places where it is of another kind
  abbrev pub table_seen : ℕ → Node K V → Table
  table_seen link (node.Table len limit turn) = record { link = link; len = len; limit = limit; turn = turn }
  table_seen link _ = record { link = link; len = 0; limit = 0; turn = 0 }

  -- a table of no places stands in a block whose pair is out
  abbrev pub vacant : Node K V
  vacant = node.Table 0 0 0
