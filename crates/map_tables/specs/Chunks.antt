-- How many places are claimed for copying at once.
use Rattle.std.specs.Prelude.{ℕ, min, Bool, true, false}
use Rattle.map_tables.specs.declared.resize_mode.ResizeMode.{ResizeMode}
use Rattle.map_tables.specs.declared.resize_mode.ResizeMode.TheVariants.{Incremental, Blocking}

-- the chunk in a table of this length
abbrev pub chunk_of : ResizeMode → ℕ → ℕ
chunk_of (Incremental chunk) len = min chunk len
chunk_of Blocking len = min len 4096

-- whether a map comes to its next table in incremental mode
abbrev pub is_incremental : ResizeMode → Bool
is_incremental (Incremental chunk) = true
is_incremental Blocking = false
