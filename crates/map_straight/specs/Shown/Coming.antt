-- The pairs of a map that are still to come.
use Rattle.std.specs.Prelude.{◌≡◌, ◌≢◌, ◌≤◌, List}
use Rattle.seize_words.specs.OneMemory.Word.{block_in}
use Rattle.seize_words.specs.OneMemory.Mem.{value_at}
use Rattle.map_tables.specs.Chunks.{is_incremental}
use Rattle.map_straight.specs.Shown.Chain.{places_of, CanBeRead, pairs_left}
use Rattle.map_straight.specs.declared.pairs.Pairs.{Pairs}

-- the pairs that are still to come
abbrev pub pairs_to_come : {K V : Type 0} → Pairs K V → List (K × V)
pairs_to_come it = pairs_left it.tables.memory.now (is_incremental it.setting.mode) it.tables.count.0 it.tables.link it.place

-- it can go on: the tables that are left can be read
abbrev pub can_go_on : {K V : Type 0} → Pairs K V → Type 0
can_go_on it =
    CanBeRead it.tables.memory.now it.tables.count.0 it.tables.link
    × (it.tables.link ≢ 0 → it.len ≡ places_of (value_at it.tables.memory.now (block_in it.tables.link))) × (it.place ≤ it.len)
