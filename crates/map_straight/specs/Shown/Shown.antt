-- What the words of a map show of its tables and pairs.
use Rattle.std.specs.Prelude.{◌≡◌, ◌≢◌, ℕ, suc, zero, ◌+◌, ◌^◌, ◌<◌, nat_lt, Bool, true, cond, List, [], ◌∷◌, ◌++◌, Option, Some, None, if◌then◌else◌}
use Rattle.std.specs.Cmp.{IsEquivalence}
use Rattle.seize_words.specs.OneMemory.Word.{link_to}
use Rattle.seize_words.specs.OneMemory.Mem.{Mem, value_at}
use Rattle.seize.specs.World.{times}
use Rattle.map_tables.specs.declared.node.Node.{Node}
use Rattle.map_tables.specs.declared.setting.Setting.{Setting}
use Rattle.map_tables.specs.declared.table.Table.{Table}
use Rattle.map_rule.specs.Chart.{Chart, Still, Copying, Copied, Place, Empty, Tombstone, Holds}
use Rattle.map_rule.specs.Words.{Blocks}
use Rattle.map_rule.specs.Maps.{IsMap}
use Rattle.map_straight.specs.Shown.Chain.{pair_of}

module _ {K : Type 0} (c : Chart K) (blocks : Blocks) where
  -- the table with this turn
  abbrev pub table_of : ℕ → Table
  table_of t = record { link = link_to (blocks.table t); len = c.len t; limit = c.limit t; turn = t }

  -- if there is one
  abbrev pub table_at : ℕ → Option Table
  table_at t = if nat_lt t c.past then Some (table_of t) else None

  -- so many tables, from this turn on
  abbrev pub tables_on : ℕ → ℕ → List Table
  tables_on t zero = []
  tables_on t (suc tables) = table_of t ∷ tables_on (suc t) tables

-- the pair of the map that stands at a place: in incremental mode, one that is marked is to stand in a later table
abbrev pub pair_there : Bool → Place → Option ℕ
pair_there incremental (Empty marked) = None
pair_there incremental (Tombstone marked) = None
pair_there incremental (Holds n Still borrowed) = Some n
pair_there incremental (Holds n Copying borrowed) = if incremental then None else Some n
pair_there incremental (Holds n Copied borrowed) = if incremental then None else Some n

-- the numbers of the pairs at the first places of a table, where the n-th pair of the map has the number n + 1
abbrev pub number_there : Option ℕ → List ℕ
number_there None = []
number_there (Some n) = suc n ∷ []

abbrev pub numbers_there : {K : Type 0} → Bool → Chart K → ℕ → ℕ → List ℕ
numbers_there incremental c t zero = []
numbers_there incremental c t (suc places) = numbers_there incremental c t places ++ number_there (pair_there incremental (c.place t places))

-- the numbers in so many tables from the root on
abbrev pub numbers_from : {K : Type 0} → Bool → Chart K → ℕ → List ℕ
numbers_from incremental c zero = []
numbers_from incremental c (suc tables) = numbers_from incremental c tables ++ numbers_there incremental c (c.first + tables) (c.len (c.first + tables))

-- where pairs move in incremental mode, none is on its way
abbrev pub NoneMoves : {K : Type 0} → Bool → Chart K → Type 0
NoneMoves incremental c = incremental ≡ true → (i n : ℕ) (borrowed : Bool) → c.place c.first i ≢ Holds n Copying borrowed

-- these are the numbers of the pairs of the map, each once
abbrev pub AreOfCurrent : {K : Type 0} → Chart K → List ℕ → Type 0
AreOfCurrent c numbers = (times 0 numbers ≡ 0) × ((n : ℕ) → times (suc n) numbers ≡ cond (c.current n) 1 0)

module _ {K V : Type 0} (eq : K → K → Bool) (hash : K → ℕ) where
  -- The map of this setting stands in the memory. Keys have classes, and their hashes 64 bits.
  pub record HasMap (memory : Mem (Node K V)) (setting : Setting) (c : Chart K) (blocks : Blocks) : Type 0 where
    pub map : IsMap eq hash setting.mode setting.root memory c blocks
    pub classes : IsEquivalence eq
    pub fits : (k : K) → hash k < 2 ^ 64

-- the pairs of the map with lower numbers than this, in the order in which they were stored
abbrev pub pairs_stored : {K V : Type 0} → Mem (Node K V) → Chart K → Blocks → ℕ → List (K × V)
pairs_stored m c blocks zero = []
pairs_stored m c blocks (suc n) = pairs_stored m c blocks n ++ cond (c.current n) (pair_of (value_at m (blocks.pair n))) []
