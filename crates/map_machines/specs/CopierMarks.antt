-- How a copying marks a place, and what it does with the word that it finds there.
use Rattle.std.specs.Prelude.{ℕ, ◌-◌, ◌%◌, ◌==◌, ◌&&◌, Bool, true, not, if◌then◌else◌, bit_or}
use Rattle.map_tables.specs.Given.SeizeWordsWord.{block_in}
use Rattle.map_tables.specs.Given.SeizeWordsOp.{Out, Store, Or, Found}
use Rattle.map_tables.specs.Given.SeizeWordsPlan.{Plan, Then, Do, Now, Seeing}
use Rattle.map_tables.specs.declared.node.Node.{Node}
use Rattle.map_tables.specs.declared.node.Node.TheVariants.{Pair}
use Rattle.map_tables.specs.declared.table.Table.{Table}
use Rattle.map_tables.specs.declared.marks.TheConstants.{COPYING, COPIED}
use Rattle.map_machines.specs.declared.yielding.Yielding.{Yielding}
use Rattle.map_machines.specs.declared.yielding.Yielding.TheVariants.{Goes, Waits}
use Rattle.map_machines.specs.declared.copier.Copier.{Copier}
use Rattle.map_machines.specs.declared.copier.Copying.TheVariants as at
use Rattle.map_tables.specs.Chunks.{is_incremental}
use Rattle.map_tables.specs.Marks.{has_mark}
use Rattle.map_tables.specs.Probes.{probe_from}
use Rattle.map_tables.specs.TablePlaces.{at_place}
use Rattle.map_machines.specs.CopierStates.{standing, next_place, place_done}

-- A word is copied by this caller: in incremental mode by the one that marked it first, in blocking mode by each.
abbrev pub is_mine : Copier → ℕ → Bool
is_mine c word = if is_incremental c.setting.mode then not (has_mark word COPYING) else true

-- another caller is copying the pair, and the whole table is wanted
abbrev pub is_awaited : Copier → ℕ → Bool
is_awaited c word = c.whole && not (block_in word == 0) && not (has_mark word COPIED)

-- the word before it was marked
abbrev pub without_copying : ℕ → ℕ
without_copying word = word - word % 2

-- the pair of a word is to be put into a table, from the first place on that the hash of its key has there
abbrev pub probing : Copier → ℕ → ℕ → Table → Copier
probing c word hash table = standing c (at.Probes word hash table (probe_from hash (table.len - 1)))

module _ {K V : Type 0} where
  -- further steps are needed
  abbrev pub to : Copier → Then (Node K V) (Copier × Yielding (Node K V) Table)
  to c = Now (c, Goes)

  -- the hash of the key of a pair
  abbrev pub key_hash : (K → ℕ) → Node K V → ℕ
  key_hash hash (Pair key value) = hash key
  key_hash hash _ = 0

  -- an empty place or a tombstone is done once it is marked
  abbrev pub mine_marked : (K → ℕ) → Copier → ℕ → Then (Node K V) (Copier × Yielding (Node K V) Table)
  mine_marked hash c word =
      if block_in word == 0 then to (place_done c) else
      Seeing (block_in word) (λ value. to (probing c (without_copying word) (key_hash hash value) c.target))

  -- the place is marked: by this caller, or by another one before
  abbrev pub marked : (K → ℕ) → Copier → Out (Node K V) → Then (Node K V) (Copier × Yielding (Node K V) Table)
  marked hash c (Found word) =
      if is_mine c word then mine_marked hash c word else
      (if is_awaited c word then Now (c, Waits) else to (next_place c))
  marked hash c _ = to c

  -- marks a place
  abbrev pub marks : (K → ℕ) → Copier → Plan (Node K V) (Copier × Yielding (Node K V) Table)
  marks hash c = Do (Or (at_place c.source c.place) COPYING) (marked hash c)

  -- marks a place as copied: from now on its pair is looked for in later tables
  abbrev pub covers : Copier → ℕ → Plan (Node K V) (Copier × Yielding (Node K V) Table)
  covers c word = Do (Store (at_place c.source c.place) (bit_or (bit_or word COPYING) COPIED)) (λ out. to (place_done c))
