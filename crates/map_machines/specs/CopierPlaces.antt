-- How a copying finds a place for a pair, in the next table or in one behind it.
use Rattle.std.specs.Prelude.{ℕ, ◌+◌, ◌-◌, ◌==◌, nat_lt, if◌then◌else◌, Ok, Err}
use Rattle.map_tables.specs.Given.SeizeWordsOp.{Out, Load, Exchange, Found, Exchanged}
use Rattle.map_tables.specs.Given.SeizeWordsPlan.{Plan, Then, Do, Now}
use Rattle.map_tables.specs.declared.node.Node.{Node}
use Rattle.map_tables.specs.declared.table.Table.{Table}
use Rattle.map_tables.specs.declared.probe.Probe.{Probe}
use Rattle.map_tables.specs.declared.marks.TheConstants.{BORROWED}
use Rattle.map_machines.specs.declared.yielding.Yielding.{Yielding}
use Rattle.map_machines.specs.declared.yielding.Yielding.TheVariants.{Goes}
use Rattle.map_machines.specs.declared.copier.Copier.{Copier}
use Rattle.map_machines.specs.declared.copier.Copying.TheVariants as at
use Rattle.map_tables.specs.Chunks.{is_incremental}
use Rattle.map_tables.specs.Marks.{unmarked_in}
use Rattle.map_tables.specs.Probes.{probe_after}
use Rattle.map_tables.specs.TablePlaces.{at_place}
use Rattle.map_machines.specs.CopierStates.{standing, place_done}

-- The word of a copied pair. In incremental mode it says that the pair stands in an older table, too.
abbrev pub copied_word : Copier → ℕ → ℕ
copied_word c word = if is_incremental c.setting.mode then unmarked_in word + BORROWED else unmarked_in word

-- The next try, up to the limit. Then a place is looked for in the table behind, or, in blocking mode, the copying into this table is given up.
abbrev pub next_try : Copier → ℕ → ℕ → Table → Probe → Copier
next_try c word hash table probe =
    if nat_lt probe.len table.limit then standing c (at.Probes word hash table (probe_after probe (table.len - 1))) else
    (if is_incremental c.setting.mode then standing c (at.Passes word hash table) else record c { place = 0; end = 0; done = 0; stands = at.Aborts })

-- a pair stands in its new place
abbrev pub pair_put : Copier → ℕ → Copier
pair_put c word = if is_incremental c.setting.mode then standing c (at.Covers word) else place_done c

module _ {K V : Type 0} where
  -- further steps are needed
  abbrev pub to : Copier → Then (Node K V) (Copier × Yielding (Node K V) Table)
  to c = Now (c, Goes)

  -- an empty place is to be taken
  abbrev pub place_read : Copier → ℕ → ℕ → Table → Probe → Out (Node K V) → Then (Node K V) (Copier × Yielding (Node K V) Table)
  place_read c word hash table probe (Found found) =
      if found == 0 then to (standing c (at.Puts word hash table probe)) else to (next_try c word hash table probe)
  place_read c word hash table probe _ = to c

  -- reads a place of the pair's key
  abbrev pub probes : Copier → ℕ → ℕ → Table → Probe → Plan (Node K V) (Copier × Yielding (Node K V) Table)
  probes c word hash table probe = Do (Load (at_place table probe.i)) (place_read c word hash table probe)

  -- the place is taken, unless another caller was faster
  abbrev pub after_put : Copier → ℕ → ℕ → Table → Probe → Out (Node K V) → Then (Node K V) (Copier × Yielding (Node K V) Table)
  after_put c word hash table probe (Exchanged (Ok found)) = to (pair_put c word)
  after_put c word hash table probe (Exchanged (Err found)) = to (next_try c word hash table probe)
  after_put c word hash table probe _ = to c

  -- puts the pair into an empty place
  abbrev pub puts : Copier → ℕ → ℕ → Table → Probe → Plan (Node K V) (Copier × Yielding (Node K V) Table)
  puts c word hash table probe = Do (Exchange (at_place table probe.i) 0 (copied_word c word)) (after_put c word hash table probe)
