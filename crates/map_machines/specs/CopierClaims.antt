-- How a copying comes to a chunk: the tables are known, the status is read, and places are claimed.
use Rattle.std.specs.Prelude.{ℕ, ◌+◌, ◌-◌, ◌==◌, false, min, nat_lt, if◌then◌else◌}
use Rattle.map_tables.specs.Given.SeizeWordsWord.{block_in}
use Rattle.map_tables.specs.Given.SeizeWordsDeclared.at.At.TheVariants.{Root}
use Rattle.map_tables.specs.Given.SeizeWordsOp.{Out, Load, Add, Found}
use Rattle.map_tables.specs.Given.SeizeWordsPlan.{Plan, Then, Do, Now, Seeing}
use Rattle.map_tables.specs.declared.node.Node.{Node}
use Rattle.map_tables.specs.declared.table.Table.{Table}
use Rattle.map_tables.specs.declared.table_words.TheConstants.{NEXT, CLAIM, STATUS}
use Rattle.map_tables.specs.declared.status.TheConstants.Status.{ABORTED, PROMOTED}
use Rattle.map_machines.specs.declared.yielding.Yielding.{Yielding}
use Rattle.map_machines.specs.declared.yielding.Yielding.TheVariants.{Goes, Waits}
use Rattle.map_machines.specs.declared.copier.Copier.{Copier}
use Rattle.map_machines.specs.declared.copier.Copying.TheVariants as at
use Rattle.map_tables.specs.Chunks.{chunk_of}
use Rattle.map_tables.specs.Nodes.{table_seen}
use Rattle.map_tables.specs.TablePlaces.{at_word}
use Rattle.map_machines.specs.CopierStates.{standing, none_left}

-- the chunk of the table that is copied
abbrev pub chunk : Copier → ℕ
chunk c = chunk_of c.setting.mode c.source.len

-- the places from a claim on, as many as the chunk has, and no more than the table has
abbrev pub range_claimed : Copier → ℕ → Copier
range_claimed c claim = record c { place = claim; end = claim + min (chunk c) (c.source.len - claim); stands = at.Marks }

module _ {K V : Type 0} where
  -- further steps are needed
  abbrev pub to : Copier → Then (Node K V) (Copier × Yielding (Node K V) Table)
  to c = Now (c, Goes)

  -- the root is the table to be copied
  abbrev pub root_read : Copier → Out (Node K V) → Then (Node K V) (Copier × Yielding (Node K V) Table)
  root_read c (Found link) = Seeing (block_in link) (λ value. to (record c { source = table_seen link value; stands = at.Follows }))
  root_read c _ = to c

  -- reads the root
  abbrev pub begins : Copier → Plan (Node K V) (Copier × Yielding (Node K V) Table)
  begins c = Do (Load (Root c.setting.root)) (root_read c)

  -- where no table follows, there is nothing to copy
  abbrev pub next_read : Copier → Out (Node K V) → Then (Node K V) (Copier × Yielding (Node K V) Table)
  next_read c (Found link) =
      if link == 0 then to (standing c at.Over) else Seeing (block_in link) (λ value. to (record c { target = table_seen link value; stands = at.Sees }))
  next_read c _ = to c

  -- reads which table follows
  abbrev pub follows : Copier → Plan (Node K V) (Copier × Yielding (Node K V) Table)
  follows c = Do (Load (at_word c.source NEXT)) (next_read c)

  -- Once the table is promoted, the resize is over. An aborted one is replaced by the one behind it. Else what is left is
  -- claimed, or, where nothing is left, others are to end their part first.
  abbrev pub status_read : Copier → Out (Node K V) → Then (Node K V) (Copier × Yielding (Node K V) Table)
  status_read c (Found status) =
      if status == PROMOTED then to (standing c at.Over) else
      (if status == ABORTED then to (record c { spent = false; stands = at.Replaces }) else
      (if c.spent then Now (c, Waits) else to (standing c at.Sees)))
  status_read c _ = to c

  -- reads the status of the table that is copied into
  abbrev pub asks : Copier → Plan (Node K V) (Copier × Yielding (Node K V) Table)
  asks c = Do (Load (at_word c.target STATUS)) (status_read c)

  -- nothing is added to a claim that has come to the table's end
  abbrev pub claim_read : Copier → Out (Node K V) → Then (Node K V) (Copier × Yielding (Node K V) Table)
  claim_read c (Found claim) = if nat_lt claim c.source.len then to (standing c at.Claims) else to (none_left c)
  claim_read c _ = to c

  -- reads how many places are claimed
  abbrev pub sees : Copier → Plan (Node K V) (Copier × Yielding (Node K V) Table)
  sees c = Do (Load (at_word c.target CLAIM)) (claim_read c)

  -- the chunk begins at the claim that was found, if places are left there
  abbrev pub claimed : Copier → Out (Node K V) → Then (Node K V) (Copier × Yielding (Node K V) Table)
  claimed c (Found claim) = if nat_lt claim c.source.len then to (range_claimed c claim) else to (none_left c)
  claimed c _ = to c

  -- claims a chunk
  abbrev pub claims : Copier → Plan (Node K V) (Copier × Yielding (Node K V) Table)
  claims c = Do (Add (at_word c.target CLAIM) (chunk c)) (claimed c)
