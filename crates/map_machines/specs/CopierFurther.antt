-- How a copying comes to a further table, where a pair has no place in one.
use Rattle.std.specs.Prelude.{ℕ, ◌==◌, if◌then◌else◌}
use Rattle.map_tables.specs.Given.SeizeWordsWord.{block_in}
use Rattle.map_tables.specs.Given.SeizeWordsOp.{Out, Load, Store, Found}
use Rattle.map_tables.specs.Given.SeizeWordsPlan.{Plan, Then, Do, Now, Seeing, plan_as}
use Rattle.seize.specs.declared.advance.Advance.{Advance}
use Rattle.seize.specs.declared.advance.Advance.TheVariants as progress
use Rattle.map_tables.specs.declared.lengths.Reason.TheVariants.{NoPlace}
use Rattle.map_tables.specs.declared.node.Node.{Node}
use Rattle.map_tables.specs.declared.table.Table.{Table}
use Rattle.map_tables.specs.declared.table_words.TheConstants.{NEXT, STATUS}
use Rattle.map_tables.specs.declared.status.TheConstants.Status.{ABORTED}
use Rattle.map_machines.specs.declared.yielding.Yielding.{Yielding}
use Rattle.map_machines.specs.declared.yielding.Yielding.TheVariants.{Goes, Waits}
use Rattle.map_machines.specs.declared.new_table.NewTable.{NewTable}
use Rattle.map_machines.specs.declared.copier.Copier.{Copier}
use Rattle.map_machines.specs.declared.copier.Copying.TheVariants as at
use Rattle.map_machines.specs.NewTable.{table_after, new_table_plan}
use Rattle.map_tables.specs.Nodes.{table_seen}
use Rattle.map_tables.specs.TablePlaces.{at_word}
use Rattle.map_machines.specs.CopierStates.{standing}
use Rattle.map_machines.specs.CopierMarks.{probing}
use Rattle.map_machines.specs.CopierCounts.{refusing, given_up}

-- the copying begins anew into another table
abbrev pub anew : Copier → Table → Copier
anew c table = record c { target = table; stands = at.Asks }

module _ {K V : Type 0} where
  -- further steps are needed
  abbrev pub to : Copier → Then (Node K V) (Copier × Yielding (Node K V) Table)
  to c = Now (c, Goes)

  -- the pair's key has its places in the table behind, which is made where there is none
  abbrev pub further_read : Copier → ℕ → ℕ → Table → Out (Node K V) → Then (Node K V) (Copier × Yielding (Node K V) Table)
  further_read c word hash table (Found link) =
      if link == 0 then to (standing c (at.Grows word hash (table_after c.setting table NoPlace))) else
      Seeing (block_in link) (λ value. to (probing c word hash (table_seen link value)))
  further_read c word hash table _ = to c

  -- reads which table follows one that has no place for the pair
  abbrev pub passes : Copier → ℕ → ℕ → Table → Plan (Node K V) (Copier × Yielding (Node K V) Table)
  passes c word hash table = Do (Load (at_word table NEXT)) (further_read c word hash table)

  -- a step of the making of a table for the pair, as a step of its own
  abbrev pub grown : Copier → ℕ → ℕ → NewTable × Advance Table → Copier × Yielding (Node K V) Table
  grown c word hash (making, progress.Goes) = (standing c (at.Grows word hash making), Goes)
  grown c word hash (making, progress.Waits) = (standing c (at.Grows word hash making), Waits)
  grown c word hash (making, progress.Done table) = (probing c word hash table, Goes)
  grown c word hash (making, progress.Refused fault) = (refusing c word fault, Goes)

  -- makes a table for the pair
  abbrev pub grows : Copier → ℕ → ℕ → NewTable → Plan (Node K V) (Copier × Yielding (Node K V) Table)
  grows c word hash making = plan_as (grown c word hash) (new_table_plan making)

  -- says that a pair has no place in the table that is copied into
  abbrev pub aborts : Copier → Plan (Node K V) (Copier × Yielding (Node K V) Table)
  aborts c = Do (Store (at_word c.target STATUS) ABORTED) (λ out. to (standing c at.Replaces))

  -- the copying begins anew into the table behind, which is made where there is none
  abbrev pub replacement_read : Copier → Out (Node K V) → Then (Node K V) (Copier × Yielding (Node K V) Table)
  replacement_read c (Found link) =
      if link == 0 then to (standing c (at.Remakes (table_after c.setting c.target NoPlace))) else
      Seeing (block_in link) (λ value. to (anew c (table_seen link value)))
  replacement_read c _ = to c

  -- reads which table follows one that was aborted
  abbrev pub replaces : Copier → Plan (Node K V) (Copier × Yielding (Node K V) Table)
  replaces c = Do (Load (at_word c.target NEXT)) (replacement_read c)

  -- a step of the making of another table to copy into, as a step of its own
  abbrev pub remade : Copier → NewTable × Advance Table → Copier × Yielding (Node K V) Table
  remade c (making, progress.Goes) = (standing c (at.Remakes making), Goes)
  remade c (making, progress.Waits) = (standing c (at.Remakes making), Waits)
  remade c (making, progress.Done table) = (anew c table, Goes)
  remade c (making, progress.Refused fault) = (given_up c fault, Goes)

  -- makes another table to copy into
  abbrev pub remakes : Copier → NewTable → Plan (Node K V) (Copier × Yielding (Node K V) Table)
  remakes c making = plan_as (remade c) (new_table_plan making)
