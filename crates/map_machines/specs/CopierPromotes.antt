-- How the next table becomes the root, and how the old table and the aborted ones behind it are retired.
use Rattle.std.specs.Prelude.{ℕ, ◌==◌, if◌then◌else◌, Ok, Err}
use Rattle.map_tables.specs.Given.SeizeWordsWord.{block_in}
use Rattle.map_tables.specs.Given.SeizeWordsDeclared.at.At.TheVariants.{Root, Word}
use Rattle.map_tables.specs.Given.SeizeWordsOp.{Out, Load, Store, Exchange, Found, Exchanged}
use Rattle.map_tables.specs.Given.SeizeWordsPlan.{Plan, Then, Do, Now, plan_as}
use Rattle.seize.specs.declared.rows.settle.Settle.{Settle}
use Rattle.seize.specs.declared.rows.settle.Settled.{Settled}
use Rattle.seize.specs.declared.rows.settle.Settled.TheVariants as settled
use Rattle.seize.specs.Settle.{retiring, settle_plan}
use Rattle.map_tables.specs.declared.node.Node.{Node}
use Rattle.map_tables.specs.declared.table.Table.{Table}
use Rattle.map_tables.specs.declared.table_words.TheConstants.{NEXT, STATUS}
use Rattle.map_tables.specs.declared.status.TheConstants.Status.{PROMOTED}
use Rattle.map_machines.specs.declared.yielding.Yielding.{Yielding}
use Rattle.map_machines.specs.declared.yielding.Yielding.TheVariants.{Goes, Waits, Gave}
use Rattle.map_machines.specs.declared.copier.Copier.{Copier}
use Rattle.map_machines.specs.declared.copier.Copying.TheVariants as at
use Rattle.map_tables.specs.Nodes.{deferred_word}
use Rattle.map_tables.specs.TablePlaces.{at_word}
use Rattle.map_machines.specs.CopierStates.{standing, behind}

-- The table behind the one that is being retired, if that one is retired, too: it was aborted.
abbrev pub also_retired : Copier → ℕ → ℕ
also_retired c link = if block_in link == block_in c.target.link then 0 else link

-- a table is to be retired, and then those behind it
abbrev pub retiring_table : Copier → ℕ → ℕ → Copier
retiring_table c table rest = standing c (at.Retires (retiring c.setting.slot c.setting.batch_size table) rest)

-- a table was retired
abbrev pub table_retired : Copier → ℕ → Copier
table_retired c rest = if rest == 0 then standing c at.Over else standing c (at.Succeeds rest)

module _ {K V : Type 0} where
  -- further steps are needed
  abbrev pub to : Copier → Then (Node K V) (Copier × Yielding (Node K V) Table)
  to c = Now (c, Goes)

  -- the next table is the root
  abbrev pub promoted : Copier → Out (Node K V) → Then (Node K V) (Copier × Yielding (Node K V) Table)
  promoted c (Exchanged (Ok found)) = to (standing c at.Announces)
  promoted c (Exchanged (Err found)) = to (behind c)
  promoted c _ = to c

  -- makes the next table the root
  abbrev pub promotes : Copier → Plan (Node K V) (Copier × Yielding (Node K V) Table)
  promotes c = Do (Exchange (Root c.setting.root) c.source.link c.target.link) (promoted c)

  -- says so in its status: who waits goes on
  abbrev pub announces : Copier → Plan (Node K V) (Copier × Yielding (Node K V) Table)
  announces c = Do (Store (at_word c.target STATUS) PROMOTED) (λ out. to (standing c (at.Succeeds c.source.link)))

  -- what comes after a table that is retired is known before it is gone
  abbrev pub successor_read : Copier → ℕ → Out (Node K V) → Then (Node K V) (Copier × Yielding (Node K V) Table)
  successor_read c table (Found link) = to (retiring_table c table (also_retired c link))
  successor_read c table _ = to c

  -- reads which table comes after one that is to be retired
  abbrev pub succeeds : Copier → ℕ → Plan (Node K V) (Copier × Yielding (Node K V) Table)
  succeeds c table = Do (Load (Word (block_in table) NEXT)) (successor_read c table)

  -- a step of its retirement, as a step of its own
  abbrev pub retired : Copier → ℕ → Settle × Settled (Node K V) → Copier × Yielding (Node K V) Table
  retired c rest (settle, settled.Goes) = (standing c (at.Retires settle rest), Goes)
  retired c rest (settle, settled.Waits) = (standing c (at.Retires settle rest), Waits)
  retired c rest (settle, settled.Gave value) = (standing c (at.Retires settle rest), Gave value)
  retired c rest (settle, settled.Done) = (table_retired c rest, Goes)

  -- takes a step of the retirement of a table
  abbrev pub retires : Copier → Settle → ℕ → Plan (Node K V) (Copier × Yielding (Node K V) Table)
  retires c settle rest = plan_as (retired c rest) (settle_plan deferred_word settle)
