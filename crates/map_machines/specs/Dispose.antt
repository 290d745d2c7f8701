-- What becomes of a pair that was taken out of its place: it is retired, or deferred by an older table.
use Rattle.std.specs.Prelude.{ℕ, ◌==◌, nat_lt, if◌then◌else◌}
use Rattle.map_tables.specs.Given.SeizeWordsWord.{block_in}
use Rattle.map_tables.specs.Given.SeizeWordsDeclared.at.At.TheVariants.{Root, Word}
use Rattle.map_tables.specs.Given.SeizeWordsOp.{Out, Load, Found}
use Rattle.map_tables.specs.Given.SeizeWordsPlan.{Plan, Then, Turn, Do, Now, Seeing, plan_as}
use Rattle.seize.specs.declared.advance.Advance.{Advance}
use Rattle.seize.specs.declared.advance.Advance.TheVariants as progress
use Rattle.seize.specs.declared.rows.defer.Defer.{Defer}
use Rattle.seize.specs.declared.rows.settle.Settle.{Settle}
use Rattle.seize.specs.declared.rows.settle.Settled.{Settled}
use Rattle.seize.specs.declared.rows.settle.Settled.TheVariants.{Goes, Waits, Gave, Done}
use Rattle.seize.specs.Defer.{deferring, defer_plan}
use Rattle.seize.specs.Settle.{retiring, settle_plan}
use Rattle.map_tables.specs.declared.setting.Setting.{Setting}
use Rattle.map_tables.specs.declared.node.Node.{Node}
use Rattle.map_tables.specs.declared.table.Table.{Table}
use Rattle.map_tables.specs.declared.table_words.TheConstants.{NEXT, DEFERRED}
use Rattle.map_tables.specs.declared.marks.TheConstants.{BORROWED}
use Rattle.map_tables.specs.declared.resize_mode.ResizeMode.{ResizeMode}
use Rattle.map_tables.specs.declared.resize_mode.ResizeMode.TheVariants.{Incremental, Blocking}
use Rattle.map_machines.specs.declared.dispose.Dispose.{Dispose}
use Rattle.map_machines.specs.declared.dispose.Disposing.{Disposing}
use Rattle.map_machines.specs.declared.dispose.Disposing.TheVariants as at
use Rattle.map_tables.specs.Marks.{link_in, has_mark}
use Rattle.map_tables.specs.Nodes.{deferred_word, table_seen}

-- the pair is retired
abbrev pub retires : Setting → ℕ → Disposing
retires setting pair = at.Settles (retiring setting.slot setting.batch_size pair)

-- a pair that stands in an older table, too, is retired only if that one can't be reached
abbrev pub start_of : Setting → ResizeMode → ℕ → Disposing
start_of setting (Incremental chunk) word = if has_mark word BORROWED then at.Reads else retires setting (link_in word)
start_of setting Blocking word = retires setting (link_in word)

-- a word was taken out of a table, and names a pair
abbrev pub disposing : Setting → ℕ → Table → Dispose
disposing setting word table = record { setting = setting; pair = link_in word; table = table; stands = start_of setting setting.mode word }

-- standing elsewhere
abbrev pub standing : Dispose → Disposing → Dispose
standing c stands = record c { stands = stands }

-- the pair is put in front of the list of a table
abbrev pub carrying : Dispose → ℕ → Disposing
carrying c table = at.Defers (deferring c.pair (Word (block_in table) DEFERRED))

module _ {T : Type 0} where
  -- further steps are needed
  abbrev pub goes : Dispose → Disposing → Then T (Dispose × Settled T)
  goes c stands = Now (standing c stands, Goes)

  -- a step of its retirement, as a step of its own
  abbrev pub settled : Dispose → Settle × Settled T → Dispose × Settled T
  settled c (settle, Goes) = (standing c (at.Settles settle), Goes)
  settled c (settle, Waits) = (standing c (at.Settles settle), Waits)
  settled c (settle, Gave value) = (standing c (at.Settles settle), Gave value)
  settled c (settle, Done) = (standing c at.Over, Done)

  -- a step of the putting, which nothing refuses, as a step of its own
  abbrev pub deferred : Dispose → Defer × Advance Unit → Dispose × Settled T
  deferred c (defer, progress.Goes) = (standing c (at.Defers defer), Goes)
  deferred c (defer, progress.Waits) = (standing c (at.Defers defer), Waits)
  deferred c (defer, progress.Done end) = (standing c at.Over, Done)
  deferred c (defer, progress.Refused fault) = (standing c at.Over, Done)

  -- the table before the pair's own carries the pair
  abbrev pub walked : Dispose → ℕ → Out T → Then T (Dispose × Settled T)
  walked c table (Found next) =
      if block_in next == block_in c.table.link then goes c (carrying c table) else goes c (at.Walks next)
  walked c table _ = Now (c, Goes)

  -- reads which table comes after one
  abbrev pub walks : Dispose → ℕ → Plan T (Dispose × Settled T)
  walks c table = Do (Load (Word (block_in table) NEXT)) (walked c table)

module _ {K V : Type 0} where
  -- an older root leads to the table before the pair's own
  abbrev pub compared : Dispose → ℕ → Table → Then (Node K V) (Dispose × Settled (Node K V))
  compared c root table = if nat_lt table.turn c.table.turn then goes c (at.Walks root) else goes c (retires c.setting c.pair)

  -- the root is known, and looked at
  abbrev pub root_read : Dispose → Out (Node K V) → Then (Node K V) (Dispose × Settled (Node K V))
  root_read c (Found root) = Seeing (block_in root) (λ value. compared c root (table_seen root value))
  root_read c _ = Now (c, Goes)

  -- reads the root
  abbrev pub reads : Dispose → Plan (Node K V) (Dispose × Settled (Node K V))
  reads c = Do (Load (Root c.setting.root)) (root_read c)

  -- each point
  abbrev pub plan_at : Dispose → Disposing → Plan (Node K V) (Dispose × Settled (Node K V))
  plan_at c (at.Settles settle) = plan_as (settled c) (settle_plan deferred_word settle)
  plan_at c at.Reads = reads c
  plan_at c (at.Walks table) = walks c table
  plan_at c (at.Defers defer) = plan_as (deferred c) (defer_plan defer)
  plan_at c at.Over = Turn (Now (c, Done))

  -- what its next step does
  abbrev pub dispose_plan : Dispose → Plan (Node K V) (Dispose × Settled (Node K V))
  dispose_plan c = plan_at c c.stands
