-- A walk over the pairs of a map, and the removal of all or some of them: what each step's operation is, and what follows its answer.
use Rattle.std.specs.Prelude.{ℕ, ◌==◌, if◌then◌else◌, Ok, Err}
use Rattle.map_machines.specs.Given.SeizeWordsWord.{block_in}
use Rattle.map_machines.specs.Given.SeizeWordsDeclared.at.At.TheVariants.{Root}
use Rattle.map_machines.specs.Given.SeizeWordsOp.{Out, Load, Add, Exchange, Found, Exchanged}
use Rattle.map_machines.specs.Given.SeizeWordsPlan.{Plan, Then, Turn, Do, Now, Seeing, plan_as}
use Rattle.map_machines.specs.Given.SeizeDeclared.rows.settle.Settled.{Settled}
use Rattle.map_machines.specs.Given.SeizeDeclared.rows.settle.Settled.TheVariants as settling
use Rattle.map_machines.specs.Given.TablesDeclared.node.Node.{Node}
use Rattle.map_machines.specs.declared.yielding.Yielding.{Yielding}
use Rattle.map_machines.specs.declared.yielding.Yielding.TheVariants as outcome
use Rattle.map_machines.specs.Given.TablesDeclared.marks.TheConstants.{TOMBSTONE}
use Rattle.map_machines.specs.Given.TablesDeclared.table.Table.{Table}
use Rattle.map_machines.specs.Given.TablesDeclared.table_words.TheConstants.{NEXT}
use Rattle.map_machines.specs.declared.copier.Copier.{Copier}
use Rattle.map_machines.specs.declared.dispose.Dispose.{Dispose}
use Rattle.map_sweeps.specs.declared.sweep.Sweep.{Sweep}
use Rattle.map_sweeps.specs.declared.sweep.Sweeping.{Sweeping}
use Rattle.map_sweeps.specs.declared.sweep.Sweeping.TheVariants as at
use Rattle.map_sweeps.specs.declared.sweep.Swept.{Swept}
use Rattle.map_sweeps.specs.declared.sweep.Swept.TheVariants.{Goes, Waits, Gave}
use Rattle.map_machines.specs.Given.TablesCounts.{count_change, shard_of}
use Rattle.map_machines.specs.Copier.{copier_plan}
use Rattle.map_machines.specs.CopierStates.{copying_all}
use Rattle.map_machines.specs.Dispose.{disposing, dispose_plan}
use Rattle.map_machines.specs.Given.TablesNodes.{table_seen}
use Rattle.map_sweeps.specs.Sweeps.SweepPoints.{standing, beginning, tableless, entering, further, told, telling, going, seen}
use Rattle.map_machines.specs.Given.TablesTablePlaces.{at_word, at_place}

module _ {T : Type 0} where
  -- the word of the place is known
  abbrev pub word_found : Sweep → Out T → Then T (Sweep × Swept T)
  word_found c (Found word) = Now (seen c word)
  word_found c _ = Now (c, Goes)

  -- reads the word of its place
  abbrev pub words : Sweep → Plan T (Sweep × Swept T)
  words c = Do (Load (at_place c.table c.place)) (word_found c)

  -- the pair is removed, or another call was faster
  abbrev pub tried : Sweep → ℕ → Out T → Then T (Sweep × Swept T)
  tried c word (Exchanged (Ok found)) = Now (going c (at.Counts word))
  tried c word (Exchanged (Err found)) = Now (seen c found)
  tried c word _ = Now (c, Goes)

  -- removes the pair of a word
  abbrev pub tries : Sweep → ℕ → Plan T (Sweep × Swept T)
  tries c word = Do (Exchange (at_place c.table c.place) word TOMBSTONE) (tried c word)

  -- counts one pair less
  abbrev pub counts : Sweep → ℕ → Plan T (Sweep × Swept T)
  counts c removed =
      Do (Add (shard_of c.setting) (count_change removed)) (λ out. Now (going c (at.Disposes (disposing c.setting removed c.table))))

  -- a step of the disposal of the pair, as a step of its own
  abbrev pub disposed : Sweep → Dispose × Settled T → Sweep × Swept T
  disposed c (dispose, settling.Goes) = going c (at.Disposes dispose)
  disposed c (dispose, settling.Waits) = (standing c (at.Disposes dispose), Waits)
  disposed c (dispose, settling.Gave value) = (standing c (at.Disposes dispose), Gave value)
  disposed c (dispose, settling.Done) = telling (further c)

module _ {K V : Type 0} where
  -- the root is known, and looked at
  abbrev pub root_read : Sweep → Out (Node K V) → Then (Node K V) (Sweep × Swept (Node K V))
  root_read c (Found root) =
      if root == 0 then Now (telling (tableless c)) else
      Seeing (block_in root) (λ value. Now (telling (entering c (table_seen root value))))
  root_read c _ = Now (c, Goes)

  -- reads the root
  abbrev pub reads : Sweep → Plan (Node K V) (Sweep × Swept (Node K V))
  reads c = Do (Load (Root c.setting.root)) (root_read c)

  -- where a table follows, all pairs are copied into it first
  abbrev pub next_read : Sweep → Out (Node K V) → Then (Node K V) (Sweep × Swept (Node K V))
  next_read c (Found link) =
      if link == 0 then Now (telling (beginning c)) else
      Seeing (block_in link) (λ value. Now (going c (at.Copies (copying_all c.setting c.table (table_seen link value)))))
  next_read c _ = Now (c, Goes)

  -- reads which table follows
  abbrev pub follows : Sweep → Plan (Node K V) (Sweep × Swept (Node K V))
  follows c = Do (Load (at_word c.table NEXT)) (next_read c)

  -- a step of the copying, as a step of its own
  abbrev pub copied : Sweep → Copier × Yielding (Node K V) Table → Sweep × Swept (Node K V)
  copied c (copier, outcome.Goes) = going c (at.Copies copier)
  copied c (copier, outcome.Waits) = (standing c (at.Copies copier), Waits)
  copied c (copier, outcome.Gave value) = (standing c (at.Copies copier), Gave value)
  copied c (copier, outcome.Done root) = telling (entering c root)
  copied c (copier, outcome.Refused fault) = telling (standing c (at.Refused fault))

  -- each point
  abbrev pub plan_at : (K → ℕ) → Sweep → Sweeping → Plan (Node K V) (Sweep × Swept (Node K V))
  plan_at hash c at.Reads = reads c
  plan_at hash c at.Follows = follows c
  plan_at hash c (at.Copies copier) = plan_as (copied c) (copier_plan hash copier)
  plan_at hash c at.Words = words c
  plan_at hash c (at.Tries word) = tries c word
  plan_at hash c (at.Counts removed) = counts c removed
  plan_at hash c (at.Disposes dispose) = plan_as (disposed c) (dispose_plan dispose)
  plan_at hash c at.Ready = Turn (Now (c, told at.Ready))
  plan_at hash c (at.Asks word) = Turn (Now (c, told (at.Asks word)))
  plan_at hash c at.Over = Turn (Now (c, told at.Over))
  plan_at hash c (at.Refused fault) = Turn (Now (c, told (at.Refused fault)))

  -- what its next step does, where this function gives the hash of each key
  abbrev pub sweep_plan : (K → ℕ) → Sweep → Plan (Node K V) (Sweep × Swept (Node K V))
  sweep_plan hash c = plan_at hash c c.stands
