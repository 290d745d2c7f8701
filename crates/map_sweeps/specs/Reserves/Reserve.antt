-- How room is made for further pairs: until the root is long enough, it is copied into the table that follows it.
use Rattle.std.specs.Prelude.{ℕ, ◌+◌, ◌-◌, ◌^◌, ◌==◌, nat_lt, if◌then◌else◌, Result, Ok, Err}
use Rattle.map_machines.specs.Given.SeizeWordsWord.{block_in}
use Rattle.map_machines.specs.Given.SeizeWordsDeclared.at.At.TheVariants.{Root, Word}
use Rattle.map_machines.specs.Given.SeizeWordsDeclared.fault.Fault.{Fault}
use Rattle.map_machines.specs.Given.SeizeWordsDeclared.fault.Fault.TheVariants.{Capacity}
use Rattle.map_machines.specs.Given.SeizeWordsOp.{Out, Load, Found}
use Rattle.map_machines.specs.Given.SeizeWordsPlan.{Plan, Then, Turn, Do, Now, Seeing, plan_as}
use Rattle.map_machines.specs.Given.SeizeDeclared.advance.Advance.{Advance}
use Rattle.map_machines.specs.Given.SeizeDeclared.advance.Advance.TheVariants as progress
use Rattle.map_machines.specs.Given.TablesDeclared.setting.Setting.{Setting}
use Rattle.map_machines.specs.Given.TablesDeclared.node.Node.{Node}
use Rattle.map_machines.specs.declared.yielding.Yielding.{Yielding}
use Rattle.map_machines.specs.declared.yielding.Yielding.TheVariants.{Goes, Waits, Gave, Done, Refused}
use Rattle.map_machines.specs.Given.TablesDeclared.table.Table.{Table}
use Rattle.map_machines.specs.Given.TablesDeclared.table_words.TheConstants.{NEXT}
use Rattle.map_machines.specs.declared.sum.Sum.{Sum}
use Rattle.map_machines.specs.declared.new_table.NewTable.{NewTable}
use Rattle.map_machines.specs.declared.copier.Copier.{Copier}
use Rattle.map_sweeps.specs.declared.reserve.Reserve.{Reserve}
use Rattle.map_sweeps.specs.declared.reserve.Reserving.{Reserving}
use Rattle.map_sweeps.specs.declared.reserve.Reserving.TheVariants as at
use Rattle.map_machines.specs.Copier.{copier_plan}
use Rattle.map_machines.specs.CopierStates.{copying_all}
use Rattle.map_machines.specs.Given.TablesLengths.{len_of}
use Rattle.map_machines.specs.NewTable.{first_table, table_reserved, new_table_plan}
use Rattle.map_machines.specs.Given.TablesNodes.{table_seen}
use Rattle.map_machines.specs.Sum.{summing, sum_plan}

-- a reservation that begins
abbrev pub reserving : Setting → ℕ → Reserve
reserving setting additional = record { setting = setting; additional = additional; stands = at.Reads }

-- a length, and one that no table has where it can't be had
abbrev pub or_too_long : Result ℕ Fault → ℕ
or_too_long (Ok len) = len
or_too_long (Err fault) = 2 ^ 64 - 1

-- how many places so many further pairs need beside those that are there
abbrev pub needed : ℕ → ℕ → ℕ
needed additional count = or_too_long (len_of (count + additional))

-- standing elsewhere
abbrev pub standing : Reserve → Reserving → Reserve
standing c stands = record c { stands = stands }

-- this table is the root: it is compared with what the count says
abbrev pub counting : Reserve → Table → Reserve
counting c table = standing c (at.Sums table (summing c.setting))

-- the root is copied into the table that follows it
abbrev pub copying : Reserve → Table → Table → Reserve
copying c table next = standing c (at.Copies (copying_all c.setting table next))

module _ {T : Type 0} where
  -- it ends with a fault
  abbrev pub refusing : Reserve → Fault → Reserve × Yielding T Unit
  refusing c fault = (standing c (at.Refused fault), Refused fault)

  -- it is refused at once where no table has so many places, and ends where the root is long enough
  abbrev pub enough : Reserve → Table → ℕ → Reserve × Yielding T Unit
  enough c table need =
      if nat_lt (2 ^ 48) need then refusing c Capacity else
      (if nat_lt table.len need then (standing c (at.Follows table need), Goes) else (standing c at.Over, Done tt))

  -- a step of the counting, as a step of its own
  abbrev pub summed : Reserve → Table → Sum × Advance ℕ → Reserve × Yielding T Unit
  summed c table (sum, progress.Goes) = (standing c (at.Sums table sum), Goes)
  summed c table (sum, progress.Waits) = (standing c (at.Sums table sum), Waits)
  summed c table (sum, progress.Done count) = enough c table (needed c.additional count)
  summed c table (sum, progress.Refused fault) = refusing c fault

module _ {K V : Type 0} where
  -- a step of the making of a first table, as a step of its own
  abbrev pub made : Reserve → NewTable × Advance Table → Reserve × Yielding (Node K V) Unit
  made c (making, progress.Goes) = (standing c (at.Makes making), Goes)
  made c (making, progress.Waits) = (standing c (at.Makes making), Waits)
  made c (making, progress.Done table) = (counting c table, Goes)
  made c (making, progress.Refused fault) = refusing c fault

  -- a step of the making of a table behind the root, as a step of its own
  abbrev pub grown : Reserve → Table → NewTable × Advance Table → Reserve × Yielding (Node K V) Unit
  grown c table (making, progress.Goes) = (standing c (at.Grows table making), Goes)
  grown c table (making, progress.Waits) = (standing c (at.Grows table making), Waits)
  grown c table (making, progress.Done next) = (copying c table next, Goes)
  grown c table (making, progress.Refused fault) = refusing c fault

  -- a step of the copying, as a step of its own
  abbrev pub copied : Reserve → Copier × Yielding (Node K V) Table → Reserve × Yielding (Node K V) Unit
  copied c (copier, Goes) = (standing c (at.Copies copier), Goes)
  copied c (copier, Waits) = (standing c (at.Copies copier), Waits)
  copied c (copier, Gave value) = (standing c (at.Copies copier), Gave value)
  copied c (copier, Done root) = (counting c root, Goes)
  copied c (copier, Refused fault) = refusing c fault

  -- a map with no table is to have one, and the table at the root is looked at
  abbrev pub root_read : Reserve → Out (Node K V) → Then (Node K V) (Reserve × Yielding (Node K V) Unit)
  root_read c (Found root) =
      if root == 0 then Now (standing c (at.Makes (first_table c.setting (needed c.additional 0))), Goes) else
      Seeing (block_in root) (λ value. Now (counting c (table_seen root value), Goes))
  root_read c _ = Now (c, Goes)

  -- reads the root
  abbrev pub reads : Reserve → Plan (Node K V) (Reserve × Yielding (Node K V) Unit)
  reads c = Do (Load (Root c.setting.root)) (root_read c)

  -- the table behind the root is looked at, or made where there is none
  abbrev pub next_read : Reserve → Table → ℕ → Out (Node K V) → Then (Node K V) (Reserve × Yielding (Node K V) Unit)
  next_read c table need (Found link) =
      if link == 0 then Now (standing c (at.Grows table (table_reserved c.setting table need)), Goes) else
      Seeing (block_in link) (λ value. Now (copying c table (table_seen link value), Goes))
  next_read c table need _ = Now (c, Goes)

  -- reads which table follows the root
  abbrev pub follows : Reserve → Table → ℕ → Plan (Node K V) (Reserve × Yielding (Node K V) Unit)
  follows c table need = Do (Load (Word (block_in table.link) NEXT)) (next_read c table need)

  -- each point
  abbrev pub plan_at : (K → ℕ) → Reserve → Reserving → Plan (Node K V) (Reserve × Yielding (Node K V) Unit)
  plan_at hash c at.Reads = reads c
  plan_at hash c (at.Makes making) = plan_as (made c) (new_table_plan making)
  plan_at hash c (at.Sums table sum) = plan_as (summed c table) (sum_plan sum)
  plan_at hash c (at.Follows table need) = follows c table need
  plan_at hash c (at.Grows table making) = plan_as (grown c table) (new_table_plan making)
  plan_at hash c (at.Copies copier) = plan_as (copied c) (copier_plan hash copier)
  plan_at hash c at.Over = Turn (Now (c, Done tt))
  plan_at hash c (at.Refused fault) = Turn (Now (c, Refused fault))

  -- what its next step does, where this function gives the hash of each key
  abbrev pub reserve_plan : (K → ℕ) → Reserve → Plan (Node K V) (Reserve × Yielding (Node K V) Unit)
  reserve_plan hash c = plan_at hash c c.stands
