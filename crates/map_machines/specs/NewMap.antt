-- How a map begins: with a root, a counter, and a table where it is to have one.
use Rattle.std.specs.Prelude.{ℕ, ◌+◌, ◌-◌, ◌%◌, ◌^◌, ◌==◌, nat_lt, if◌then◌else◌, Ok, Err}
use Rattle.map_tables.specs.Given.SeizeWordsDeclared.at.At.TheVariants.{Used}
use Rattle.map_tables.specs.Given.SeizeWordsDeclared.fault.Fault.{Fault}
use Rattle.map_tables.specs.Given.SeizeWordsDeclared.fault.Fault.TheVariants.{RootsUsedUp, Memory}
use Rattle.map_tables.specs.Given.SeizeWordsOp.{Out, Store, Exchange, Make, Take, Exchanged, Made}
use Rattle.map_tables.specs.Given.SeizeWordsPlan.{Plan, Then, Turn, Do, Now, plan_as}
use Rattle.seize.specs.declared.advance.Advance.{Advance}
use Rattle.seize.specs.declared.advance.Advance.TheVariants.{Goes, Waits, Done, Refused}
use Rattle.map_tables.specs.declared.setting.Setting.{Setting}
use Rattle.map_tables.specs.declared.node.Node.{Node}
use Rattle.map_tables.specs.declared.node.Node.TheVariants as node
use Rattle.map_tables.specs.declared.table.Table.{Table}
use Rattle.map_machines.specs.declared.new_table.NewTable.{NewTable}
use Rattle.map_machines.specs.declared.new_map.NewMap.{NewMap}
use Rattle.map_machines.specs.declared.new_map.Opening.{Opening}
use Rattle.map_machines.specs.declared.new_map.Opening.TheVariants as at
use Rattle.map_machines.specs.NewTable.{first_table, new_table_plan}

-- a setting with another root, and with a counter
abbrev pub at_root : Setting → ℕ → Setting
at_root setting root = record setting { root = root }

abbrev pub with_counter : Setting → ℕ → Setting
with_counter setting block = record setting { counter = block }

-- a map that begins: the first root is to be taken
abbrev pub opening : Setting → ℕ → ℕ → NewMap
opening setting roots len = record { setting = at_root setting 0; roots = roots; len = len; stands = at.Takes }

-- standing elsewhere
abbrev pub standing : NewMap → Opening → NewMap
standing c stands = record c { stands = stands }

-- it goes on, and how it ends
abbrev pub goes : NewMap → Opening → NewMap × Advance Setting
goes c stands = (standing c stands, Goes)

abbrev pub done : NewMap → NewMap × Advance Setting
done c = (standing c at.Over, Done c.setting)

abbrev pub refused : NewMap → Fault → NewMap × Advance Setting
refused c fault = (standing c (at.Refused fault), Refused fault)

-- the next root, if there is one
abbrev pub next_root : NewMap → NewMap × Advance Setting
next_root c =
    if nat_lt c.setting.root (c.roots - 1) then (record c { setting = at_root c.setting (c.setting.root + 1) }, Goes)
    else refused c RootsUsedUp

-- a map that is to have no table is there once its counter is
abbrev pub with_shards : NewMap → NewMap × Advance Setting
with_shards c = if c.len == 0 then done c else goes c (at.Tables (first_table c.setting c.len))

-- a step of the making of its first table, as a step of its own
abbrev pub opened : NewMap → NewTable × Advance Table → NewMap × Advance Setting
opened c (making, Goes) = goes c (at.Tables making)
opened c (making, Waits) = (standing c (at.Tables making), Waits)
opened c (making, Done table) = done c
opened c (making, Refused fault) = goes c (at.Unmakes fault)

module _ {T : Type 0} where
  -- the root is taken, unless another map has it
  abbrev pub taken : NewMap → Out T → Then T (NewMap × Advance Setting)
  taken c (Exchanged (Ok free)) = Now (goes c at.Shards)
  taken c (Exchanged (Err used)) = Now (next_root c)
  taken c _ = Now (c, Goes)

  -- takes a root
  abbrev pub takes : NewMap → Plan T (NewMap × Advance Setting)
  takes c = Do (Exchange (Used c.setting.root) 0 1) (taken c)

  -- gives the root up
  abbrev pub frees : NewMap → Fault → Plan T (NewMap × Advance Setting)
  frees c fault = Do (Store (Used c.setting.root) 0) (λ out. Now (refused c fault))

module _ {K V : Type 0} where
  -- the shards are made, unless memory was refused
  abbrev pub made : NewMap → Out (Node K V) → Then (Node K V) (NewMap × Advance Setting)
  made c (Made (Ok block)) = Now (with_shards (record c { setting = with_counter c.setting block }))
  made c (Made (Err value)) = Now (goes c (at.Frees Memory))
  made c _ = Now (c, Goes)

  -- makes the shards
  abbrev pub shards : NewMap → Plan (Node K V) (NewMap × Advance Setting)
  shards c = Do (Make node.Shards ((c.setting.mask + 1) % 2 ^ 64)) (made c)

  -- takes the shards away
  abbrev pub unmakes : NewMap → Fault → Plan (Node K V) (NewMap × Advance Setting)
  unmakes c fault = Do (Take c.setting.counter) (λ out. Now (goes c (at.Frees fault)))

  -- each point
  abbrev pub plan_at : NewMap → Opening → Plan (Node K V) (NewMap × Advance Setting)
  plan_at c at.Takes = takes c
  plan_at c at.Shards = shards c
  plan_at c (at.Tables making) = plan_as (opened c) (new_table_plan making)
  plan_at c (at.Unmakes fault) = unmakes c fault
  plan_at c (at.Frees fault) = frees c fault
  plan_at c at.Over = Turn (Now (c, Done c.setting))
  plan_at c (at.Refused fault) = Turn (Now (c, Refused fault))

  -- what its next step does
  abbrev pub new_map_plan : NewMap → Plan (Node K V) (NewMap × Advance Setting)
  new_map_plan c = plan_at c c.stands
