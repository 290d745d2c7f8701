-- How a map comes to a table: it is made, and put where it is to stand, unless another call was faster.
use Rattle.std.specs.Prelude.{ℕ, ◌+◌, ◌%◌, ◌^◌, nat_le, if◌then◌else◌, max, Result, Ok, Err}
use Rattle.map_tables.specs.Given.SeizeWordsWord.{block_in, link_to}
use Rattle.map_tables.specs.Given.SeizeWordsDeclared.at.At.{At}
use Rattle.map_tables.specs.Given.SeizeWordsDeclared.at.At.TheVariants.{Root, Word}
use Rattle.map_tables.specs.Given.SeizeWordsDeclared.fault.Fault.{Fault}
use Rattle.map_tables.specs.Given.SeizeWordsDeclared.fault.Fault.TheVariants.{Capacity, Memory}
use Rattle.map_tables.specs.Given.SeizeWordsOp.{Out, Store, Exchange, Make, Take, Exchanged, Made}
use Rattle.map_tables.specs.Given.SeizeWordsPlan.{Plan, Then, Turn, Do, Now, Seeing, plan_as}
use Rattle.seize.specs.declared.advance.Advance.{Advance}
use Rattle.seize.specs.declared.advance.Advance.TheVariants.{Goes, Waits, Done, Refused}
use Rattle.map_tables.specs.declared.setting.Setting.{Setting}
use Rattle.map_tables.specs.declared.node.Node.{Node}
use Rattle.map_tables.specs.declared.node.Node.TheVariants as node
use Rattle.map_tables.specs.declared.table.Table.{Table}
use Rattle.map_tables.specs.declared.table_words.TheConstants.{NEXT, STATUS, PLACES}
use Rattle.map_tables.specs.declared.status.TheConstants.Status.{PROMOTED}
use Rattle.map_tables.specs.declared.lengths.Reason.{Reason}
use Rattle.map_tables.specs.declared.lengths.Reason.TheVariants.{Full, Reserved, NoPlace}
use Rattle.map_machines.specs.declared.sum.Sum.{Sum}
use Rattle.map_machines.specs.declared.new_table.NewTable.{NewTable}
use Rattle.map_machines.specs.declared.new_table.Making.{Making}
use Rattle.map_machines.specs.declared.new_table.Making.TheVariants as at
use Rattle.map_tables.specs.Lengths.{next_len, next_limit, next_turn}
use Rattle.map_tables.specs.Nodes.{table_seen}
use Rattle.map_tables.specs.Probes.{limit_of}
use Rattle.map_machines.specs.Sum.{summing, sum_plan}

-- a table that has no block yet
abbrev pub planned : ℕ → ℕ → ℕ → Table
planned len limit turn = record { link = 0; len = len; limit = limit; turn = turn }

-- the first table of a length, if it is not too long
abbrev pub making_first : ℕ → Making
making_first len = if nat_le len (2 ^ 48) then at.Makes (planned len (limit_of len) 0) else at.Refused Capacity

-- the table of a length after another one, if it has a turn and is not too long
abbrev pub following : Reason → Table → ℕ → Result ℕ Fault → Making
following reason before len (Ok turn) =
    if nat_le len (2 ^ 48) then at.Makes (planned len (next_limit reason before.len before.limit len) turn) else at.Refused Capacity
following reason before len (Err fault) = at.Refused fault

-- the table after another one, with eight places at least, if it can have a length
abbrev pub making_of : Reason → Table → Result ℕ Fault → Making
making_of reason before (Ok len) = following reason before (max len 8) (next_turn before.turn)
making_of reason before (Err fault) = at.Refused fault

-- the first table of a map, with eight places at least
abbrev pub first_table : Setting → ℕ → NewTable
first_table setting len = record { setting = setting; link = Root setting.root; stands = making_first (max len 8) }

-- what is to stand behind a table
abbrev pub behind : Setting → Table → Making → NewTable
behind setting before stands = record { setting = setting; link = Word (block_in before.link) NEXT; stands = stands }

-- the table after another one: its length goes by the count of the pairs, and by the table before where a copy found no place
abbrev pub begun_for : Setting → Table → Reason → Making
begun_for setting before (Full met most) = at.Sums before (Full met most) (summing setting)
begun_for setting before (Reserved additional) = at.Sums before (Reserved additional) (summing setting)
begun_for setting before NoPlace = making_of NoPlace before (next_len NoPlace before.len 0 setting.initial)

abbrev pub table_after : Setting → Table → Reason → NewTable
table_after setting before reason = behind setting before (begun_for setting before reason)

-- the table after another one, of a given length
abbrev pub table_reserved : Setting → Table → ℕ → NewTable
table_reserved setting before len = behind setting before (making_of (Reserved 0) before (Ok len))

-- standing elsewhere
abbrev pub standing : NewTable → Making → NewTable
standing c stands = record c { stands = stands }

-- it goes on, and how it ends
abbrev pub goes : NewTable → Making → NewTable × Advance Table
goes c stands = (standing c stands, Goes)

abbrev pub done : NewTable → Table → NewTable × Advance Table
done c table = (standing c (at.Over table), Done table)

abbrev pub refused : NewTable → Fault → NewTable × Advance Table
refused c fault = (standing c (at.Refused fault), Refused fault)

-- a step of its counting, as a step of its own: once the count is known, so is the table
abbrev pub counted : NewTable → Table → Reason → Sum × Advance ℕ → NewTable × Advance Table
counted c before reason (sum, Goes) = goes c (at.Sums before reason sum)
counted c before reason (sum, Waits) = (standing c (at.Sums before reason sum), Waits)
counted c before reason (sum, Done count) = goes c (making_of reason before (next_len reason before.len count c.setting.initial))
counted c before reason (sum, Refused fault) = refused c fault

-- the table has a block
abbrev pub with_block : Table → ℕ → Table
with_block table block = record table { link = link_to block % 2 ^ 64 }

-- a first table is promoted before it is linked, since nothing is to be copied into it
abbrev pub after_making : At → Table → Making
after_making (Root root) table = at.Promotes table
after_making _ table = at.Links table

module _ {K V : Type 0} where
  -- the table is made, unless memory was refused
  abbrev pub made : NewTable → Table → Out (Node K V) → Then (Node K V) (NewTable × Advance Table)
  made c table (Made (Ok block)) = Now (goes c (after_making c.link (with_block table block)))
  made c table (Made (Err value)) = Now (refused c Memory)
  made c table _ = Now (c, Goes)

  -- makes the table, with its words
  abbrev pub makes : NewTable → Table → Plan (Node K V) (NewTable × Advance Table)
  makes c table = Do (Make (node.Table table.len table.limit table.turn) ((table.len + PLACES) % 2 ^ 64)) (made c table)

  -- the other call's table is the answer
  abbrev pub other : NewTable → ℕ → Then (Node K V) (NewTable × Advance Table)
  other c found = Seeing (block_in found) (λ value. Now (done c (table_seen found value)))

  -- takes the table away, and looks at the other call's
  abbrev pub drops : NewTable → Table → ℕ → Plan (Node K V) (NewTable × Advance Table)
  drops c table found = Do (Take (block_in table.link)) (λ out. other c found)

module _ {T : Type 0} where
  -- marks the table as promoted
  abbrev pub promotes : NewTable → Table → Plan T (NewTable × Advance Table)
  promotes c table = Do (Store (Word (block_in table.link) STATUS) PROMOTED) (λ out. Now (goes c (at.Links table)))

  -- the table stands where it is to stand, or another one does
  abbrev pub linked : NewTable → Table → Out T → Then T (NewTable × Advance Table)
  linked c table (Exchanged (Ok empty)) = Now (done c table)
  linked c table (Exchanged (Err found)) = Now (goes c (at.Drops table found))
  linked c table _ = Now (c, Goes)

  -- puts the table where none stands
  abbrev pub links : NewTable → Table → Plan T (NewTable × Advance Table)
  links c table = Do (Exchange c.link 0 table.link) (linked c table)

module _ {K V : Type 0} where
  -- each point
  abbrev pub plan_at : NewTable → Making → Plan (Node K V) (NewTable × Advance Table)
  plan_at c (at.Sums before reason sum) = plan_as (counted c before reason) (sum_plan sum)
  plan_at c (at.Makes table) = makes c table
  plan_at c (at.Promotes table) = promotes c table
  plan_at c (at.Links table) = links c table
  plan_at c (at.Drops table found) = drops c table found
  plan_at c (at.Over table) = Turn (Now (c, Done table))
  plan_at c (at.Refused fault) = Turn (Now (c, Refused fault))

  -- what its next step does
  abbrev pub new_table_plan : NewTable → Plan (Node K V) (NewTable × Advance Table)
  new_table_plan c = plan_at c c.stands
