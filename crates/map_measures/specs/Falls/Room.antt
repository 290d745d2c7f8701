-- How many tables a map can still be given.
use Rattle.std.specs.Prelude.{ℕ, suc, ◌-◌, ◌^◌, max}
use Rattle.many_calls.specs.Given.RawDeclared.machines.call.Calling.{Calling}
use Rattle.many_calls.specs.Given.RawDeclared.machines.call.Calling.TheVariants as at
use Rattle.map_machines.specs.declared.copier.Copying.{Copying}
use Rattle.map_machines.specs.declared.copier.Copying.TheVariants as copies
use Rattle.map_machines.specs.declared.new_table.Making.{Making}
use Rattle.map_machines.specs.declared.new_table.Making.TheVariants as makes

-- no table is planned behind one with this turn
abbrev pub last_turn : ℕ
last_turn = 2 ^ 63

-- the turn of the table that a making is to link
abbrev pub planned : Making → ℕ
planned (makes.Makes table) = table.turn
planned (makes.Promotes table) = table.turn
planned (makes.Links table) = table.turn
planned _ = 0

-- of the making within a copier
abbrev pub planned_in_copying : Copying → ℕ
planned_in_copying (copies.Grows word code making) = planned making.stands
planned_in_copying (copies.Remakes making) = planned making.stands
planned_in_copying _ = 0

-- and of that within a call
abbrev pub planned_in_call : Calling → ℕ
planned_in_call (at.Firsts making) = planned making.stands
planned_in_call (at.Allocs making) = planned making.stands
planned_in_call (at.Helps copier goal) = planned_in_copying copier.stands
planned_in_call (at.Copies copier) = planned_in_copying copier.stands
planned_in_call _ = 0

-- The tables that can still be linked, where so many were and a table of this turn is planned: those up to the last turn, or up to that one. So each
-- table that is linked as it was planned leaves fewer, whatever its turn is.
abbrev pub tables_to_come : ℕ → ℕ → ℕ
tables_to_come past turn = suc (max last_turn turn) - past
