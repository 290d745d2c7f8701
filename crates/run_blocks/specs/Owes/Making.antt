-- The making of a table that is under way within what a machine does, if one is.
use Rattle.std.specs.Prelude.{Option, Some, None}
use Rattle.owner_calls.specs.Given.ResizeDeclared.copier.Copying.{Copying}
use Rattle.owner_calls.specs.Given.ResizeDeclared.copier.Copying.TheVariants as copying
use Rattle.owner_calls.specs.Given.ResizeDeclared.new_map.Opening.{Opening}
use Rattle.owner_calls.specs.Given.ResizeDeclared.new_map.Opening.TheVariants as opening
use Rattle.owner_calls.specs.Given.ResizeDeclared.new_table.NewTable.{NewTable}
use Rattle.run_debts.specs.Given.ReservesDeclared.reserve.Reserving.{Reserving}
use Rattle.run_debts.specs.Given.ReservesDeclared.reserve.Reserving.TheVariants as reserving
use Rattle.run_debts.specs.Given.ReservesDeclared.sweep.Sweeping.{Sweeping}
use Rattle.run_debts.specs.Given.ReservesDeclared.sweep.Sweeping.TheVariants as sweeping
use Rattle.run_debts.specs.Given.RawDeclared.machines.call.Calling.{Calling}
use Rattle.run_debts.specs.Given.RawDeclared.machines.call.Calling.TheVariants as calling
use Rattle.run_debts.specs.Given.RawDeclared.machines.machine.Machine.{Machine}
use Rattle.run_debts.specs.Given.RawDeclared.machines.machine.Machine.TheVariants as kinds

-- a copier makes a further table
abbrev pub making_in_copying : Copying → Option NewTable
making_in_copying (copying.Grows word code making) = Some making
making_in_copying (copying.Remakes making) = Some making
making_in_copying _ = None

-- a call on one key makes the first table, or the one behind that which it has tried; or its copier does
abbrev pub making_in_calling : Calling → Option NewTable
making_in_calling (calling.Firsts making) = Some making
making_in_calling (calling.Allocs making) = Some making
making_in_calling (calling.Helps copier goal) = making_in_copying copier.stands
making_in_calling (calling.Copies copier) = making_in_copying copier.stands
making_in_calling _ = None

-- so does a reservation
abbrev pub making_in_reserving : Reserving → Option NewTable
making_in_reserving (reserving.Makes making) = Some making
making_in_reserving (reserving.Grows table making) = Some making
making_in_reserving (reserving.Copies copier) = making_in_copying copier.stands
making_in_reserving _ = None

-- and a sweep, by its copier alone
abbrev pub making_in_sweeping : Sweeping → Option NewTable
making_in_sweeping (sweeping.Copies copier) = making_in_copying copier.stands
making_in_sweeping _ = None

abbrev pub making_of : {K V Q : Type 0} → Machine K V Q → Option NewTable
making_of (kinds.Key p) = making_in_calling p.stands
making_of (kinds.Reserve r) = making_in_reserving r.stands
making_of (kinds.Sweep c) = making_in_sweeping c.stands
making_of (kinds.Count sum) = None

-- the making of a map makes its first table
abbrev pub making_in_opening : Opening → Option NewTable
making_in_opening (opening.Tables n) = Some n
making_in_opening _ = None
