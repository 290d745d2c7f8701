-- Rows on slots: the row that begins as a caller does something with its slot, what its steps tell, and how slots are used then.
use Rattle.std.specs.Prelude.{ℕ, true, false, ◌==◌, List, slice_set, if◌then◌else◌}
use Rattle.seize.specs.declared.states.TheConstants.{IDLE, ACTIVE}
use Rattle.seize.specs.declared.advance.Advance.{Advance}
use Rattle.seize.specs.declared.advance.Advance.TheVariants as progress
use Rattle.seize.specs.declared.rows.leave.Leave.{Leave}
use Rattle.seize.specs.declared.rows.leave.Leaving.{Leaving}
use Rattle.seize.specs.declared.rows.leave.Leaving.TheVariants as leaves
use Rattle.seize.specs.declared.rows.register.Registering.{Registering}
use Rattle.seize.specs.declared.rows.register.Registering.TheVariants as registers
use Rattle.seize.specs.declared.rows.settle.Settled.{Settled}
use Rattle.seize.specs.declared.rows.settle.Settled.TheVariants as settled
use Rattle.seize.specs.Leave.{leaving}
use Rattle.seize.specs.Settle.{flushing}
use Rattle.seize.specs.World.{Request, Register', Enter', Leave', LeaveOwned, Refresh, Unregister', Flush}
use Rattle.run_shows.specs.declared.row.RowTold.{RowTold}
use Rattle.run_shows.specs.declared.row.RowTold.TheVariants as told
use Rattle.run_shows.specs.declared.row.SlotCall.{SlotCall}
use Rattle.run_shows.specs.declared.row.SlotCall.TheVariants as call
use Rattle.run_shows.specs.declared.row.SlotChange.{SlotChange}
use Rattle.run_shows.specs.declared.row.SlotChange.TheVariants as change
use Rattle.run_shows.specs.declared.row.SlotRow.{SlotRow}
use Rattle.run_shows.specs.declared.row.SlotRow.TheVariants as rows
use Rattle.run_shows.specs.declared.row.SlotUse.{SlotUse}
use Rattle.run_shows.specs.declared.row.SlotUse.TheVariants as used

-- the row that begins, on this slot
abbrev pub begun_row : ℕ → ℕ → SlotCall → SlotRow
begun_row slot size (call.Register enters) = rows.Registers (record { slot = 0; enters = enters; stands = registers.Begin })
begun_row slot size call.Enter = rows.Enters (record { slot = slot })
begun_row slot size call.Leave = rows.Leaves (leaving slot size IDLE false)
begun_row slot size call.LeaveOwned = rows.Leaves (leaving slot size IDLE true)
begun_row slot size call.Refresh = rows.Leaves (leaving slot size ACTIVE false)
begun_row slot size call.Flush = rows.Flushes (flushing slot size)
begun_row slot size call.Unregister = rows.Frees (record { slot = slot })

-- as the request that it is in the world
abbrev pub request_of : ℕ → SlotCall → Request
request_of slot (call.Register enters) = Register' enters
request_of slot call.Enter = Enter' slot
request_of slot call.Leave = Leave' slot
request_of slot call.LeaveOwned = LeaveOwned slot
request_of slot call.Refresh = Refresh slot
request_of slot call.Flush = Flush slot
request_of slot call.Unregister = Unregister' slot

-- how slots are used once it has begun
abbrev pub uses_begun : ℕ → SlotCall → List SlotUse → List SlotUse
uses_begun slot (call.Register enters) slots = slots
uses_begun slot call.Flush slots = slots
uses_begun slot _ slots = slice_set slots slot used.Changing

-- what registering, a row of one store, and a settling tell
module _ {T : Type 0} where
  abbrev pub of_registering : Advance ℕ → RowTold T
  of_registering progress.Goes = told.Goes
  of_registering progress.Waits = told.Waits
  of_registering (progress.Done slot) = told.Registered slot
  of_registering (progress.Refused fault) = told.Refused fault

  abbrev pub of_storing : Advance Unit → RowTold T
  of_storing progress.Goes = told.Goes
  of_storing progress.Waits = told.Waits
  of_storing (progress.Done u) = told.Done
  of_storing (progress.Refused fault) = told.Refused fault

  abbrev pub of_settling : Settled T → RowTold T
  of_settling settled.Goes = told.Goes
  of_settling settled.Waits = told.Waits
  of_settling (settled.Gave value) = told.Gave value
  of_settling settled.Done = told.Done

-- a slot that is registered was entered, too, if that was the last step
abbrev pub taken_as : Registering → SlotUse
taken_as registers.Enter = used.Inside
taken_as _ = used.Outside

-- what a leaving makes of its slot by its next step: it is given up, or that step is the last
abbrev pub left_by : Leave → Leaving → SlotChange
left_by c leaves.Frees = change.Becomes c.slot used.Vacant
left_by c leaves.Over = if c.frees then change.Stays else (if c.becomes == ACTIVE then change.Becomes c.slot used.Inside else change.Becomes c.slot used.Outside)
left_by c _ = change.Stays

-- what a row makes of a slot by its next step
abbrev pub change_of : SlotRow → SlotChange
change_of (rows.Registers register) = change.Takes (taken_as register.stands)
change_of (rows.Enters enter) = change.Becomes enter.slot used.Inside
change_of (rows.Leaves leave) = left_by leave leave.stands
change_of (rows.Flushes settle) = change.Stays
change_of (rows.Frees unregister) = change.Becomes unregister.slot used.Vacant

-- how slots are used after a step that has told this
abbrev pub uses_after : {T : Type 0} → SlotChange → RowTold T → List SlotUse → List SlotUse
uses_after (change.Takes v) (told.Registered slot) slots = slice_set slots slot v
uses_after (change.Takes v) _ slots = slots
uses_after (change.Becomes slot v) told slots = slice_set slots slot v
uses_after change.Stays told slots = slots
