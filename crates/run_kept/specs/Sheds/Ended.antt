-- How slots are used once a row has ended.
use Rattle.std.specs.Prelude.{◌==◌, Bool, true, false, List, slice_set, if◌then◌else◌}
use Rattle.seize.specs.declared.states.TheConstants.{ACTIVE}
use Rattle.seize.specs.declared.rows.leave.Leave.{Leave}
use Rattle.seize.specs.declared.rows.leave.Leaving.{Leaving}
use Rattle.seize.specs.declared.rows.leave.Leaving.TheVariants as leaves
use Rattle.seize.specs.declared.rows.register.Register.{Register}
use Rattle.seize.specs.declared.rows.register.Registering.{Registering}
use Rattle.seize.specs.declared.rows.register.Registering.TheVariants as registers
use Rattle.run_executor.specs.Given.ScenesDeclared.row.RowTold.{RowTold}
use Rattle.run_executor.specs.Given.ScenesDeclared.row.RowTold.TheVariants as told
use Rattle.run_executor.specs.Given.ScenesDeclared.row.SlotRow.{SlotRow}
use Rattle.run_executor.specs.Given.ScenesDeclared.row.SlotRow.TheVariants as rows
use Rattle.run_executor.specs.Given.ScenesDeclared.row.SlotUse.{SlotUse}
use Rattle.run_executor.specs.Given.ScenesDeclared.row.SlotUse.TheVariants as used

-- a row has ended
abbrev pub has_ended : {T : Type 0} → RowTold T → Bool
has_ended told.Done = true
has_ended (told.Registered slot) = true
has_ended (told.Refused fault) = true
has_ended _ = false

-- how the slot is used that a registering takes, which stands here
abbrev pub taken_in_the_end : Register → Registering → SlotUse
taken_in_the_end c registers.Enter = used.Inside
taken_in_the_end c registers.Registered = used.Outside
taken_in_the_end c _ = if c.enters then used.Inside else used.Outside

-- how slots are used once a leaving has ended, which stands here: its slot is given up, or entered anew, or left
abbrev pub entered_as : Leave → SlotUse
entered_as c = if c.becomes == ACTIVE then used.Inside else used.Outside

abbrev pub left_in_the_end : Leave → Leaving → List SlotUse → List SlotUse
left_in_the_end c leaves.Over slots = if c.frees then slots else slice_set slots c.slot (entered_as c)
left_in_the_end c leaves.Frees slots = if c.frees then slice_set slots c.slot used.Vacant else slice_set (slice_set slots c.slot used.Vacant) c.slot (entered_as c)
left_in_the_end c _ slots = if c.frees then slice_set slots c.slot used.Vacant else slice_set slots c.slot (entered_as c)

-- whichever row it is, as the last step told
abbrev pub uses_ended : {T : Type 0} → SlotRow → RowTold T → List SlotUse → List SlotUse
uses_ended (rows.Registers c) (told.Registered slot) slots = slice_set slots slot (taken_in_the_end c c.stands)
uses_ended (rows.Registers c) _ slots = slots
uses_ended (rows.Enters c) it slots = slice_set slots c.slot used.Inside
uses_ended (rows.Leaves c) it slots = left_in_the_end c c.stands slots
uses_ended (rows.Flushes c) it slots = slots
uses_ended (rows.Frees c) it slots = slice_set slots c.slot used.Vacant
