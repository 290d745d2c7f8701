-- Which row an event works with on a slot, as far as its deeds tell it.
use Rattle.std.specs.Prelude.{◌≡◌, false}
use Rattle.seize.specs.declared.rows.register.Registering.TheVariants as registers
use Rattle.seize.specs.declared.states.TheConstants.{IDLE}
use Rattle.play_events.specs.Given.ScenesDeclared.row.SlotRow.{SlotRow}
use Rattle.play_events.specs.Given.ScenesDeclared.row.SlotRow.TheVariants as rows
use Rattle.run_schedules.specs.declared.event.Event.{Event}
use Rattle.run_schedules.specs.declared.event.Event.TheVariants as event

-- A registration enters no section, and a guard that is dropped begins none anew.
abbrev pub IsRowFor : {K V : Type 0} → Event K V → SlotRow → Type 0
IsRowFor (event.Register registration) (rows.Registers c) = (c.enters ≡ false) × (c.stands ≡ registers.Enter → ⊥)
IsRowFor (event.Own guard) (rows.Registers c) = Unit {0}
IsRowFor (event.Unregister registration) (rows.Frees c) = Unit {0}
IsRowFor (event.Enter guard registration) (rows.Enters c) = Unit {0}
IsRowFor (event.Refresh guard) (rows.Leaves c) = Unit {0}
IsRowFor (event.DropGuard guard) (rows.Leaves c) = c.becomes ≡ IDLE
IsRowFor (event.Flush guard) (rows.Flushes c) = Unit {0}
IsRowFor _ _ = ⊥
