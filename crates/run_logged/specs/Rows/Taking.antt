-- What comes of a registering.
use Rattle.std.specs.Prelude.{ℕ, Bool, List, Result, Ok, Err}
use Rattle.run_schedules.specs.Given.SeizeWordsDeclared.fault.Fault.{Fault}
use Rattle.run_schedules.specs.declared.effect.Effect.{Effect}
use Rattle.run_shows.specs.declared.row.RowTold.{RowTold}
use Rattle.run_shows.specs.declared.row.RowTold.TheVariants as told
use Rattle.run_shows.specs.declared.row.SlotCall.TheVariants as call
use Rattle.run_logged.specs.declared.logged.Logged.{Logged}
use Rattle.run_logged.specs.Rows.Rows.{RowRan}

-- what it told, by the slot that it has found, or the fault
abbrev pub outcome_of_taking : {T : Type 0} → Result ℕ Fault → RowTold T
outcome_of_taking (Ok slot) = told.Registered slot
outcome_of_taking (Err fault) = told.Refused fault

-- A registering has run, which has told this.
abbrev pub SlotTaken : {K V S : Type 0} → Bool → Result ℕ Fault → (before after : List Effect) → (old new : Logged K V S) → Type 0
SlotTaken enters slot before after old new = RowRan 0 (call.Register enters) (outcome_of_taking slot) before after old new
