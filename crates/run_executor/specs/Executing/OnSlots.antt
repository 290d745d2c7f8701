-- What it leads to that a caller begins a row on its slot, and that it takes a step of that.
use Rattle.std.specs.Prelude.{◌≡◌, ◌⊎◌, ℕ, Bool, Option, Some, None}
use Rattle.seize.specs.World.{Step}
use Rattle.papaya_raw.specs.Given.TablesDeclared.node.Node.{Node}
use Rattle.run_places.specs.Given.ScenesOnSlots.{HappensTo, RowBeginsTo, RowSteps}
use Rattle.run_places.specs.Given.ScenesRows.{begun_row, uses_begun, uses_after, change_of}
use Rattle.run_places.specs.Given.ScenesScene.{Scene, IsOnSlot, slot_of}
use Rattle.run_places.specs.Given.ScenesDeclared.row.RowTold.{RowTold}
use Rattle.run_places.specs.Given.ScenesDeclared.row.RowTold.TheVariants as told
use Rattle.run_places.specs.Given.ScenesDeclared.row.SlotCall.{SlotCall}
use Rattle.run_places.specs.Given.ScenesDeclared.row.SlotCall.TheVariants as call
use Rattle.run_places.specs.Given.ScenesDeclared.row.SlotRow.{SlotRow}
use Rattle.run_places.specs.Given.ScenesDeclared.row.SlotUse.TheVariants as used
use Rattle.run_executor.specs.declared.executor.Executor.{Executor}
use Rattle.run_executor.specs.declared.worker.Work.{Work}
use Rattle.run_executor.specs.declared.worker.Work.TheVariants as work
use Rattle.run_executor.specs.Executing.IsThere.{IsThere, held_by, work_of, use_at}

-- a row goes on, unless it has ended
abbrev pub row_on : {K V : Type 0} → SlotRow → RowTold (Node K V) → Option (Work K V)
row_on row told.Goes = Some (work.OnSlot row)
row_on row told.Waits = Some (work.OnSlot row)
row_on row (told.Gave value) = Some (work.OnSlot row)
row_on row _ = None

module _ {K V S : Type 0} where
  -- nobody has anything under way in this slot
  abbrev pub NobodyIn : Executor K V S → ℕ → Type 0
  NobodyIn e slot = (i : ℕ) → slot_of i ≡ slot → work_of e i ≡ None

  -- As the slot is used this may begin: a slot is entered, left, refreshed or given up while nobody has anything under way in it.
  abbrev pub MayBegin : Executor K V S → ℕ → SlotCall → Type 0
  MayBegin e slot (call.Register enters) = Unit {0}
  MayBegin e slot call.Enter = (use_at e slot ≡ used.Outside) × NobodyIn e slot
  MayBegin e slot call.Leave = (use_at e slot ≡ used.Inside) × NobodyIn e slot
  MayBegin e slot call.LeaveOwned = (use_at e slot ≡ used.Inside) × NobodyIn e slot
  MayBegin e slot call.Refresh = (use_at e slot ≡ used.Inside) × NobodyIn e slot
  MayBegin e slot call.Flush = (use_at e slot ≡ used.Outside) ⊎ (use_at e slot ≡ used.Inside)
  MayBegin e slot call.Unregister = (use_at e slot ≡ used.Outside) × NobodyIn e slot

module _ {K V S : Type 0} (same : K → K → Bool) (hash : K → ℕ) where
  -- A row that may begin on the caller's slot is under way, and slots are used by that; it leads where one does on what is held: the executor is there.
  abbrev pub RowBeginsThere : SlotCall → ℕ → Scene K V → Executor K V S → Executor K V S → Type 0
  RowBeginsThere called i s old new =
      MayBegin old (slot_of i) called
      → (new.memory ≡ old.memory) × (work_of new i ≡ Some (work.OnSlot (begun_row (slot_of i) old.batch_size called)))
      × (new.slots.items ≡ uses_begun (slot_of i) called old.slots.items) × RowBeginsTo (IsThere same hash new) called i s (held_by old) (held_by new)

  -- The step of this row of a caller: it is told, with what its one operation has changed, the row goes on, unless it has ended, and slots are used by that.
  abbrev pub RowStepHasOutcome : ℕ → RowTold (Node K V) → Scene K V → Executor K V S → Executor K V S → SlotRow → Type 0
  RowStepHasOutcome i told s old new row =
      IsOnSlot s i row × (after : SlotRow) × RowSteps K V row old.memory.memory new.memory.memory new.memory.changed (after, told) × (work_of new i ≡ row_on after told)
      × (new.slots.items ≡ uses_after (change_of row) told old.slots.items) × HappensTo (IsThere same hash new) (Step i) s (held_by old)

  -- So it is of whatever row the caller has under way.
  abbrev pub RowStepsThere : ℕ → RowTold (Node K V) → Scene K V → Executor K V S → Executor K V S → Type 0
  RowStepsThere i told s old new = (row : SlotRow) → work_of old i ≡ Some (work.OnSlot row) → RowStepHasOutcome i told s old new row
