-- Where the beginning of a row on a slot leads, and where a step of it does, and what that does.
use Rattle.std.specs.Prelude.{◌≡◌, ℕ, zero, suc, Bool, true, false, List, ◌++◌, Option, Some, None}
use Rattle.seize.specs.World.{World, Step}
use Rattle.papaya_raw.specs.Given.TablesDeclared.node.Node.{Node}
use Rattle.run_schedules.specs.declared.effect.Effect.{Effect}
use Rattle.run_schedules.specs.Schedules.Effects.{with_effects}
use Rattle.run_schedules.specs.Schedules.Moment.{Moment}
use Rattle.run_effects.specs.Effects.Effects.{effects_of}
use Rattle.run_effects.specs.Effects.Known.{Known}
use Rattle.run_effects.specs.declared.acting.Acting.TheVariants as acts
use Rattle.run_executor.specs.declared.executor.Executor.{Executor}
use Rattle.run_shows.specs.declared.row.RowTold.{RowTold}
use Rattle.run_shows.specs.declared.row.RowTold.TheVariants as told
use Rattle.run_shows.specs.declared.row.SlotCall.{SlotCall}
use Rattle.run_shows.specs.declared.row.SlotRow.{SlotRow}
use Rattle.run_executor.specs.declared.worker.Work.TheVariants.{OnSlot}
use Rattle.run_shows.specs.Given.FinishesMaps.{Standing}
use Rattle.run_shows.specs.Others.Rows.{scene_then}
use Rattle.run_logged.specs.Log.Shown.{IsShown}
use Rattle.run_logged.specs.declared.logged.Logged.{Logged}
use Rattle.run_executor.specs.Executing.IsThere.{IsThere, held_by, work_of}
use Rattle.run_executor.specs.Executing.OnSlots.{MayBegin, RowBeginsThere, RowStepsThere, row_on}
use Rattle.run_shows.specs.Scenes.Scene.{IsOnSlot, Scene, slot_of}
use Rattle.run_shows.specs.Scenes.OnSlots.{RowLeads}

module _ {K V S : Type 0} (same : K → K → Bool) (hash : K → ℕ) (name : ℕ → List ℕ) (m : Moment K V) (s : Scene K V) where
  -- A row that may begin on the caller's slot is under way, and the moment shows that, as it is.
  abbrev pub OnSlotBegins : SlotCall → ℕ → (old new : Logged K V S) → Type 0
  OnSlotBegins called i old new =
      (may : MayBegin old.executor (slot_of i) called)
      → (leads : RowBeginsThere same hash called i s old.executor new.executor)
      × IsShown same hash name m new (record s { world = (leads may).3.2.0; maps = (leads may).3.2.2 })

  -- A step of a caller's row, which did this: the moment after it shows where the step has led.
  abbrev pub OnSlotContinues : ℕ → RowTold (Node K V) → List Effect → (old new : Logged K V S) → Type 0
  OnSlotContinues i said did old new =
      (row : SlotRow) (here : work_of old.executor i ≡ Some (OnSlot row))
      → (on : IsOnSlot s i row) × (leads : RowLeads same (λ map. hash) i said s (held_by old.executor) (held_by new.executor))
      × IsShown same hash name (with_effects None None did m) new (scene_then same (λ map. hash) (Step i) s (held_by old.executor) (held_by new.executor) (leads row on).2)

  -- Steps of a row, which did this: the same of all of it. Others have under way what they had.
  abbrev pub OnSlotRuns : List Effect → Logged K V S → Type 0
  OnSlotRuns did new =
      (w : World (Node K V)) × (maps : ℕ → Option (Standing K)) × IsShown same hash name (with_effects None None did m) new (record s { world = w; maps = maps })

-- a row has ended, or waits
abbrev pub has_come : {T : Type 0} → RowTold T → Bool
has_come told.Goes = false
has_come (told.Gave value) = false
has_come _ = true

module _ {K V S : Type 0} where
  -- What it does follows in the list, whatever shows the executor.
  abbrev pub OnSlotSteps : ℕ → RowTold (Node K V) → (before after : List Effect) → (old new : Logged K V S) → Type 0
  OnSlotSteps i said before after old new =
      (did : List Effect) × (after ≡ before ++ did)
      × ((same : K → K → Bool) (hash : K → ℕ) (name : ℕ → List ℕ) (m : Moment K V) (s : Scene K V) → IsShown same hash name m old s → OnSlotContinues same hash name m s i said did old new)

  -- So it does step by step, and the executor stays there.
  abbrev pub OnSlotRan : (before after : List Effect) → (old new : Logged K V S) → Type 0
  OnSlotRan before after old new =
      (did : List Effect) × (after ≡ before ++ did)
      × ((same : K → K → Bool) (hash : K → ℕ) (s : Scene K V) → IsThere same hash old.executor s
      → (w : World (Node K V)) × (maps : ℕ → Option (Standing K)) × IsThere same hash new.executor (record s { world = w; maps = maps }))
      × ((same : K → K → Bool) (hash : K → ℕ) (name : ℕ → List ℕ) (m : Moment K V) (s : Scene K V) → IsShown same hash name m old s → OnSlotRuns same hash name m s did new)

  -- This was told of the last step of the row, which ended it, unless it waits: then it is under way still.
  abbrev pub OnSlotComes : ℕ → RowTold (Node K V) → Logged K V S → Type 0
  OnSlotComes i said new = (has_come said ≡ true) × ((row : SlotRow) × (work_of new.executor i ≡ row_on row said))

module _ {K V S : Type 0} (i : ℕ) where
  -- a step of the caller's row, in whatever scene the executor is there
  abbrev pub StepsOn : RowTold (Node K V) → (old new : Executor K V S) → Type 0
  StepsOn said old new = (same : K → K → Bool) (hash : K → ℕ) (s : Scene K V) → IsThere same hash old s → RowStepsThere same hash i said s old new

  -- so many of them, after none of which the row has ended, or waits
  abbrev pub ContinuesFor : ℕ → (old new : Executor K V S) → Type 0
  ContinuesFor zero old new = old ≡ new
  ContinuesFor (suc n) old new = (mid : Executor K V S) × (said : RowTold (Node K V)) × ContinuesFor n old mid × (has_come said ≡ false) × StepsOn said mid new

  -- and then the last one, which told this
  abbrev pub OnSlotLast : RowTold (Node K V) → (old new : Executor K V S) → Type 0
  OnSlotLast said old new = (mid : Executor K V S) × (n : ℕ) × ContinuesFor n old mid × StepsOn said mid new

-- The list ends with what the last operation of a row did, by what was noted before it.
abbrev pub EndsTelling : {K V S : Type 0} → List Effect → Executor K V S → Type 0
EndsTelling effects e = (noted : Known) × (first : List Effect) × (effects ≡ first ++ effects_of acts.Row noted e.memory.changed)
