-- What a caller does with its slot, run to its end.
use Rattle.std.specs.Prelude.{◌≡◌, ◌==◌, ℕ, Bool, true, List, ◌++◌, Option, None, if◌then◌else◌}
use Rattle.seize.specs.World.{World}
use Rattle.papaya_raw.specs.Given.TablesDeclared.node.Node.{Node}
use Rattle.run_schedules.specs.Runs.Present.{Present, guards_on, has_registration}
use Rattle.run_schedules.specs.declared.effect.Effect.{Effect}
use Rattle.run_schedules.specs.Schedules.Effects.{with_effects}
use Rattle.run_schedules.specs.Schedules.Moment.{Moment}
use Rattle.run_shows.specs.declared.row.RowTold.{RowTold}
use Rattle.run_shows.specs.declared.row.SlotCall.{SlotCall}
use Rattle.run_shows.specs.declared.row.SlotCall.TheVariants as call
use Rattle.run_shows.specs.declared.row.SlotUse.{SlotUse}
use Rattle.run_shows.specs.declared.row.SlotUse.TheVariants as used
use Rattle.run_shows.specs.Given.FinishesMaps.{Standing}
use Rattle.run_kept.specs.Sheds.Ended.{has_ended, uses_ended}
use Rattle.run_logged.specs.Log.Goes.{GoesTo, RowGoes, RowGone, far}
use Rattle.run_logged.specs.Log.OnSlots.{EndsTelling, OnSlotBegins, OnSlotLast, has_come}
use Rattle.run_logged.specs.Log.Shown.{IsShown}
use Rattle.run_logged.specs.declared.logged.Logged.{Logged}
use Rattle.run_executor.specs.Executing.IsThere.{IsThere, PreservesSettings}
use Rattle.run_executor.specs.Executing.OnSlots.{MayBegin, RowBeginsThere}
use Rattle.run_shows.specs.Scenes.Rows.{begun_row, uses_begun}
use Rattle.run_shows.specs.Scenes.Scene.{Scene, slot_of}

-- A row has begun in this slot, and has run until it ended, or waits: which steps it took, each as it was noted, what they did, the last one's at the end, and how slots are
-- used then. The moment after all that shows the executor.
pub record RowRan {K V S : Type 0} (slot : ℕ) (called : SlotCall) (said : RowTold (Node K V)) (before after : List Effect) (old new : Logged K V S) : Type 0 where
  pub caller : ℕ
  pub in_slot : slot_of caller ≡ slot
  pub began : Logged K V S
  pub begins : (same : K → K → Bool) (hash : K → ℕ) (name : ℕ → List ℕ) (m : Moment K V) (s : Scene K V) → IsShown same hash name m old s → OnSlotBegins same hash name m s called caller old began
  pub begun : (same : K → K → Bool) (hash : K → ℕ) (s : Scene K V) → IsThere same hash old.executor s → RowBeginsThere same hash called caller s old.executor began.executor
  pub noted : began.notes ≡ old.notes
  pub given : PreservesSettings old.executor began.executor
  pub goes : GoesTo (RowGoes caller) (far before began) (far after new)
  pub gone : RowGone caller said before after began new
  pub last : OnSlotLast caller said began.executor new.executor
  pub come : has_come said ≡ true
  pub used : has_ended said ≡ true → new.executor.slots.items ≡ uses_ended (begun_row slot old.executor.batch_size called) said (uses_begun slot called old.executor.slots.items)
  pub tells : EndsTelling after new.executor
  pub did : List Effect
  pub follows : after ≡ before ++ did
  pub shown : (same : K → K → Bool) (hash : K → ℕ) (name : ℕ → List ℕ) (m : Moment K V) (s : Scene K V) → IsShown same hash name m old s → MayBegin old.executor slot called
      → (w : World (Node K V)) × (maps : ℕ → Option (Standing K)) × IsShown same hash name (with_effects None None did m) new (record s { world = w; maps = maps })

-- it has run, whatever it told
abbrev pub RowRanOn : {K V S : Type 0} → ℕ → SlotCall → (before after : List Effect) → (old new : Logged K V S) → Type 0
RowRanOn {K} {V} slot called before after old new = (said : RowTold (Node K V)) × RowRan slot called said before after old new

-- how the only guard on a slot leaves it: it gives the slot up, too, where no registration has it
abbrev pub left_as : ℕ → Present → SlotCall
left_as slot there = if has_registration slot there.registrations then call.Leave else call.LeaveOwned

-- how a slot is used by those who are there: it is entered while a guard is on it, also one that was forgotten
abbrev pub used_as : ℕ → Present → SlotUse
used_as slot there =
    if guards_on slot there.guards == 0 then (if has_registration slot there.registrations then used.Outside else used.Vacant) else used.Inside
