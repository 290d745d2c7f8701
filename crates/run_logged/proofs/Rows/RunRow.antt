-- A row on a slot begins, and runs: what is told of that.
use Rattle.std.specs.Prelude.{◌≡◌, ℕ, Bool, true, List, Some}
use Rattle.std.proofs.Common.{◌<◌, ◌+◌, ◌*◌, sym, ap, subst, ◌∙◌, arith}
use Rattle.papaya_raw.specs.Given.TablesDeclared.node.Node.{Node}
use Rattle.run_schedules.specs.declared.effect.Effect.{Effect}
use Rattle.run_schedules.specs.Schedules.Moment.{Moment}
use Rattle.run_shows.specs.declared.row.RowTold.{RowTold}
use Rattle.run_shows.specs.declared.row.SlotCall.{SlotCall}
use Rattle.run_shows.specs.declared.row.SlotRow.{SlotRow}
use Rattle.run_shows.specs.declared.row.SlotUse.{SlotUse}
use Rattle.run_shows.specs.declared.callers.TheConstants.{SLOTS}
use Rattle.run_executor.specs.declared.worker.Work.TheVariants.{OnSlot}
use Rattle.run_kept.specs.Sheds.Ended.{has_ended, uses_ended}
use Rattle.run_logged.specs.Log.Goes.{RowGoes, RowGone, far}
use Rattle.run_logged.specs.Log.OnSlots.{EndsTelling, OnSlotBegins, OnSlotComes, OnSlotLast, OnSlotRan}
use Rattle.run_logged.specs.Log.Shown.{IsShown}
use Rattle.run_logged.specs.declared.logged.Logged.{Logged}
use Rattle.run_logged.proofs.Log.Goes.{goes_more}
use Rattle.run_logged.specs.Rows.Rows.{RowRan}
use Rattle.run_executor.specs.Executing.IsThere.{IsThere, PreservesSettings, work_of}
use Rattle.run_executor.specs.Executing.OnSlots.{MayBegin, RowBeginsThere}
use Rattle.run_shows.specs.Scenes.Rows.{begun_row, uses_begun}
use Rattle.run_shows.specs.Scenes.Scene.{Scene, slot_of}

pub in_its_slot : (n slot caller : ℕ) → slot < SLOTS → caller ≡ n * SLOTS + slot → slot_of caller ≡ slot
in_its_slot n slot caller fits is = omega (arith, fits, is)

module _ {K V S : Type 0} (slot : ℕ) (called : SlotCall) (caller : ℕ) (old began new : Logged K V S) (in_slot : slot_of caller ≡ slot) (may : MayBegin old.executor slot called)
    (begins : (same : K → K → Bool) (hash : K → ℕ) (name : ℕ → List ℕ) (m : Moment K V) (s : Scene K V) → IsShown same hash name m old s → OnSlotBegins same hash name m s called caller old began) where
  may_there : MayBegin old.executor (slot_of caller) called
  may_there = subst (λ (x : ℕ). MayBegin old.executor x called) (sym in_slot) may

  module _ (same : K → K → Bool) (hash : K → ℕ) (name : ℕ → List ℕ) (m : Moment K V) (s : Scene K V) (shown : IsShown same hash name m old s) where
    leads : RowBeginsThere same hash called caller s old.executor began.executor
    leads = (begins same hash name m s shown may_there).0

    row_is : work_of began.executor caller ≡ Some (OnSlot (begun_row slot old.executor.batch_size called))
    row_is = (leads may_there).1 ∙ ap (λ (x : ℕ). Some (OnSlot (begun_row x old.executor.batch_size called))) in_slot

    uses_are : began.executor.slots.items ≡ uses_begun slot called old.executor.slots.items
    uses_are = (leads may_there).2 ∙ ap (λ (x : ℕ). uses_begun x called old.executor.slots.items) in_slot

    -- then it runs,
    pub begun_there : (same2 : K → K → Bool) × (hash2 : K → ℕ) × (s2 : Scene K V) × IsThere same2 hash2 began.executor s2 × (row : SlotRow) × (work_of began.executor caller ≡ Some (OnSlot row))
    begun_there = (same, hash, record s { world = (leads may_there).3.2.0; maps = (leads may_there).3.2.2 }, (leads may_there).3.2.4, begun_row slot old.executor.batch_size called, row_is)

    -- and has run
    pub has_run : (said : RowTold (Node K V)) (before after : List Effect)
        → ((same2 : K → K → Bool) (hash2 : K → ℕ) (s2 : Scene K V) → IsThere same2 hash2 old.executor s2 → RowBeginsThere same2 hash2 called caller s2 old.executor began.executor)
        → began.notes ≡ old.notes → PreservesSettings old.executor began.executor
        → RowGone caller said before after began new → OnSlotComes caller said new → OnSlotLast caller said began.executor new.executor
        → ((row : SlotRow) → work_of began.executor caller ≡ Some (OnSlot row) → has_ended said ≡ true → new.executor.slots.items ≡ uses_ended row said began.executor.slots.items)
        → OnSlotRan before after began new → EndsTelling after new.executor → RowRan slot called said before after old new
    has_run said before after begun noted given gone comes last used ran tells = record {
      caller = caller;
      in_slot = in_slot;
      began = began;
      begins = begins;
      begun = begun;
      noted = noted;
      given = given;
      goes = goes_more (RowGoes caller) (far before began) gone.0 (far after new) gone.1 gone.2;
      gone = gone;
      last = last;
      come = comes.0;
      used = λ ended. used (begun_row slot old.executor.batch_size called) row_is ended
          ∙ ap (λ (l : List SlotUse). uses_ended (begun_row slot old.executor.batch_size called) said l) uses_are;
      tells = tells;
      did = ran.0;
      follows = ran.1;
      shown = λ same2 hash2 name2 m2 s2 shown2 may2.
          (let began2 = begins same2 hash2 name2 m2 s2 shown2 may_there in
          ran.3 same2 hash2 name2 m2 (record s2 { world = (began2.0 may_there).3.2.0; maps = (began2.0 may_there).3.2.2 }) began2.1);
    }
