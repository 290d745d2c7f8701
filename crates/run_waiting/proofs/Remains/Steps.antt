-- Each step of a call leaves what is left over where it is, and so does each row on a slot.
use Rattle.std.specs.Prelude.{ℕ, Bool}
use Rattle.std.proofs.Common.{refl}
use Rattle.run_debts.specs.Given.SeizeWorld.{Begin, Step}
use Rattle.run_debts.specs.Given.SchedulesEffects.{with_effects}
use Rattle.run_debts.specs.Given.CallersTogether.{IsOfSlots}
use Rattle.run_debts.specs.Given.ScenesDeclared.row.SlotCall.{SlotCall}
use Rattle.run_debts.specs.Given.ScenesDeclared.row.SlotCall.TheVariants as call
use Rattle.run_debts.specs.Given.OthersRows.{scene_then}
use Rattle.run_debts.proofs.Given.ReclaimsLeft.Calls.{guards_leave_it, machines_leave_it}
use Rattle.run_waiting.specs.Remains.Steps.{CallsPreserveRemains, RowsBeginRemain, RowsPreserveRemains}
use Rattle.run_waiting.proofs.Remains.Stays.{goes_on, remains_stay, roots_stay}
use Rattle.run_debts.specs.Given.ScenesRows.{request_of}
use Rattle.run_debts.specs.Given.ScenesScene.{slot_of}
use Rattle.run_debts.specs.Given.ScenesStepping.{scene_after}

-- what callers ask of slots is of slots
is_of_slots : (slot : ℕ) (called : SlotCall) → IsOfSlots (request_of slot called)
is_of_slots slot (call.Register enters) = tt
is_of_slots slot call.Enter = tt
is_of_slots slot call.Leave = tt
is_of_slots slot call.LeaveOwned = tt
is_of_slots slot call.Refresh = tt
is_of_slots slot call.Flush = tt
is_of_slots slot call.Unregister = tt

module _ (K V : Type 0) (same : K → K → Bool) (hash : ℕ → K → ℕ) where
  pub calls_keep_remains : CallsPreserveRemains K V same hash
  calls_keep_remains m known known2 s old new at shows map i u here said leads caller acted effects noted =
      let to = leads map u here in
      goes_on old.roots m (with_effects caller acted effects m) known known2 s (scene_after same s old new map i to.0 u to.1 said to.4) shows noted (roots_stay caller acted effects m) (remains_stay caller acted effects m)
      (machines_leave_it V same same old.batch_size old.roots slot_of s.world s.maps s.calls s.makers s.enders shows.lists at.together shows.left map to.0 to.2 i u here new.memory to.1 said to.4)
      shows.ending

  pub rows_begin_remain : RowsBeginRemain K V same hash
  rows_begin_remain m known s old new at shows called i leads =
      let happened = leads.2 in
      goes_on old.roots m m known known s (scene_then same hash (Begin i (request_of (slot_of i) called)) s old new happened) shows (λ b n is before after. is) refl refl
      ((guards_leave_it V same same old.batch_size old.roots slot_of s.world s.maps s.calls s.makers s.enders shows.lists at.together shows.left i happened.0 happened.2 happened.3).0
      (request_of (slot_of i) called) (is_of_slots (slot_of i) called) happened.1)
      shows.ending

  pub rows_keep_remains : RowsPreserveRemains K V same hash
  rows_keep_remains m known known2 s old new at shows i said leads row here caller acted effects noted =
      let happened = (leads row here).2 in
      goes_on old.roots m (with_effects caller acted effects m) known known2 s (scene_then same hash (Step i) s old new happened) shows noted (roots_stay caller acted effects m) (remains_stay caller acted effects m)
      ((guards_leave_it V same same old.batch_size old.roots slot_of s.world s.maps s.calls s.makers s.enders shows.lists at.together shows.left i happened.0 happened.2 happened.3).1 happened.1)
      shows.ending
