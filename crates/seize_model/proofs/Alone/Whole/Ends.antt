-- A call that reclaims values ends, alone: with each step that is not its last it has less to go.
use Rattle.std.specs.Prelude.{Option}
use Rattle.std.proofs.Common.{◌≡◌, ℕ, zero, suc, ◌+◌, ◌<◌, true, List, ◌⊎◌, inl, inr, refl, ap, sym, subst}
use Rattle.seize.specs.Given.SeizeWordsMem.{Mem, Took, value_at}
use Rattle.seize.specs.Given.SeizeWordsPlan.{Steps}
use Rattle.seize.specs.declared.rows.settle.Settle.{Settle}
use Rattle.seize.specs.declared.rows.settle.Settled.{Settled}
use Rattle.seize.specs.declared.rows.settle.Settled.TheVariants.{Goes, Waits}
use Rattle.seize.specs.declared.rows.leave.Leave.{Leave}
use Rattle.seize_model.specs.declared.calls.WholeCall.{WholeCall}
use Rattle.seize_model.specs.declared.calls.WholeCall.TheVariants as call
use Rattle.seize.specs.Settle.{settle_plan}
use Rattle.seize.specs.Leave.{leave_plan}
use Rattle.seize.specs.declared.states.TheConstants.{LAST_SLOT}
use Rattle.seize.specs.World.{World, Row, Settles, Leaves, Request, Begin, Step, at_start}
use Rattle.seize_model.specs.Alone.Alone.{History, IsMidway, TakesSteps, CallSteps, at_rest, row_of}
use Rattle.seize_model.proofs.Ends.Settling.Most.{is_going, settle_to_go}
use Rattle.seize_model.proofs.Ends.Rows.Lone.{leave_to_go, settles_lower, leaves_lower}
use Rattle.seize_model.proofs.Ends.Batches.Rows.{HeldByRows, happens_held, start_held, turns_held, settles_alone}
use Rattle.seize_rule.proofs.World.Rested.{start_rested}
use Rattle.seize_model.proofs.Alone.Histories.Calls.{history_rested}
use Rattle.seize_model.proofs.Alone.Whole.Steps.{Since, since, since_step, since_begun}

-- how many steps a call takes that runs alone
abbrev pub call_to_go : {T : Type 0} → (T → Option ℕ) → Mem T → WholeCall → ℕ
call_to_go defers m (call.Settles c) = settle_to_go defers m c
call_to_go defers m (call.Leaves c) = leave_to_go defers m c

module _ {T : Type 0} (defers : T → Option ℕ) (batch_size roots : ℕ) (m : Mem T) (h : History) (request : Request) where
  held_steps : (steps : ℕ) (w n : World T) → Since defers batch_size roots m h request w → HeldByRows w → TakesSteps defers steps 0 w n → HeldByRows n
  held_steps zero w n s held st = subst (λ (v : World T). HeldByRows v) (sym st) held
  held_steps (suc steps) w n s held st =
      held_steps steps st.0 n (since_step defers batch_size roots m h request w st.0 s st.1) (happens_held defers batch_size (Step 0) w st.0 s.lone.good st.1 held) st.2

  held : (row : Row) (m2 : Mem T) (given : List T) (mid : IsMidway defers batch_size roots m h request row m2 given) → HeldByRows mid.now
  held row m2 given mid =
      let rested = history_rested defers batch_size roots m h mid.history in
      let before = turns_held defers batch_size mid.history.0 (at_start defers roots) (at_rest defers m h) h.before (start_rested defers (LAST_SLOT + 1) batch_size refl roots) mid.history.1 (start_held defers batch_size roots) in
      let first = since_begun defers batch_size roots m h mid.history request mid.begun mid.may mid.begins in
      held_steps mid.steps mid.begun mid.now first (happens_held defers batch_size (Begin 0 request) (at_rest defers m h) mid.begun rested.good (rested.rests 0, mid.begins) before) mid.runs

  module _ (m2 : Mem T) (given : List T) (m3 : Mem T) where
    settles_less : (c d : Settle) (p : Settled T) → IsMidway defers batch_size roots m h request (Settles c) m2 given → is_going p ≡ true → Steps Took value_at m2 (settle_plan defers c) m3 (d, p)
        → settle_to_go defers m3 d < settle_to_go defers m2 c
    settles_less c d p mid going st =
        let lone = (since defers batch_size roots m h request (Settles c) m2 given mid).lone in
        let e = mid.memory_now in
        let lower = settles_lower defers batch_size 0 mid.now lone c mid.row_now
        (settles_alone mid.now 0 lone.others (held (Settles c) m2 given mid) defers c mid.row_now) m3 (d, p)
        (subst (λ (k : Mem T). Steps Took value_at k (settle_plan defers c) m3 (d, p)) (sym e) st) going in
        subst (λ (k : Mem T). settle_to_go defers m3 d < settle_to_go defers k c) e lower

    leaves_less : (c d : Leave) (p : Settled T) → IsMidway defers batch_size roots m h request (Leaves c) m2 given → is_going p ≡ true → Steps Took value_at m2 (leave_plan defers c) m3 (d, p)
        → leave_to_go defers m3 d < leave_to_go defers m2 c
    leaves_less c d p mid going st =
        let lone = (since defers batch_size roots m h request (Leaves c) m2 given mid).lone in
        let e = mid.memory_now in
        let lower = leaves_lower defers batch_size 0 mid.now lone (held (Leaves c) m2 given mid) c mid.row_now m3 d p
        (subst (λ (k : Mem T). Steps Took value_at k (leave_plan defers c) m3 (d, p)) (sym e) st) going in
        subst (λ (k : Mem T). leave_to_go defers m3 d < leave_to_go defers k c) e lower

    pub call_falls : (c d : WholeCall) (p : Settled T) → IsMidway defers batch_size roots m h request (row_of c) m2 given → is_going p ≡ true → CallSteps defers m2 c m3 d p
        → call_to_go defers m3 d < call_to_go defers m2 c
    call_falls (call.Settles c) (call.Settles d) p mid going st = settles_less c d p mid going st
    call_falls (call.Leaves c) (call.Leaves d) p mid going st = leaves_less c d p mid going st
    call_falls (call.Settles c) (call.Leaves d) p mid going st = absurd st
    call_falls (call.Leaves c) (call.Settles d) p mid going st = absurd st

    pub call_ends : (c d : WholeCall) (p : Settled T) → (p ≡ Goes) ⊎ (p ≡ Waits) → IsMidway defers batch_size roots m h request (row_of c) m2 given → CallSteps defers m2 c m3 d p
        → call_to_go defers m3 d < call_to_go defers m2 c
    call_ends c d p e mid st = call_falls c d p mid (going e) st
      where
        going : (p ≡ Goes) ⊎ (p ≡ Waits) → is_going p ≡ true
        going e = elim e as (λ _. is_going p ≡ true) [
          | inl goes ↦ ap is_going goes
          | inr waits ↦ ap is_going waits
        ]
