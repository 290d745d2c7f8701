-- A row on a slot that goes on, and does not wait, has less to go after its step.
use Rattle.std.specs.Prelude.{◌≡◌, ◌<◌, ℕ, suc, Bool, true, false, Option, Some}
use Rattle.std.proofs.Common.{refl, sym, ap, subst, ◌∙◌, arith}
use Rattle.run_schedules.specs.Given.SeizeWordsMem.{Mem, Took, value_at}
use Rattle.run_schedules.specs.Given.SeizeWordsPlan.{Steps}
use Rattle.seize.specs.declared.advance.Advance.{Advance}
use Rattle.seize.specs.declared.advance.Advance.TheVariants as progress
use Rattle.seize.specs.declared.rows.enter.Enter.{Enter}
use Rattle.seize.specs.declared.rows.enter.Unregister.{Unregister}
use Rattle.seize.specs.declared.rows.register.Register.{Register}
use Rattle.seize.specs.declared.rows.settle.Settled.{Settled}
use Rattle.seize.specs.declared.rows.settle.Settled.TheVariants as settled
use Rattle.seize.specs.Enter.{enter_plan, unregister_plan}
use Rattle.seize.specs.Leave.{leave_plan}
use Rattle.seize.specs.Register.{register_plan}
use Rattle.seize.specs.Settle.{settle_plan}
use Rattle.seize.specs.World.{World}
use Rattle.run_shows.proofs.Given.SeizeEndsRows.Among.{Came, row_steps_left, settles_go_lower, leaves_go_lower}
use Rattle.run_shows.proofs.Given.SeizeEndsRows.Leaving.{leave_steps_left}
use Rattle.run_shows.proofs.Given.SeizeEndsRows.Register.{register_to_go, register_ends}
use Rattle.run_shows.proofs.Given.SeizeEndsSettling.Most.{goes_further, settle_steps_left}
use Rattle.papaya_raw.specs.Given.TablesNodes.{deferred_word}
use Rattle.papaya_raw.specs.Given.TablesDeclared.node.Node.{Node}
use Rattle.run_effects.specs.declared.changed.Changed.{Changed}
use Rattle.run_effects.specs.declared.changed.Changed.TheVariants.{Nothing}
use Rattle.run_executor.specs.declared.executor.Executor.{Executor}
use Rattle.run_shows.specs.declared.row.RowTold.{RowTold}
use Rattle.run_shows.specs.declared.row.RowTold.TheVariants as told
use Rattle.run_shows.specs.declared.row.SlotRow.{SlotRow}
use Rattle.run_shows.specs.declared.row.SlotRow.TheVariants as rows
use Rattle.run_executor.specs.declared.worker.Work.{Work}
use Rattle.run_executor.specs.declared.worker.Work.TheVariants as work
use Rattle.run_logged.specs.Log.OnSlots.{has_come}
use Rattle.run_executor.proofs.Executing.Uses.{reached}
use Rattle.run_executor.specs.Executing.IsThere.{IsThere, work_of}
use Rattle.run_executor.specs.Executing.OnSlots.{RowStepsThere, row_on}
use Rattle.run_shows.proofs.Scenes.Told.{as_step}
use Rattle.run_shows.specs.Scenes.OnSlots.{RowSteps}
use Rattle.run_shows.specs.Scenes.Rows.{of_registering, of_settling, of_storing}
use Rattle.run_shows.specs.Scenes.Scene.{Scene, row_of}

-- how many steps are left at most of what a caller has under way, if that is a row on a slot
abbrev pub steps_left_of : {K V : Type 0} → Mem (Node K V) → Option (Work K V) → ℕ
steps_left_of m (Some (work.OnSlot row)) = row_steps_left deferred_word m (row_of row)
steps_left_of m _ = 0

more : (a b : ℕ) → a < b → suc a < suc b
more a b less = omega (arith, less)

-- a row of one store ends with it
pub one_store : {T : Type 0} (it : RowTold T) (o : Advance Unit) → it ≡ of_storing o → o ≡ progress.Done tt → has_come it ≡ false → ⊥
one_store {T} it o is e h = ended it (is ∙ ap (λ (x : Advance Unit). of_storing {T = T} x) e) h
  where
    ended : (x : RowTold T) → x ≡ told.Done → has_come x ≡ false → ⊥
    ended x e h = cc (ap (λ (y : RowTold T). has_come y) e, h)

module _ {K V : Type 0} where
  abbrev come : RowTold (Node K V) → Bool
  come it = has_come it

  -- it goes on where what it tells says so
  further_so : (o : Settled (Node K V)) → come (of_settling o) ≡ false → goes_further o ≡ true
  further_so settled.Goes h = refl
  further_so settled.Waits h = absurd (cc h)
  further_so (settled.Gave value) h = refl
  further_so settled.Done h = absurd (cc h)

  module _ (size i : ℕ) (w : World (Node K V)) (came : Came deferred_word size i w) (m2 : Mem (Node K V)) where
    registers_less : (c d : Register) (o : Advance ℕ) → Steps Took value_at w.memory (register_plan c) m2 (d, o) → come (of_registering o) ≡ false
        → suc (register_to_go d) < suc (register_to_go c)
    registers_less c d progress.Goes st h = more _ _ (register_ends w.memory c m2 (d, progress.Goes) st tt)
    registers_less c d progress.Waits st h = absurd (cc h)
    registers_less c d (progress.Done slot) st h = absurd (cc h)
    registers_less c d (progress.Refused fault) st h = absurd (cc h)

    -- whichever row it is
    row_less : (row : SlotRow) (changed : Changed) (end : SlotRow × RowTold (Node K V)) → w.row i ≡ row_of row → RowSteps K V row w.memory m2 changed end → come end.1 ≡ false
        → row_steps_left deferred_word m2 (row_of end.0) < row_steps_left deferred_word w.memory (row_of row)
    row_less (rows.Registers c) changed end is st =
        subst (λ (e : SlotRow × RowTold (Node K V)). come e.1 ≡ false → row_steps_left deferred_word m2 (row_of e.0) < suc (register_to_go c)) (sym st.2)
        (registers_less c st.0.0 st.0.1 (as_step w.memory Nothing (register_plan c) m2 changed st.0 st.1))
    row_less (rows.Enters c) changed end is st =
        let step = as_step w.memory Nothing (enter_plan c) m2 changed st.0 st.1 in
        λ h. absurd (one_store end.1 st.0.1 (ap (λ (e : SlotRow × RowTold (Node K V)). e.1) st.2) (ap (λ (x : Enter × Advance Unit). x.1) step.2) h)
    row_less (rows.Leaves c) changed end is st =
        subst (λ (e : SlotRow × RowTold (Node K V)). come e.1 ≡ false → row_steps_left deferred_word m2 (row_of e.0) < suc (leave_steps_left deferred_word goes_further w.memory c)) (sym st.2)
        (λ h. more _ _ (leaves_go_lower deferred_word size i w came c is m2 st.0.0 st.0.1 (as_step w.memory Nothing (leave_plan deferred_word c) m2 changed st.0 st.1) (further_so st.0.1 h)))
    row_less (rows.Flushes c) changed end is st =
        subst (λ (e : SlotRow × RowTold (Node K V)). come e.1 ≡ false → row_steps_left deferred_word m2 (row_of e.0) < suc (settle_steps_left deferred_word goes_further w.memory c)) (sym st.2)
        (λ h. more _ _ (settles_go_lower deferred_word size i w came c is m2 st.0 (as_step w.memory Nothing (settle_plan deferred_word c) m2 changed st.0 st.1) (further_so st.0.1 h)))
    row_less (rows.Frees c) changed end is st =
        let step = as_step w.memory Nothing (unregister_plan c) m2 changed st.0 st.1 in
        λ h. absurd (one_store end.1 st.0.1 (ap (λ (e : SlotRow × RowTold (Node K V)). e.1) st.2) (ap (λ (x : Unregister × Advance Unit). x.1) step.2) h)

  -- it is under way still
  pub under_way_on : (row : SlotRow) (it : RowTold (Node K V)) → come it ≡ false → row_on {K = K} {V = V} row it ≡ Some (work.OnSlot row)
  under_way_on row told.Goes h = refl
  under_way_on row (told.Gave value) h = refl
  under_way_on row told.Waits h = absurd (cc h)
  under_way_on row told.Done h = absurd (cc h)
  under_way_on row (told.Registered slot) h = absurd (cc h)
  under_way_on row (told.Refused fault) h = absurd (cc h)

module _ {K V S : Type 0} (same : K → K → Bool) (hash : K → ℕ) (old new : Executor K V S) (s : Scene K V) (at : IsThere same hash old s) (i : ℕ) (it : RowTold (Node K V))
    (leads : RowStepsThere same hash i it s old new) (row : SlotRow) (here : work_of old i ≡ Some (work.OnSlot row)) (goes : has_come it ≡ false) where
  came : Came deferred_word old.batch_size i s.world
  came = record { good = (reached same hash old s at).good; sized = (reached same hash old s at).sized }

  pub row_then : work_of new i ≡ Some (work.OnSlot (leads row here).1)
  row_then = (leads row here).3 ∙ under_way_on (leads row here).1 it goes

  pub steps_fall : steps_left_of new.memory.memory (work_of new i) < steps_left_of old.memory.memory (work_of old i)
  steps_fall =
      let to = leads row here in
      let steps = subst (λ (m : Mem (Node K V)). RowSteps K V row m new.memory.memory new.memory.changed (to.1, it)) (sym at.held.memory) to.2 in
      let less = row_less old.batch_size i s.world came new.memory.memory row new.memory.changed (to.1, it) to.0.1 steps goes in
      subst (λ (x : Option (Work K V)). steps_left_of new.memory.memory x < steps_left_of old.memory.memory (work_of old i)) (sym row_then)
      (subst (λ (x : Option (Work K V)). row_steps_left deferred_word new.memory.memory (row_of to.1) < steps_left_of old.memory.memory x) (sym here)
      (subst (λ (m : Mem (Node K V)). row_steps_left deferred_word new.memory.memory (row_of to.1) < row_steps_left deferred_word m (row_of row)) at.held.memory less))
