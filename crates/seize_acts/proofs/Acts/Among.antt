-- A row rests after so many steps, or waits, while nobody else steps: each of its steps that does not wait leaves it less to go.
use Rattle.std.specs.Prelude.{Option, ◌==◌, if◌then◌else◌}
use Rattle.std.proofs.Common.{◌≡◌, ℕ, zero, suc, ◌+◌, ◌<◌, ◌≤◌, Bool, true, false, List, ◌⊎◌, inl, inr, refl, arith, ap, sym, subst, ◌∙◌}
use Rattle.seize_words.specs.declared.at.At.TheVariants.{Slot}
use Rattle.seize_words.specs.OneMemory.Mem.{Mem, Took, value_at}
use Rattle.seize_words.specs.OneMemory.Plan.{Steps, Ends, Now}
use Rattle.seize_words.proofs.OneMemory.OneOwner.Operations.{loaded}
use Rattle.seize.specs.declared.states.TheConstants.{BATCH, HELD, LAST_SLOT}
use Rattle.seize.specs.declared.advance.Advance.{Advance}
use Rattle.seize.specs.declared.advance.Advance.TheVariants as progress
use Rattle.seize.specs.declared.rows.settle.Settle.{Settle}
use Rattle.seize.specs.declared.rows.settle.Settling.{Settling}
use Rattle.seize.specs.declared.rows.settle.Settling.TheVariants as at
use Rattle.seize.specs.declared.rows.settle.Settled.{Settled}
use Rattle.seize.specs.declared.rows.settle.Settled.TheVariants as settled
use Rattle.seize.specs.declared.rows.leave.Leave.{Leave}
use Rattle.seize.specs.declared.rows.leave.Leaving.{Leaving}
use Rattle.seize.specs.declared.rows.leave.Leaving.TheVariants as leaving
use Rattle.seize.specs.declared.rows.defer.Defer.{Defer}
use Rattle.seize.specs.declared.rows.register.Register.{Register}
use Rattle.seize.specs.Settle.{plan_at, seen, settle_plan}
use Rattle.seize.specs.Settle as plans
use Rattle.seize.specs.Leave.{leave_plan, standing}
use Rattle.seize.specs.Register.{register_plan}
use Rattle.seize.specs.World as world
use Rattle.seize.specs.World.{World, Row, Rests, Registers, Enters, Settles, Leaves, Defers, Frees, Event, Runs, Steps', settles_on, leaves_on, registers_on, defers_on, at_start}
use Rattle.seize_model.proofs.Given.SeizeRuleRows.Others.{with_here}
use Rattle.seize_model.proofs.Given.SeizeRuleRows.SizesKept.{happens_sized}
use Rattle.seize_model.proofs.Given.SeizeRuleWorld.Kept.{happens_good}
use Rattle.seize_model.proofs.Given.SeizeRuleWorld.Start.{start_good}
use Rattle.seize_model.proofs.Ends.Batches.Held.{waits_held}
use Rattle.seize_model.proofs.Ends.Rows.Among.{Came, row_steps_left, settles_go_lower, leaves_go_lower}
use Rattle.seize_model.proofs.Ends.Rows.Defer.{Lower, defer_to_go, defer_ends}
use Rattle.seize_model.proofs.Ends.Rows.Leaving.{leave_steps_left}
use Rattle.seize_model.proofs.Ends.Rows.Register.{register_to_go, register_ends}
use Rattle.seize_model.proofs.Ends.Settling.Most.{goes_further, settle_steps_left}
use Rattle.seize_model.proofs.Alone.Histories.Reached.{runs_reached}
use Rattle.seize_acts.specs.Acts.Ends.{IdleOrWaitsWithin, RowsRestOrWait, RowsFall}
use Rattle.seize_acts.proofs.Acts.Waits.{leave_waits}

module _ {T : Type 0} (defers : T → Option ℕ) where
  -- a step that waits changes nothing

  settle_still : (mem mem2 : Mem T) (c d : Settle) → Steps Took value_at mem (settle_plan defers c) mem2 (d, settled.Waits) → (d ≡ c) × (mem2 ≡ mem)
  settle_still mem mem2 c d st =
      let k = waits_held defers mem mem2 c d c.stands st in
      let l = loaded mem (seen c) (Slot c.slot BATCH) mem2 (d, settled.Waits) (subst (λ (p : Settling). Steps Took value_at mem (plan_at defers c p) mem2 (d, settled.Waits)) k.1 st) in
      (by l.0 (l.0 == HELD) l.3, l.2)
    where
      by : (word : ℕ) (t : Bool) → Ends (value_at mem) (if t then Now (c, settled.Waits) else plans.to (record c { last = word; stands = at.Holds })) (d, settled.Waits) → d ≡ c
      by word true e = ap (λ (q : Settle × Settled T). q.0) e
      by word false e = absurd (let z = ap (λ (q : Settle × Settled T). q.1) e in cc z)

  leave_still : (mem mem2 : Mem T) (c d : Leave) → Steps Took value_at mem (leave_plan defers c) mem2 (d, settled.Waits) → (d ≡ c) × (mem2 ≡ mem)
  leave_still mem mem2 c d st =
      let l = leave_waits defers c d mem mem2 c.stands st in
      let k = settle_still mem mem2 l.0 l.1 l.3 in
      (l.4 ∙ ap (λ (p : Leaving). standing c p) (ap leaving.Settles k.0 ∙ sym l.2), k.1)

  module _ (size i : ℕ) where
    -- where the row goes on as this one
    here : (w : World T) (m : Mem T) (row : Row) (k : ℕ) → row_steps_left defers m row < k → row_steps_left defers m (world.with_at w.row i row i) < k
    here w m row k less = subst (λ (r : Row). row_steps_left defers m r < k) (sym (with_here w.row i row)) less

    more : (a b : ℕ) → a < b → suc a < suc b
    more a b less = omega (arith, less)

    some_left : (k : ℕ) → 0 < suc k
    some_left k = omega arith

    none_left : (m : Mem T) (row : Row) → row_steps_left defers m row ≤ 0 → row ≡ Rests
    none_left m Rests le = refl
    none_left m (Registers c) le = absurd (omega (arith, le))
    none_left m (Enters c) le = absurd (omega (arith, le))
    none_left m (Settles c) le = absurd (omega (arith, le))
    none_left m (Leaves c) le = absurd (omega (arith, le))
    none_left m (Defers s c) le = absurd (omega (arith, le))
    none_left m (Frees c) le = absurd (omega (arith, le))

    -- the step waits, or leaves less to go
    abbrev Further : Row → World T → World T → Type 0
    Further row w v = ((v.row i ≡ row) × (v.memory ≡ w.memory)) ⊎ (row_steps_left defers v.memory (v.row i) < row_steps_left defers w.memory row)

    module _ (w : World T) (came : Came defers size i w) where
      registers_further : (c d : Register) (m : Mem T) (o : Advance ℕ) → Steps Took value_at w.memory (register_plan c) m (d, o) → Further (Registers c) w (registers_on w i c m (d, o))
      registers_further c d m progress.Goes st = inr (here w m (Registers d) _ (more _ _ (register_ends w.memory c m (d, progress.Goes) st tt)))
      registers_further c d m progress.Waits st = inr (here w m (Registers d) _ (more _ _ (register_ends w.memory c m (d, progress.Waits) st tt)))
      registers_further c d m (progress.Done s) st = inr (here w m Rests _ (some_left (register_to_go c)))
      registers_further c d m (progress.Refused fault) st = inr (here w m Rests _ (some_left (register_to_go c)))

      settles_further : (c d : Settle) (m : Mem T) (o : Settled T) → w.row i ≡ Settles c → Steps Took value_at w.memory (settle_plan defers c) m (d, o) → Further (Settles c) w (settles_on w i c m (d, o))
      settles_further c d m settled.Goes is st = inr (here w m (Settles d) _ (more _ _ (settles_go_lower defers size i w came c is m (d, settled.Goes) st refl)))
      settles_further c d m settled.Waits is st = let k = settle_still w.memory m c d st in inl (with_here w.row i (Settles d) ∙ ap Settles k.0, k.1)
      settles_further c d m (settled.Gave value) is st = inr (here w m (Settles d) _ (more _ _ (settles_go_lower defers size i w came c is m (d, settled.Gave value) st refl)))
      settles_further c d m settled.Done is st = inr (here w m Rests _ (some_left (settle_steps_left defers goes_further w.memory c)))

      leaves_further : (c d : Leave) (m : Mem T) (o : Settled T) → w.row i ≡ Leaves c → Steps Took value_at w.memory (leave_plan defers c) m (d, o) → Further (Leaves c) w (leaves_on w i c m (d, o))
      leaves_further c d m settled.Goes is st = inr (here w m (Leaves d) _ (more _ _ (leaves_go_lower defers size i w came c is m d settled.Goes st refl)))
      leaves_further c d m settled.Waits is st = let k = leave_still w.memory m c d st in inl (with_here w.row i (Leaves d) ∙ ap Leaves k.0, k.1)
      leaves_further c d m (settled.Gave value) is st = inr (here w m (Leaves d) _ (more _ _ (leaves_go_lower defers size i w came c is m d (settled.Gave value) st refl)))
      leaves_further c d m settled.Done is st = inr (here w m Rests _ (some_left (leave_steps_left defers goes_further w.memory c)))

      defers_further : (s : ℕ) (c d : Defer) (m : Mem T) (o : Advance Unit) → Lower (defer_to_go w.memory c) m (d, o) → Further (Defers s c) w (defers_on w i s m (d, o))
      defers_further s c d m progress.Goes (inl k) = inr (here w m (Defers s d) _ (more _ _ k.1))
      defers_further s c d m progress.Goes (inr e) = absurd (cc e)
      defers_further s c d m progress.Waits (inl k) = absurd (let e = k.0 in cc e)
      defers_further s c d m progress.Waits (inr e) = absurd (cc e)
      defers_further s c d m (progress.Done u) l = inr (here w m Rests _ (some_left (defer_to_go w.memory c)))
      defers_further s c d m (progress.Refused fault) (inl k) = absurd (let e = k.0 in cc e)
      defers_further s c d m (progress.Refused fault) (inr e) = absurd (cc e)

      step_further : (row : Row) (v : World T) → w.row i ≡ row → Steps' defers i row w v → Further row w v
      step_further Rests v is st = absurd st
      step_further (Registers c) v is st = subst (λ (x : World T). Further (Registers c) w x) (sym st.3) (registers_further c st.1.0 st.0 st.1.1 st.2)
      step_further (Enters c) v is st = subst (λ (x : World T). Further (Enters c) w x) (sym st.3) (inr (here w st.0 Rests 1 (some_left 0)))
      step_further (Settles c) v is st = subst (λ (x : World T). Further (Settles c) w x) (sym st.3) (settles_further c st.1.0 st.0 st.1.1 is st.2)
      step_further (Leaves c) v is st = subst (λ (x : World T). Further (Leaves c) w x) (sym st.3) (leaves_further c st.1.0 st.0 st.1.1 is st.2)
      step_further (Defers s c) v is st =
          subst (λ (x : World T). Further (Defers s c) w x) (sym st.3) (defers_further s c st.1.0 st.0 st.1.1 (defer_ends defers (LAST_SLOT + 1) w came.good i s c is st.0 st.1 st.2))
      step_further (Frees c) v is st = subst (λ (x : World T). Further (Frees c) w x) (sym st.3) (inr (here w st.0 Rests 1 (some_left 0)))

    came_on : (w v : World T) → Came defers size i w → Steps' defers i (w.row i) w v → Came defers size i v
    came_on w v came st = record {
      good = happens_good defers (LAST_SLOT + 1) size refl w v came.good came.sized (world.Step i) st;
      sized = happens_sized defers size w v came.sized (world.Step i) st;
    }

    rests_or_waits : (k : ℕ) (w : World T) → Came defers size i w → row_steps_left defers w.memory (w.row i) ≤ k → IdleOrWaitsWithin defers k i w
    rests_or_waits zero w came le = none_left w.memory (w.row i) le
    rests_or_waits (suc k) w came le = λ v st. by v (step_further w came (w.row i) v refl st) (rests_or_waits k v (came_on w v came st))
      where
        by : (v : World T) → Further (w.row i) w v → (row_steps_left defers v.memory (v.row i) ≤ k → IdleOrWaitsWithin defers k i v)
            → ((v.row i ≡ w.row i) × (v.memory ≡ w.memory)) ⊎ IdleOrWaitsWithin defers k i v
        by v (inl waits) later = inl waits
        by v (inr less) later = inr (later (omega (arith, le, less)))

-- each world that comes about from the start is such a one
came_by : {T : Type 0} (defers : T → Option ℕ) (size roots i : ℕ) (events : List (Event T)) (w : World T)
    → Runs defers size events (at_start defers roots) w → Came defers size i w
came_by defers size roots i events w runs =
    let r = runs_reached defers size events (at_start defers roots) w (record { good = start_good defers (LAST_SLOT + 1) size roots; sized = λ j. tt }) runs in
    record { good = r.good; sized = r.sized }

pub rows_rest_or_wait : {T : Type 0} (defers : T → Option ℕ) → RowsRestOrWait defers
rows_rest_or_wait defers size roots i events w runs =
    let left = row_steps_left defers w.memory (w.row i) in
    (left, rests_or_waits defers size i left w (came_by defers size roots i events w runs) (omega arith))

pub rows_fall : {T : Type 0} (defers : T → Option ℕ) → RowsFall defers
rows_fall defers =
    (row_steps_left defers, λ size roots i events w n runs st. step_further defers size i w (came_by defers size roots i events w runs) (w.row i) n refl st)
