-- Reclaiming all, alone in a world in which every row rests: its work on slots is a list of whole calls, and reclaims what the waiting sets say.
use Rattle.std.specs.Prelude.{Option}
use Rattle.std.proofs.Common.{◌≡◌, ℕ, zero, suc, ◌+◌, ◌<◌, ◌≤◌, Bool, true, false, [], ◌⊎◌, inl, inr, refl, arith, subst, sym, ap, ◌∙◌}
use Rattle.seize.specs.Given.SeizeWordsDeclared.at.At.TheVariants as name
use Rattle.seize.specs.Given.SeizeWordsMem.{Mem}
use Rattle.seize.proofs.Given.SeizeWordsOneOwner.Operations.{stored}
use Rattle.seize.specs.declared.states.TheConstants.{HEAD, IDLE, LAST_SLOT}
use Rattle.seize.specs.declared.advance.Advance.{Advance}
use Rattle.seize.specs.declared.rows.enter.Unregister.{Unregister}
use Rattle.seize.specs.declared.rows.leave.Leave.{Leave}
use Rattle.seize.specs.declared.rows.settle.Settle.{Settle}
use Rattle.seize.specs.declared.rows.settle.Settled.{Settled}
use Rattle.seize.specs.declared.rows.settle.Settled.TheVariants.{Goes}
use Rattle.seize.specs.declared.rows.reclaim_all.ReclaimAll.{ReclaimAll}
use Rattle.seize.specs.declared.rows.reclaim_all.Reclaiming.{Reclaiming}
use Rattle.seize.specs.declared.rows.reclaim_all.Reclaiming.TheVariants as at
use Rattle.seize.specs.Enter.{unregister_plan}
use Rattle.seize.specs.ReclaimAll.{next_head, next_batch, next_free, to}
use Rattle.seize.specs.WaitingSets.{all_changed, at_start as sets_at_start}
use Rattle.seize.specs.World.{World, Row, Rests, Settles as SettlesRow, Leaves, Frees, Use, Vacant, Changing, IsTaken, Register', Leave', Flush, Unregister', Steps', one_more, with_row, with_use, after_step, at_start}
use Rattle.seize.specs.Sequence.{Calls}
use Rattle.seize_model.specs.Sets.Reclaims.{is_on_slots, RunsOnSlots, Reclaims, ReclaimsByCalls, ReclaimsAsTheSetsSay}
use Rattle.seize_rule.proofs.Rows.Leaving.{steps_back}
use Rattle.seize_rule.proofs.Rows.Others.{with_here}
use Rattle.seize_rule.proofs.World.Rested.{Rested, calls_rested, start_rested, turns_rested}
use Rattle.seize_model.proofs.Sets.Turns.All.{turns_shown, start_shown}
use Rattle.seize_model.proofs.Sets.Slots.Retaken.{retaken}
use Rattle.seize_model.proofs.Sets.Reclaims.NeverTaken.{turns_past}
use Rattle.seize_model.proofs.Sets.Reclaims.Rows.{leaves_within, flushes_within}
use Rattle.seize_model.proofs.Sets.Reclaims.Ends.{all_left_so}
use Rattle.seize_model.proofs.Sets.Reclaims.Stages.{Stage, first_stage, head_on, retake_on, leave_on, batch_on, flush_on, give_up_on}

module _ {T : Type 0} (defers : T → Option ℕ) (left_over : T → Bool) (n size roots : ℕ) (last : n ≡ LAST_SLOT + 1) (i : ℕ) (w : World T) (final : Mem T) where
  abbrev At : ReclaimAll → World T → Type 0
  At c v = Stage defers n size roots last i w c v

  abbrev Runs : ℕ → ReclaimAll → Mem T → Type 0
  Runs steps c m = RunsOnSlots defers left_over steps c m final

  abbrev Result : Type 0
  Result = (u : World T) × Reclaims defers size i w u × (u.memory ≡ final)

  -- it stands between two rows with fewer steps left
  record Later (steps : ℕ) : Type 0 where
    pub rest : ℕ
    pub fewer : rest < steps
    pub machine : ReclaimAll
    pub world : World T
    pub rested : Rested defers n size world
    pub stage : At machine world
    pub runs : Runs rest machine world.memory

  abbrev Next : ℕ → Type 0
  Next steps = Result ⊎ Later steps

  -- the same run, its machine and its memory in other words
  runs_so : (rest : ℕ) (m m2 : Mem T) (end want : ReclaimAll × Settled T) → m2 ≡ m → end ≡ want → Runs rest end.0 m2 → Runs rest want.0 m
  runs_so rest m m2 end want same e h =
      subst (λ (x : Mem T). Runs rest want.0 x) same (subst (λ (q : ReclaimAll × Settled T). Runs rest q.0 m2) e h)

  -- past the slots
  stops : (steps : ℕ) (c : ReclaimAll) (m : Mem T) → is_on_slots c.stands ≡ false → Runs steps c m → final ≡ m
  stops zero c m e h = h.1
  stops (suc steps) c m e h = absurd (let k = h.0 in cc (k, e))

  module _ (batch slots all : ℕ) (again : Bool) (v : World T) (rested : Rested defers n size v) where
    abbrev machine : Reclaiming → ReclaimAll
    machine p = record { batch_size = batch; roots = all; slots = slots; again = again; stands = p }

    -- a look at a word leads to another stage in the same memory
    looked : (steps : ℕ) (m2 : Mem T) (end : ReclaimAll × Settled T) → (m2 ≡ v.memory) × (end.1 ≡ Goes) × At end.0 v → Runs steps end.0 m2 → Next (suc steps)
    looked steps m2 end k h =
        inr (record {
          rest = steps;
          fewer = omega arith;
          machine = end.0;
          world = v;
          rested = rested;
          stage = k.2;
          runs = runs_so steps v.memory m2 end end k.0 refl h;
        })

    retakes_next : (steps s : ℕ) → At (machine (at.Retakes s)) v → Runs (suc steps) (machine (at.Retakes s)) v.memory → Next (suc steps)
    retakes_next steps s st h =
        let c = machine (at.Retakes s) in
        let free = st.here.3 in
        let d = stored v.memory (λ out. to (next_head c s)) (name.Slot s HEAD) IDLE h.1 h.2 h.3 in
        let call = retaken defers n size last i v rested s st.here.1 free st.here.2.idle in
        inr (record {
          rest = steps;
          fewer = omega arith;
          machine = next_head c s;
          world = call.0;
          rested = calls_rested defers n size last i (Register' false) v call.0 rested call.1;
          stage = retake_on defers n size roots last i w c st.size_is st.roots_are s v rested st.here.0 st.here.1 st.here.2 free call.0 call.1 call.2;
          runs = runs_so steps call.0.memory h.1 h.2 (next_head c s, Goes) (d.0 ∙ sym call.2) d.1 h.4;
        })

    leaves_next : (steps s : ℕ) (l : Leave) → At (machine (at.Leaves s l)) v → Runs steps (machine (at.Leaves s l)) v.memory → Next steps
    leaves_next steps s l st h =
        let c = machine (at.Leaves s l) in
        let v1 = with_use (with_row v i (Leaves l)) s Changing in
        let k = leaves_within defers left_over i final c s steps v1 l (with_here v.row i (Leaves l)) h in
        let call : Calls defers size i (Leave' s) v k.2 = (v1, k.1, rested.rests i, (st.here.3, ap (λ (x : Leave). with_use (with_row v i (Leaves x)) s Changing) st.fresh), k.4) in
        inr (record {
          rest = k.0;
          fewer = k.3;
          machine = next_head c s;
          world = k.2;
          rested = calls_rested defers n size last i (Leave' s) v k.2 rested call;
          stage = leave_on defers n size roots last i w c st.size_is st.roots_are s v rested st.here.0 st.here.1 st.here.2 st.here.3 k.2 call;
          runs = k.5;
        })

    flushes_next : (steps s : ℕ) (d : Settle) → At (machine (at.Flushes s d)) v → Runs steps (machine (at.Flushes s d)) v.memory → Next steps
    flushes_next steps s d st h =
        let c = machine (at.Flushes s d) in
        let v1 = with_use (with_row v i (SettlesRow d)) s (one_more (v.uses s)) in
        let k = flushes_within defers left_over i final c s steps v1 d (with_here v.row i (SettlesRow d)) h in
        let taken : IsTaken (v.uses s) = subst (λ (x : Use). IsTaken x) (sym (st.here.1.idle s st.here.0)) tt in
        let call : Calls defers size i (Flush s) v k.2 = (v1, k.1, rested.rests i, (taken, ap (λ (x : Settle). with_use (with_row v i (SettlesRow x)) s (one_more (v.uses s))) st.fresh), k.4) in
        inr (record {
          rest = k.0;
          fewer = k.3;
          machine = next_batch (record c { again = true }) s;
          world = k.2;
          rested = calls_rested defers n size last i (Flush s) v k.2 rested call;
          stage = flush_on defers n size roots last i w c st.size_is st.roots_are s v rested st.here.0 st.here.1 st.here.2 st.here.3 k.2 call;
          runs = k.5;
        })

    frees_next : (steps s : ℕ) → At (machine (at.Frees s)) v → Runs (suc steps) (machine (at.Frees s)) v.memory → Next (suc steps)
    frees_next steps s st h =
        let c = machine (at.Frees s) in
        let gives : Unregister = record { slot = s } in
        let goes : Unregister × Advance Unit → ReclaimAll × Settled T = λ end. (next_free c s, Goes) in
        let back = steps_back goes v.memory h.1 (unregister_plan gives) h.2 h.3 in
        let v1 = with_use (with_row v i (Frees gives)) s Changing in
        let u = with_use (after_step v1 i h.1 Rests []) s Vacant in
        let step : Steps' defers i (v1.row i) v1 u =
        subst (λ (row : Row). Steps' defers i row v1 u) (sym (with_here v.row i (Frees gives))) (h.1, back.0, back.1, refl) in
        let call : Calls defers size i (Unregister' s) v u =
        (v1, 1, rested.rests i, (st.here.1.idle s (omega arith) st.here.0, refl), (u, step, (with_here v1.row i Rests, refl))) in
        inr (record {
          rest = steps;
          fewer = omega arith;
          machine = next_free c s;
          world = u;
          rested = calls_rested defers n size last i (Unregister' s) v u rested call;
          stage = give_up_on defers n size roots last i w c st.size_is st.roots_are s v rested st.here.0 st.here.1 u call;
          runs = runs_so steps h.1 h.1 h.2 (next_free c s, Goes) refl back.2 h.4;
        })

    -- from stage to stage
    next : (steps : ℕ) (p : Reclaiming) → At (machine p) v → Runs steps (machine p) v.memory → Next steps
    next zero (at.Heads s) st h = absurd (let k = h.0 in cc k)
    next (suc steps) (at.Heads s) st h =
        looked steps h.1 h.2 (head_on defers n size roots last i w (machine (at.Heads s)) st.size_is st.roots_are s v rested st.here.0 st.here.1 st.here.2 h.1 h.2 h.3) h.4
    next zero (at.Retakes s) st h = absurd (let k = h.0 in cc k)
    next (suc steps) (at.Retakes s) st h = retakes_next steps s st h
    next steps (at.Leaves s l) st h = leaves_next steps s l st h
    next zero (at.Batches s) st h = absurd (let k = h.0 in cc k)
    next (suc steps) (at.Batches s) st h =
        looked steps h.1 h.2 (batch_on defers n size roots last i w (machine (at.Batches s)) st.size_is st.roots_are s v rested st.here.0 st.here.1 h.1 h.2 h.3) h.4
    next steps (at.Flushes s d) st h = flushes_next steps s d st h
    next zero (at.Frees s) st h = absurd (let k = h.0 in cc k)
    next (suc steps) (at.Frees s) st h = frees_next steps s st h
    next steps (at.Roots root) st h = inl (v, st.here, sym (stops steps (machine (at.Roots root)) v.memory refl h))
    next steps (at.Nexts root block) st h = absurd st.here
    next steps (at.Takes root block more) st h = absurd st.here
    next steps (at.Empties root) st h = absurd st.here
    next steps (at.Unuses root) st h = absurd st.here
    next steps at.Over st h = inl (v, st.here, sym (stops steps (machine at.Over) v.memory refl h))

  comes : (fuel steps : ℕ) → steps ≤ fuel → (c : ReclaimAll) (v : World T) → Rested defers n size v → At c v → Runs steps c v.memory → Result
  comes zero steps le c v rested st h = elim (next c.batch_size c.slots c.roots c.again v rested steps c.stands st h) as (λ _. Result) [
    | inl r ↦ r
    | inr k ↦ absurd (let l = k.fewer in omega (arith, le, l))
  ]
  comes (suc fuel) steps le c v rested st h = elim (next c.batch_size c.slots c.roots c.again v rested steps c.stands st h) as (λ _. Result) [
    | inl r ↦ r
    | inr k ↦ comes fuel k.rest (let l = k.fewer in omega (arith, le, l)) k.machine k.world k.rested k.stage k.runs
  ]

-- after any turns from the start
pub reclaims_by_calls : {T : Type 0} (defers : T → Option ℕ) (left_over : T → Bool) → ReclaimsByCalls defers left_over
reclaims_by_calls defers left_over size roots turns w before i steps m turned h =
    let n = LAST_SLOT + 1 in
    let rested = turns_rested defers n size refl turns (at_start defers roots) w before (start_rested defers n size refl roots) turned in
    comes defers left_over n size roots refl i w m steps steps (omega arith) _ w rested (first_stage defers n size roots refl i w) h

-- and this is reclaimed then, with nothing left
pub reclaims_as_sets : {T : Type 0} (defers : T → Option ℕ) (left_over : T → Bool) → ReclaimsAsTheSetsSay defers left_over
reclaims_as_sets defers left_over size roots turns w before i steps m word turned h =
    let n = LAST_SLOT + 1 in
    let sets = (all_changed size before sets_at_start).sets in
    let shown = turns_shown defers n size refl word turns (at_start defers roots) w before sets_at_start (start_shown defers n size refl word roots) turned in
    let calls = reclaims_by_calls defers left_over size roots turns w before i steps m turned h in
    let past = turns_past defers n size refl word turns (at_start defers roots) w before sets_at_start (start_rested defers n size refl roots) turned (λ s l. refl) in
    let k = all_left_so defers n size refl word i w calls.0 sets shown past calls.1 in (calls.0, calls.1, calls.2, k.came.taken, k.waits, k.retired, k.vacant)
