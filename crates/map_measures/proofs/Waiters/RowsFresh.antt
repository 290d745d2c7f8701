-- In blocking mode, after a step of a row the copier within which a call stands has not found each place claimed.
use Rattle.std.specs.Prelude.{if◌then◌else◌, Option, Some, None, ◌==◌}
use Rattle.std.proofs.Common.{◌≡◌, ℕ, Bool, true, inl, inr, refl, ap, sym, subst, List, false}
use Rattle.seize_words.specs.OneMemory.Mem.{Mem, Took, value_at}
use Rattle.seize_words.specs.OneMemory.Plan.{Steps}
use Rattle.seize.specs.World.{World}
use Rattle.map_tables.specs.Chunks.{is_incremental}
use Rattle.map_tables.specs.declared.node.Node.{Node}
use Rattle.map_tables.specs.declared.setting.Setting.{Setting}
use Rattle.map_tables.specs.declared.table.Table.{Table}
use Rattle.map_machines.specs.Copier.{copier_plan, plan_at as copying_at}
use Rattle.map_machines.specs.declared.yielding.Yielding.{Yielding}
use Rattle.map_machines.specs.declared.copier.Copier.{Copier}
use Rattle.many_calls.specs.Given.RawDeclared.machines.answer.Called.{Called}
use Rattle.many_calls.specs.Given.RawDeclared.machines.call.KeyCall.{KeyCall}
use Rattle.many_calls.specs.Given.RawDeclared.machines.call.Calling.{Calling}
use Rattle.many_calls.specs.Given.RawDeclared.machines.call.Calling.TheVariants as at
use Rattle.many_calls.specs.Given.RuleChart.{Chart}
use Rattle.many_calls.specs.Given.RuleWords.{Blocks}
use Rattle.many_calls.specs.Given.PointsFactsCalls.{CallingFacts}
use Rattle.many_calls.specs.Given.PointsTold.{IsRowOfCall, IsRowOfCopier}
use Rattle.map_sweeps.specs.declared.reserve.Reserve.{Reserve}
use Rattle.map_sweeps.specs.declared.reserve.Reserving.{Reserving}
use Rattle.map_sweeps.specs.declared.reserve.Reserving.TheVariants as reserves
use Rattle.map_sweeps.specs.declared.sweep.Sweep.{Sweep}
use Rattle.map_sweeps.specs.declared.sweep.Sweeping.{Sweeping}
use Rattle.map_sweeps.specs.declared.sweep.Sweeping.TheVariants as sweeps
use Rattle.map_sweeps.specs.declared.sweep.Swept.{Swept}
use Rattle.many_calls.specs.Given.LateToldReserves.{IsRowOfReserve}
use Rattle.many_calls.specs.Given.LateToldSweeps.{IsRowOfSweep}
use Rattle.many_calls.specs.Given.RawCall.{plan_at, call_plan, copied}
use Rattle.many_calls.specs.Given.RawDeclared.machines.answer.Called.TheVariants as called
use Rattle.map_sweeps.specs.Reserves.Reserve as room_plans
use Rattle.map_sweeps.specs.Sweeps.Sweep as sweep_plans
use Rattle.map_sweeps.specs.declared.sweep.Swept.TheVariants as swept
use Rattle.many_calls.specs.Given.LateLateCalls.{SupersededCalling}
use Rattle.map_machines.specs.declared.copier.Copying.{Copying as Point}
use Rattle.map_machines.specs.declared.copier.Copying.TheVariants as copies
use Rattle.map_machines.specs.CopierPromotes.{retired, table_retired}
use Rattle.seize.specs.Settle.{settle_plan}
use Rattle.seize.specs.declared.rows.settle.Settle.{Settle}
use Rattle.seize.specs.declared.rows.settle.Settled.{Settled}
use Rattle.seize.specs.declared.rows.settle.Settled.TheVariants as settled
use Rattle.map_tables.specs.Nodes.{deferred_word}
use Rattle.many_calls.specs.Sights.{Visible, seen_by}
use Rattle.many_calls.specs.Together.{CallOnKey, UnderWay, OnKey, Together, in_slot, ForRoom, OverAll}
use Rattle.many_calls.specs.OverAll.{CallOverAll}
use Rattle.many_calls.specs.Rooms.{CallForRoom}
use Rattle.many_calls.specs.Rows.{once_over, past_row}
use Rattle.seize_acts.proofs.Given.SeizeRuleRows.Leaving.{steps_back}
use Rattle.many_calls.proofs.Given.RuleKeys.Always.{always_plan_as, always_steps}
use Rattle.map_measures.specs.Waits.Others.{copier_of, copier_in, copier_in_room, copier_in_sweep}
use Rattle.map_measures.proofs.Waits.EndingCalls.{copier_then}
use Rattle.map_measures.specs.Waiters.Blocking.{HaveEndsBlocking, SpentAt}
use Rattle.map_measures.proofs.Waiters.Spent.{anywhere, IsUnspent}
use Rattle.map_measures.proofs.Waiters.Begins.{IsNew, call_new}
use Rattle.map_measures.proofs.Waiters.BeginsSweeps.{sweep_new}
use Rattle.map_measures.proofs.Waiters.Calls.{GoesWithin, key_then, key_within, room_then, room_within, sweep_then, sweep_within}
use Rattle.map_measures.proofs.Waiters.Likes.{IsFreshCopier}

-- a row of a copier leaves it as one that has not found each place claimed
module _ (K V : Type 0) (hash : K → ℕ) (p : Copier) (none : p.spent ≡ false) where
  abbrev RowUnspent : Copier × Yielding (Node K V) Table → Type 0
  RowUnspent end = IsUnspent end.0

  over_unspent : (rest : ℕ) → IsUnspent (table_retired p rest)
  over_unspent rest = by (rest == 0)
    where
      by : (b : Bool) → IsUnspent (if b then record p { stands = copies.Over } else record p { stands = copies.Succeeds rest })
      by true = tt
      by false = none

  retired_unspent : (rest : ℕ) (end : Settle × Settled (Node K V)) → RowUnspent (retired p rest end)
  retired_unspent rest (settle, settled.Goes) = none
  retired_unspent rest (settle, settled.Waits) = none
  retired_unspent rest (settle, settled.Gave value) = none
  retired_unspent rest (settle, settled.Done) = over_unspent rest

  row_unspent : (m m2 : Mem (Node K V)) (end : Copier × Yielding (Node K V) Table) → IsRowOfCopier p.stands → Steps Took value_at m (copier_plan hash p) m2 end → IsUnspent end.0
  row_unspent m m2 end row s = by p.stands row s
    where
      by : (stands : Point) → IsRowOfCopier stands → Steps Took value_at m (copying_at hash p stands) m2 end → IsUnspent end.0
      by (copies.Retires settle rest) row s =
          always_steps RowUnspent m m2 (copying_at hash p (copies.Retires settle rest)) end (always_plan_as RowUnspent (retired p rest) (retired_unspent rest) (settle_plan deferred_word settle)) s
      by _ row s = absurd row

-- at a row no copier is to end a copying
row_spent : {K : Type 0} (c : Chart K) (p : Copier) (stands : Point) → IsRowOfCopier stands → SpentAt c p stands → p.spent ≡ false
row_spent c p (copies.Retires settle rest) row spent = spent
row_spent c p _ row spent = absurd row

within_fresh : {K V Q : Type 0} (next : Option (UnderWay K V Q)) (b : Copier × Yielding (Node K V) Table) → GoesWithin next b → IsUnspent b.0 → IsFreshCopier (copier_then next)
within_fresh next b (inl none) unspent = subst IsFreshCopier (sym none.1) tt
within_fresh next b (inr is) unspent = subst IsFreshCopier (sym is) unspent

pub new_fresh : (o : Option Copier) → IsNew o → IsFreshCopier o
new_fresh None new = tt
new_fresh (Some p) new = anywhere p p.stands new

new_key : {K V Q : Type 0} (like : CallOnKey K V Q) (p : KeyCall K V Q) (progress : Called (Node K V)) → IsNew (copier_in p.stands) → IsFreshCopier (copier_then (key_then like (p, progress)))
new_key like p (called.Done answer) new = tt
new_key like p (called.Refused fault) new = tt
new_key like p _ new = new_fresh (copier_in p.stands) new

new_sweep : {K V : Type 0} (Q : Type 0) (o : CallOverAll) (entered : ℕ) (done : List ℕ) (p : Sweep) (end : Swept (Node K V)) → IsNew (copier_in_sweep p.stands)
    → IsFreshCopier (copier_then (sweep_then {K = K} {V = V} Q o entered done (p, end)))
new_sweep Q o entered done p swept.Done new = tt
new_sweep Q o entered done p (swept.Refused fault) new = tt
new_sweep Q o entered done p _ new = new_fresh (copier_in_sweep p.stands) new

module _ {K Q : Type 0} (V : Type 0) (same : K → K → Bool) (hash : K → ℕ) (asks : Q → K → Bool) (setting : Setting) (slot : ℕ → ℕ) (mode : is_incremental setting.mode ≡ false)
    (w : World (Node K V)) (c : Chart K) (blocks : Blocks) (sights : ℕ → Visible) (calls : ℕ → Option (UnderWay K V Q))
    (s : Together V same hash asks setting slot w c blocks sights calls) (all : HaveEndsBlocking c calls) (i : ℕ) (m2 : Mem (Node K V)) where
  -- the copier within which a call stands at a row
  its_unspent : (x : UnderWay K V Q) → calls i ≡ Some x → (p : Copier) → copier_of x ≡ Some p → IsRowOfCopier p.stands → p.spent ≡ false
  its_unspent x has p within row = row_spent c p p.stands row (all.spent i x has p within)

  module _ (u : CallOnKey K V Q) (has : calls i ≡ Some (OnKey u)) (row : IsRowOfCall u.call.stands) (p2 : KeyCall K V Q) (progress : Called (Node K V))
      (steps : Steps Took value_at w.memory (call_plan asks same hash u.call) m2 (p2, progress)) (like : CallOnKey K V Q) where
    helps_none : (copier : Copier) (goal : Table) → u.call.stands ≡ at.Helps copier goal → ⊥
    helps_none copier goal here = elim (s.stand i (OnKey u) has) as (λ _. ⊥) [
      | inl rests ↦ elim rests.1.facts as (λ _. ⊥) [
        | inl fresh ↦ (let f = subst (λ (q : Calling). CallingFacts same hash asks w i (in_slot setting (slot i)) c (seen_by blocks (sights (slot i))) u.keys u.change u.call q) here fresh.point in let yes = f.1 in cc (yes, mode))
        | inr late ↦ subst (λ (q : Calling). SupersededCalling same hash asks w i (in_slot setting (slot i)) c (seen_by blocks (sights (slot i))) u.keys u.began u.call q) here late.1.point
      ]
      | inr within ↦ elim within.2.facts as (λ _. ⊥) [
        | inl fresh ↦ (let f = subst (λ (q : Calling). CallingFacts same hash asks w i (in_slot setting (slot i)) c (seen_by blocks (sights (slot i))) u.keys u.change (once_over u.call) (past_row q)) here fresh.point in let yes = f.1 in cc (yes, mode))
        | inr late ↦ subst (λ (q : Calling). SupersededCalling same hash asks w i (in_slot setting (slot i)) c (seen_by blocks (sights (slot i))) u.keys u.began (once_over u.call) (past_row q)) here late.1.point
      ]
    ]

    pub key_row_fresh : IsFreshCopier (copier_then (key_then like (p2, progress)))
    key_row_fresh = by u.call.stands refl row
      where
        by : (stands : Calling) → u.call.stands ≡ stands → IsRowOfCall stands → IsFreshCopier (copier_then (key_then like (p2, progress)))
        by (at.Copies copier) here its =
            let b = steps_back (copied u.call) w.memory m2 (copier_plan hash copier) (p2, progress)
            (subst (λ (q : Calling). Steps Took value_at w.memory (plan_at asks same hash u.call q) m2 (p2, progress)) here steps) in
            within_fresh (key_then like (p2, progress)) b.0 (key_within like u.call b.0 (p2, progress) b.2)
            (row_unspent K V hash copier (its_unspent (OnKey u) has copier (ap copier_in here) its) w.memory m2 b.0 its b.1)
        by (at.Helps copier goal) here its = absurd (helps_none copier goal here)
        by (at.Disposes dispose answer) here its =
            new_key like p2 progress (call_new asks same hash u.call w.memory m2 (p2, progress) (ap copier_in here) steps)
        by _ here its = absurd its

  module _ (r : CallForRoom) (has : calls i ≡ Some (ForRoom r)) (row : IsRowOfReserve r.reserve.stands) (p2 : Reserve) (end : Yielding (Node K V) Unit)
      (steps : Steps Took value_at w.memory (room_plans.reserve_plan hash r.reserve) m2 (p2, end)) where
    pub room_row_fresh : IsFreshCopier (copier_then (room_then Q r.began (p2, end)))
    room_row_fresh = by r.reserve.stands refl row
      where
        by : (stands : Reserving) → r.reserve.stands ≡ stands → IsRowOfReserve stands → IsFreshCopier (copier_then (room_then Q r.began (p2, end)))
        by (reserves.Copies copier) here its =
            let b = steps_back (room_plans.copied r.reserve) w.memory m2 (copier_plan hash copier) (p2, end)
            (subst (λ (q : Reserving). Steps Took value_at w.memory (room_plans.plan_at hash r.reserve q) m2 (p2, end)) here steps) in
            within_fresh (room_then Q r.began (p2, end)) b.0 (room_within Q r.began r.reserve b.0 (p2, end) b.2)
            (row_unspent K V hash copier (its_unspent (ForRoom r) has copier (ap copier_in_room here) its) w.memory m2 b.0 its b.1)
        by _ here its = absurd its

  module _ (o : CallOverAll) (has : calls i ≡ Some (OverAll o)) (row : IsRowOfSweep o.sweep.stands) (p2 : Sweep) (end : Swept (Node K V))
      (steps : Steps Took value_at w.memory (sweep_plans.sweep_plan hash o.sweep) m2 (p2, end)) (entered : ℕ) (done : List ℕ) where
    pub sweep_row_fresh : IsFreshCopier (copier_then (sweep_then Q o entered done (p2, end)))
    sweep_row_fresh = by o.sweep.stands refl row
      where
        by : (stands : Sweeping) → o.sweep.stands ≡ stands → IsRowOfSweep stands → IsFreshCopier (copier_then (sweep_then Q o entered done (p2, end)))
        by (sweeps.Copies copier) here its =
            let b = steps_back (sweep_plans.copied o.sweep) w.memory m2 (copier_plan hash copier) (p2, end)
            (subst (λ (q : Sweeping). Steps Took value_at w.memory (sweep_plans.plan_at hash o.sweep q) m2 (p2, end)) here steps) in
            within_fresh (sweep_then Q o entered done (p2, end)) b.0 (sweep_within Q o entered done o.sweep b.0 (p2, end) b.2)
            (row_unspent K V hash copier (its_unspent (OverAll o) has copier (ap copier_in_sweep here) its) w.memory m2 b.0 its b.1)
        by (sweeps.Disposes dispose) here its = new_sweep Q o entered done p2 end (sweep_new hash w.memory m2 o.sweep (p2, end) (ap copier_in_sweep here) steps)
        by _ here its = absurd its
