-- What is promised of each step of a row within a call that answers that it waits.
use Rattle.std.proofs.Common.{◌≡◌, ℕ, Bool, ◌⊎◌, inl, inr, refl, ap, subst, sym, ◌∙◌}
use Rattle.seize_words.specs.OneMemory.Mem.{Mem, Took, value_at}
use Rattle.seize_words.specs.OneMemory.Plan.{Steps}
use Rattle.seize_acts.proofs.Given.SeizeRuleRows.Leaving.{steps_back}
use Rattle.seize.specs.World.{World, Rests}
use Rattle.seize.specs.declared.rows.settle.Settled.{Settled}
use Rattle.seize.specs.declared.rows.settle.Settled.TheVariants as settled
use Rattle.map_tables.specs.declared.node.Node.{Node}
use Rattle.map_tables.specs.declared.setting.Setting.{Setting}
use Rattle.map_tables.specs.declared.table.Table.{Table}
use Rattle.map_machines.specs.Copier.{copier_plan}
use Rattle.map_machines.specs.Dispose.{dispose_plan}
use Rattle.map_machines.specs.declared.copier.Copier.{Copier}
use Rattle.map_machines.specs.declared.dispose.Dispose.{Dispose}
use Rattle.map_machines.specs.declared.yielding.Yielding.{Yielding}
use Rattle.map_machines.specs.declared.yielding.Yielding.TheVariants as outcome
use Rattle.many_calls.specs.Given.RawCall as call
use Rattle.many_calls.specs.Given.RawDeclared.machines.answer.KeyAnswer.{KeyAnswer}
use Rattle.many_calls.specs.Given.RawDeclared.machines.answer.Called.{Called}
use Rattle.many_calls.specs.Given.RawDeclared.machines.answer.Called.TheVariants as called
use Rattle.many_calls.specs.Given.RawCallPoints.{ending}
use Rattle.many_calls.specs.Given.RawDeclared.machines.answer.End.{End}
use Rattle.many_calls.specs.Given.RawDeclared.machines.answer.End.TheVariants as ends
use Rattle.many_calls.specs.Given.RawDeclared.machines.call.KeyCall.{KeyCall}
use Rattle.many_calls.specs.Given.RawDeclared.machines.call.Calling.{Calling}
use Rattle.many_calls.specs.Given.RawDeclared.machines.call.Calling.TheVariants as at
use Rattle.map_sweeps.specs.Reserves.Reserve as reserve
use Rattle.map_sweeps.specs.declared.reserve.Reserve.{Reserve}
use Rattle.map_sweeps.specs.declared.reserve.Reserving.{Reserving}
use Rattle.map_sweeps.specs.declared.reserve.Reserving.TheVariants as reserves
use Rattle.map_sweeps.specs.Sweeps.Sweep as sweep
use Rattle.map_sweeps.specs.Sweeps.SweepPoints.{entering, further, telling}
use Rattle.map_sweeps.specs.declared.sweep.Sweep.{Sweep}
use Rattle.map_sweeps.specs.declared.sweep.Sweeping.{Sweeping}
use Rattle.map_sweeps.specs.declared.sweep.Sweeping.TheVariants as sweeps
use Rattle.map_sweeps.specs.declared.sweep.Swept.{Swept}
use Rattle.map_sweeps.specs.declared.sweep.Swept.TheVariants as swept
use Rattle.many_calls.specs.Given.PointsTold.{IsRowOfCall}
use Rattle.many_calls.specs.Given.LateToldReserves.{IsRowOfReserve}
use Rattle.many_calls.specs.Given.LateToldSweeps.{IsRowOfSweep}
use Rattle.many_calls.specs.Rooms.{row_of_room}
use Rattle.many_calls.specs.Rows.{row_of}
use Rattle.many_calls.specs.Sights.{seen_by}
use Rattle.many_calls.specs.Together.{OnKey, ForRoom, CameAbout, IsAtPoint}
use Rattle.map_measures.specs.Waits.Promises.{CallRowsWaitForAHolder, RoomRowsWaitForAHolder, SweepRowsWaitForAHolder}
use Rattle.map_measures.specs.Waits.Waits.{row_of_sweep, AnotherHolds}
use Rattle.map_measures.proofs.Waits.CallPlans.{Continues, ending_goes}
use Rattle.map_measures.proofs.Waits.Copyings.{SweepsOn, telling_goes}
use Rattle.map_measures.proofs.Waits.Rows.{IsAt, disposal_waits, copier_row_waits}

module _ {K V : Type 0} (hash : K → ℕ) (batch_size : ℕ) (w : World (Node K V)) (came : CameAbout batch_size w) (i slot : ℕ) (m2 : Mem (Node K V)) where
  -- within a call on one key
  module _ {Q : Type 0} (same : K → K → Bool) (asks : Q → K → Bool) (p : KeyCall K V Q) where
    disposed_waits : (answer : KeyAnswer) (to : Dispose × Settled (Node K V)) → (call.disposed p answer to).1 ≡ called.Waits → to.1 ≡ settled.Waits
    disposed_waits answer (next, settled.Goes) e = absurd (cc e)
    disposed_waits answer (next, settled.Waits) e = refl
    disposed_waits answer (next, settled.Gave value) e = absurd (cc e)
    disposed_waits answer (next, settled.Done) e = absurd (cc e)

    not_ending : (end : End) → (ending p end).1 ≡ called.Waits → ⊥
    not_ending end e = subst (λ (x : Called (Node K V)). Continues (p, x)) e (continues (ending p end) (ending_goes p end))
      where
        continues : (x : KeyCall K V Q × Called (Node K V)) → Continues x → Continues (p, x.1)
        continues (q, called.Goes) on = tt
        continues (q, called.Waits) on = on
        continues (q, called.Gave value) on = tt
        continues (q, called.Unstored value) on = tt
        continues (q, called.Asks asked) on = tt
        continues (q, called.Done answer) on = tt
        continues (q, called.Refused fault) on = tt

    helped_waits : (goal : Table) (to : Copier × Yielding (Node K V) Table) → (call.helped p goal to).1 ≡ called.Waits → to.1 ≡ outcome.Waits
    helped_waits goal (next, outcome.Goes) e = absurd (cc e)
    helped_waits goal (next, outcome.Waits) e = refl
    helped_waits goal (next, outcome.Gave value) e = absurd (cc e)
    helped_waits goal (next, outcome.Done table) e = absurd (cc e)
    helped_waits goal (next, outcome.Refused fault) e = absurd (not_ending (ends.Refused fault) e)

    copied_waits : (to : Copier × Yielding (Node K V) Table) → (call.copied p to).1 ≡ called.Waits → to.1 ≡ outcome.Waits
    copied_waits (next, outcome.Goes) e = absurd (cc e)
    copied_waits (next, outcome.Waits) e = refl
    copied_waits (next, outcome.Gave value) e = absurd (cc e)
    copied_waits (next, outcome.Done table) e = absurd (cc e)
    copied_waits (next, outcome.Refused fault) e = absurd (not_ending (ends.Refused fault) e)

    pub call_row_waits : (stands : Calling) → IsRowOfCall stands → IsAt hash batch_size w came i slot m2 (row_of slot stands)
        → (end : KeyCall K V Q × Called (Node K V))
        → Steps Took value_at w.memory (call.plan_at asks same hash p stands) m2 end → end.1 ≡ called.Waits → AnotherHolds w i (row_of slot stands)
    call_row_waits (at.Disposes dispose answer) row at_row end s e =
        let b = steps_back (call.disposed p answer) w.memory m2 (dispose_plan dispose) end s in
        disposal_waits hash batch_size w came i slot m2 dispose row at_row b.0 b.1
        (disposed_waits answer b.0 (ap (λ (x : KeyCall K V Q × Called (Node K V)). x.1) (sym b.2) ∙ e))
    call_row_waits (at.Helps copier goal) row at_row end s e =
        let b = steps_back (call.helped p goal) w.memory m2 (copier_plan hash copier) end s in
        copier_row_waits hash batch_size w came i slot m2 copier row at_row b.0 b.1
        (helped_waits goal b.0 (ap (λ (x : KeyCall K V Q × Called (Node K V)). x.1) (sym b.2) ∙ e))
    call_row_waits (at.Copies copier) row at_row end s e =
        let b = steps_back (call.copied p) w.memory m2 (copier_plan hash copier) end s in
        copier_row_waits hash batch_size w came i slot m2 copier row at_row b.0 b.1
        (copied_waits b.0 (ap (λ (x : KeyCall K V Q × Called (Node K V)). x.1) (sym b.2) ∙ e))
    call_row_waits _ row at_row end s e = absurd row

  -- within a reservation
  module _ (p : Reserve) where
    room_copied_waits : (to : Copier × Yielding (Node K V) Table) → (reserve.copied p to).1 ≡ outcome.Waits → to.1 ≡ outcome.Waits
    room_copied_waits (next, outcome.Goes) e = absurd (cc e)
    room_copied_waits (next, outcome.Waits) e = refl
    room_copied_waits (next, outcome.Gave value) e = absurd (cc e)
    room_copied_waits (next, outcome.Done table) e = absurd (cc e)
    room_copied_waits (next, outcome.Refused fault) e = absurd (cc e)

    pub room_row_waits : (stands : Reserving) → IsRowOfReserve stands → IsAt hash batch_size w came i slot m2 (row_of_room stands)
        → (end : Reserve × Yielding (Node K V) Unit)
        → Steps Took value_at w.memory (reserve.plan_at hash p stands) m2 end → end.1 ≡ outcome.Waits → AnotherHolds w i (row_of_room stands)
    room_row_waits (reserves.Copies copier) row at_row end s e =
        let b = steps_back (reserve.copied p) w.memory m2 (copier_plan hash copier) end s in
        copier_row_waits hash batch_size w came i slot m2 copier row at_row b.0 b.1
        (room_copied_waits b.0 (ap (λ (x : Reserve × Yielding (Node K V) Unit). x.1) (sym b.2) ∙ e))
    room_row_waits _ row at_row end s e = absurd row

  -- within a sweep
  module _ (p : Sweep) where
    not_telling : (q : Sweep) → (telling {T = Node K V} q).1 ≡ swept.Waits → ⊥
    not_telling q e = subst (λ (x : Swept (Node K V)). SweepsOn (q, x)) e (telling_goes K V q)

    sweep_disposed_waits : (to : Dispose × Settled (Node K V)) → (sweep.disposed p to).1 ≡ swept.Waits → to.1 ≡ settled.Waits
    sweep_disposed_waits (next, settled.Goes) e = absurd (cc e)
    sweep_disposed_waits (next, settled.Waits) e = refl
    sweep_disposed_waits (next, settled.Gave value) e = absurd (cc e)
    sweep_disposed_waits (next, settled.Done) e = absurd (not_telling (further p) e)

    sweep_copied_waits : (to : Copier × Yielding (Node K V) Table) → (sweep.copied p to).1 ≡ swept.Waits → to.1 ≡ outcome.Waits
    sweep_copied_waits (next, outcome.Goes) e = absurd (cc e)
    sweep_copied_waits (next, outcome.Waits) e = refl
    sweep_copied_waits (next, outcome.Gave value) e = absurd (cc e)
    sweep_copied_waits (next, outcome.Done table) e = absurd (not_telling (entering p table) e)
    sweep_copied_waits (next, outcome.Refused fault) e = absurd (cc e)

    pub sweep_row_waits : (stands : Sweeping) → IsRowOfSweep stands → IsAt hash batch_size w came i slot m2 (row_of_sweep slot stands)
        → (end : Sweep × Swept (Node K V))
        → Steps Took value_at w.memory (sweep.plan_at hash p stands) m2 end → end.1 ≡ swept.Waits → AnotherHolds w i (row_of_sweep slot stands)
    sweep_row_waits (sweeps.Copies copier) row at_row end s e =
        let b = steps_back (sweep.copied p) w.memory m2 (copier_plan hash copier) end s in
        copier_row_waits hash batch_size w came i slot m2 copier row at_row b.0 b.1
        (sweep_copied_waits b.0 (ap (λ (x : Sweep × Swept (Node K V)). x.1) (sym b.2) ∙ e))
    sweep_row_waits (sweeps.Disposes dispose) row at_row end s e =
        let b = steps_back (sweep.disposed p) w.memory m2 (dispose_plan dispose) end s in
        disposal_waits hash batch_size w came i slot m2 dispose row at_row b.0 b.1
        (sweep_disposed_waits b.0 (ap (λ (x : Sweep × Swept (Node K V)). x.1) (sym b.2) ∙ e))
    sweep_row_waits _ row at_row end s e = absurd row

module _ {K Q : Type 0} (V : Type 0) (same : K → K → Bool) (hash : K → ℕ) (asks : Q → K → Bool) (setting : Setting) (slot : ℕ → ℕ) where
  pub call_rows_wait_for_a_holder : CallRowsWaitForAHolder V same hash asks setting slot
  call_rows_wait_for_a_holder w c blocks sights calls s i u has row m2 p2 st =
      call_row_waits hash setting.batch_size w s.ground.came i (slot i) m2 same asks u.call u.call.stands row (or_rests (s.stand i (OnKey u) has))
      (p2, called.Waits) st refl
    where
      or_rests : IsAtPoint V same hash asks setting slot w c (seen_by blocks (sights (slot i))) i (OnKey u) → (w.row i ≡ Rests)
          ⊎ (w.row i ≡ row_of (slot i) u.call.stands)
      or_rests (inl h) = inl h.0
      or_rests (inr h) = inr h.0

  pub room_rows_wait_for_a_holder : RoomRowsWaitForAHolder V same hash asks setting slot
  room_rows_wait_for_a_holder w c blocks sights calls s i r has row m2 p2 st =
      room_row_waits hash setting.batch_size w s.ground.came i (slot i) m2 r.reserve r.reserve.stands row (or_rests (s.stand i (ForRoom r) has))
      (p2, outcome.Waits) st refl
    where
      or_rests : IsAtPoint V same hash asks setting slot w c (seen_by blocks (sights (slot i))) i (ForRoom r) → (w.row i ≡ Rests)
          ⊎ (w.row i ≡ row_of_room r.reserve.stands)
      or_rests (inl h) = inl h.0
      or_rests (inr h) = inr h.0

pub sweep_rows_wait_for_a_holder : {K : Type 0} (V : Type 0) (hash : K → ℕ) (slot : ℕ → ℕ) → SweepRowsWaitForAHolder V hash slot
sweep_rows_wait_for_a_holder V hash slot batch_size w came i p row at_row m2 p2 st =
    sweep_row_waits hash batch_size w came i (slot i) m2 p p.stands row at_row (p2, swept.Waits) st refl
