-- A row of the collector that waits leaves the memory as it is, and the call that it is within where that stands.
use Rattle.std.specs.Prelude.{◌==◌}
use Rattle.std.proofs.Common.{◌≡◌, ℕ, Bool, ◌⊎◌, inl, inr, refl, ap, sym, subst, ◌∙◌}
use Rattle.seize_words.specs.declared.at.At.TheVariants.{Slot}
use Rattle.seize_words.specs.OneMemory.Mem.{Mem, Took, value_at}
use Rattle.seize_words.specs.OneMemory.Plan.{Now, Steps}
use Rattle.seize_words.proofs.OneMemory.OneOwner.Operations.{loaded}
use Rattle.seize_words.proofs.OneMemory.Plans.{ends_if}
use Rattle.map_measures.proofs.Given.SeizeRuleRows.Leaving.{steps_back}
use Rattle.map_measures.proofs.Given.SeizeEndsBatches.Held.{waits_held}
use Rattle.seize.specs.Defer.{defer_plan}
use Rattle.seize.specs.Settle as settles
use Rattle.seize.specs.declared.states.TheConstants.{BATCH, HELD}
use Rattle.seize.specs.declared.advance.Advance.{Advance}
use Rattle.seize.specs.declared.advance.Advance.TheVariants as progress
use Rattle.seize.specs.declared.rows.defer.Defer.{Defer}
use Rattle.seize.specs.declared.rows.settle.Settle.{Settle}
use Rattle.seize.specs.declared.rows.settle.Settling.{Settling}
use Rattle.seize.specs.declared.rows.settle.Settling.TheVariants as settling
use Rattle.seize.specs.declared.rows.settle.Settled.{Settled}
use Rattle.seize.specs.declared.rows.settle.Settled.TheVariants as settled
use Rattle.map_measures.proofs.Given.SeizeActsWaits.{deferring_never_waits}
use Rattle.map_tables.specs.Nodes.{deferred_word}
use Rattle.map_tables.specs.declared.node.Node.{Node}
use Rattle.map_tables.specs.declared.table.Table.{Table}
use Rattle.map_measures.specs.Given.ResizeCopier as copier
use Rattle.map_measures.specs.Given.ResizeCopierPromotes.{retired}
use Rattle.map_measures.specs.Given.ResizeCopierStates as copiers
use Rattle.map_measures.specs.Given.ResizeDispose as dispose
use Rattle.map_measures.specs.Given.ResizeDeclared.copier.Copier.{Copier}
use Rattle.map_measures.specs.Given.ResizeDeclared.copier.Copying.{Copying}
use Rattle.map_measures.specs.Given.ResizeDeclared.copier.Copying.TheVariants as copies
use Rattle.map_measures.specs.Given.ResizeDeclared.dispose.Dispose.{Dispose}
use Rattle.map_measures.specs.Given.ResizeDeclared.dispose.Disposing.{Disposing}
use Rattle.map_measures.specs.Given.ResizeDeclared.dispose.Disposing.TheVariants as disposes
use Rattle.map_measures.specs.Given.ResizeDeclared.yielding.Yielding.{Yielding}
use Rattle.map_measures.specs.Given.ResizeDeclared.yielding.Yielding.TheVariants as outcome
use Rattle.papaya_raw.specs.Call as call
use Rattle.papaya_raw.specs.CallPoints as points
use Rattle.papaya_raw.specs.declared.machines.answer.Called.{Called}
use Rattle.papaya_raw.specs.declared.machines.answer.Called.TheVariants as called
use Rattle.papaya_raw.specs.declared.machines.answer.KeyAnswer.{KeyAnswer}
use Rattle.papaya_raw.specs.declared.machines.call.KeyCall.{KeyCall}
use Rattle.papaya_raw.specs.declared.machines.call.Calling.{Calling}
use Rattle.papaya_raw.specs.declared.machines.call.Calling.TheVariants as at
use Rattle.papaya_raw.specs.Given.ReservesReserve as reserve
use Rattle.papaya_raw.specs.Given.ReservesDeclared.reserve.Reserve.{Reserve}
use Rattle.papaya_raw.specs.Given.ReservesDeclared.reserve.Reserving.{Reserving}
use Rattle.papaya_raw.specs.Given.ReservesDeclared.reserve.Reserving.TheVariants as reserves
use Rattle.papaya_raw.specs.Given.SweepsSweep as sweep
use Rattle.papaya_raw.specs.Given.SweepsSweepPoints as sweeping
use Rattle.papaya_raw.specs.Given.SweepsSweepPoints.{further, telling}
use Rattle.papaya_raw.specs.Given.ReservesDeclared.sweep.Sweep.{Sweep}
use Rattle.papaya_raw.specs.Given.ReservesDeclared.sweep.Sweeping.{Sweeping}
use Rattle.papaya_raw.specs.Given.ReservesDeclared.sweep.Sweeping.TheVariants as sweeps
use Rattle.papaya_raw.specs.Given.ReservesDeclared.sweep.Swept.{Swept}
use Rattle.papaya_raw.specs.Given.ReservesDeclared.sweep.Swept.TheVariants as swept
use Rattle.owner_facts.specs.Given.PointsTold.{IsRowOf, IsRowOfCopier, IsRowOfCall}
use Rattle.owner_facts.specs.Given.LateToldReserves.{IsRowOfReserve}
use Rattle.owner_facts.specs.Given.LateToldSweeps.{IsRowOfSweep}
use Rattle.owner_facts.proofs.Given.CallersTogether.RowSteps.{never_refused}
use Rattle.owner_facts.proofs.Given.CallersTogether.RowsOfCopiers.{at_retirement}
use Rattle.owner_facts.proofs.Given.CallersTogether.SweepRows.{at_row}
use Rattle.owner_facts.proofs.Given.CallersTogether.RoomRows.{at_copying as at_room_row}

module _ {K V : Type 0} (m m2 : Mem (Node K V)) where
  -- a retirement
  pub settle_stays : (c d : Settle) → Steps Took value_at m (settles.settle_plan deferred_word c) m2 (d, settled.Waits) → (d ≡ c) × (m2 ≡ m)
  settle_stays c d st =
      let sees : c.stands ≡ settling.Sees = (waits_held deferred_word m m2 c d c.stands st).1 in
      let l = loaded m (settles.seen c) (Slot c.slot BATCH) m2 (d, settled.Waits)
      (subst (λ (x : Settling). Steps Took value_at m (settles.plan_at deferred_word c x) m2 (d, settled.Waits)) sees st) in
      elim (ends_if (value_at m) (l.0 == HELD) (Now (c, settled.Waits)) (Now (record c { last = l.0; stands = settling.Holds }, settled.Goes)) (d, settled.Waits) l.3) as (λ _. (d ≡ c) × (m2 ≡ m)) [
        | inl e ↦ (ap (λ (x : Settle × Settled (Node K V)). x.0) e.1, l.2)
        | inr e ↦ (let goes = ap (λ (x : Settle × Settled (Node K V)). x.1) e.1 in absurd (cc goes))
      ]

  -- a copier at a row
  pub copier_stays : (hash : K → ℕ) (p : Copier) → IsRowOfCopier p.stands → (e : Copier × Yielding (Node K V) Table) → Steps Took value_at m (copier.copier_plan hash p) m2 e
      → ((e.1 ≡ outcome.Goes) ⊎ ((value : Node K V) × (e.1 ≡ outcome.Gave value))) ⊎ ((e.1 ≡ outcome.Waits) × (e.0 ≡ p) × (m2 ≡ m))
  copier_stays hash p row e st = by p.stands refl row st
    where
      Told : Copier × Yielding (Node K V) Table → Type 0
      Told x = ((x.1 ≡ outcome.Goes) ⊎ ((value : Node K V) × (x.1 ≡ outcome.Gave value))) ⊎ ((x.1 ≡ outcome.Waits) × (x.0 ≡ p) × (m2 ≡ m))

      told : (settle : Settle) (rest : ℕ) → p.stands ≡ copies.Retires settle rest → (y : Settle) (o : Settled (Node K V))
          → Steps Took value_at m (settles.settle_plan deferred_word settle) m2 (y, o) → Told (retired p rest (y, o))
      told settle rest is y settled.Goes inner = inl (inl refl)
      told settle rest is y settled.Waits inner =
          let s = settle_stays settle y inner in
          inr (refl, ap (λ (z : Settle). copiers.standing p (copies.Retires z rest)) s.0 ∙ ap (λ (z : Copying). copiers.standing p z) (sym is), s.1)
      told settle rest is y (settled.Gave value) inner = inl (inr (value, refl))
      told settle rest is y settled.Done inner = inl (inl refl)

      by : (x : Copying) → p.stands ≡ x → IsRowOfCopier x → Steps Took value_at m (copier.plan_at hash p x) m2 e → Told e
      by x is at = at_retirement (λ z. p.stands ≡ z → Steps Took value_at m (copier.plan_at hash p z) m2 e → Told e) (λ settle rest is_it inner.
          let b = steps_back (retired p rest) m m2 (settles.settle_plan deferred_word settle) e inner in
          subst Told (sym b.2) (told settle rest is_it b.0.0 b.0.1 b.1)) x at is

  -- a disposal at a row
  pub disposal_stays : (d : Dispose) → IsRowOf d.stands → (e : Dispose × Settled (Node K V)) → Steps Took value_at m (dispose.dispose_plan d) m2 e → e.1 ≡ settled.Waits → (e.0 ≡ d) × (m2 ≡ m)
  disposal_stays d row e st = by d.stands refl row st
    where
      Told : Dispose × Settled (Node K V) → Type 0
      Told x = x.1 ≡ settled.Waits → (x.0 ≡ d) × (m2 ≡ m)

      settles_told : (settle : Settle) → d.stands ≡ disposes.Settles settle → (y : Settle) (o : Settled (Node K V)) → Steps Took value_at m (settles.settle_plan deferred_word settle) m2 (y, o)
          → Told (dispose.settled d (y, o))
      settles_told settle is y settled.Goes inner = λ w. absurd (cc w)
      settles_told settle is y settled.Waits inner =
          let s = settle_stays settle y inner in λ w. (ap (λ (z : Settle). dispose.standing d (disposes.Settles z)) s.0 ∙ ap (λ (z : Disposing). dispose.standing d z) (sym is), s.1)
      settles_told settle is y (settled.Gave value) inner = λ w. absurd (cc w)
      settles_told settle is y settled.Done inner = λ w. absurd (cc w)

      defers_told : (defer y : Defer) (o : Advance Unit) → Steps Took value_at m (defer_plan defer) m2 (y, o) → Told (dispose.deferred d (y, o))
      defers_told defer y progress.Goes inner = λ w. absurd (cc w)
      defers_told defer y progress.Waits inner = absurd (deferring_never_waits deferred_word defer y m m2 inner)
      defers_told defer y (progress.Done end) inner = λ w. absurd (cc w)
      defers_told defer y (progress.Refused fault) inner = absurd (never_refused m m2 defer y fault inner)

      by : (x : Disposing) → d.stands ≡ x → IsRowOf x → Steps Took value_at m (dispose.plan_at d x) m2 e → Told e
      by (disposes.Settles settle) is at inner =
          let b = steps_back (dispose.settled d) m m2 (settles.settle_plan deferred_word settle) e inner in
          subst Told (sym b.2) (settles_told settle is b.0.0 b.0.1 b.1)
      by (disposes.Defers defer) is at inner = let b = steps_back (dispose.deferred d) m m2 (defer_plan defer) e inner in subst Told (sym b.2) (defers_told defer b.0.0 b.0.1 b.1)
      by disposes.Reads is at inner = absurd at
      by (disposes.Walks table) is at inner = absurd at
      by disposes.Over is at inner = absurd at

  module _ (hash : K → ℕ) where
    -- what a copier tells at a row
    abbrev Tells : Copier → Copier × Yielding (Node K V) Table → Type 0
    Tells p x = ((x.1 ≡ outcome.Goes) ⊎ ((value : Node K V) × (x.1 ≡ outcome.Gave value))) ⊎ ((x.1 ≡ outcome.Waits) × (x.0 ≡ p) × (m2 ≡ m))

    -- a call on one key
    module _ {Q : Type 0} (same : K → K → Bool) (asks : Q → K → Bool) (p : KeyCall K V Q) where
      abbrev Call : Type 0
      Call = KeyCall K V Q × Called (Node K V)

      helped_stays : (goal : Table) (copy : Copier) (x : Copier × Yielding (Node K V) Table) → Tells copy x → (call.helped p goal x).1 ≡ called.Waits
          → ((call.helped p goal x).0 ≡ points.standing p (at.Helps copy goal)) × (m2 ≡ m)
      helped_stays goal copy (next, outcome.Goes) tells w = absurd (cc w)
      helped_stays goal copy (next, outcome.Waits) (inr is) w = (ap (λ (z : Copier). points.standing p (at.Helps z goal)) is.1, is.2)
      helped_stays goal copy (next, outcome.Waits) (inl (inl told)) w = absurd (cc told)
      helped_stays goal copy (next, outcome.Waits) (inl (inr told)) w = absurd (let e = told.1 in cc e)
      helped_stays goal copy (next, outcome.Gave value) tells w = absurd (cc w)
      helped_stays goal copy (next, outcome.Done table) (inr is) w = absurd (let e = is.0 in cc e)
      helped_stays goal copy (next, outcome.Done table) (inl (inl told)) w = absurd (cc told)
      helped_stays goal copy (next, outcome.Done table) (inl (inr told)) w = absurd (let e = told.1 in cc e)
      helped_stays goal copy (next, outcome.Refused fault) (inr is) w = absurd (let e = is.0 in cc e)
      helped_stays goal copy (next, outcome.Refused fault) (inl (inl told)) w = absurd (cc told)
      helped_stays goal copy (next, outcome.Refused fault) (inl (inr told)) w = absurd (let e = told.1 in cc e)

      copied_stays : (copy : Copier) (x : Copier × Yielding (Node K V) Table) → Tells copy x → (call.copied p x).1 ≡ called.Waits
          → ((call.copied p x).0 ≡ points.standing p (at.Copies copy)) × (m2 ≡ m)
      copied_stays copy (next, outcome.Goes) tells w = absurd (cc w)
      copied_stays copy (next, outcome.Waits) (inr is) w = (ap (λ (z : Copier). points.standing p (at.Copies z)) is.1, is.2)
      copied_stays copy (next, outcome.Waits) (inl (inl told)) w = absurd (cc told)
      copied_stays copy (next, outcome.Waits) (inl (inr told)) w = absurd (let e = told.1 in cc e)
      copied_stays copy (next, outcome.Gave value) tells w = absurd (cc w)
      copied_stays copy (next, outcome.Done table) (inr is) w = absurd (let e = is.0 in cc e)
      copied_stays copy (next, outcome.Done table) (inl (inl told)) w = absurd (cc told)
      copied_stays copy (next, outcome.Done table) (inl (inr told)) w = absurd (let e = told.1 in cc e)
      copied_stays copy (next, outcome.Refused fault) (inr is) w = absurd (let e = is.0 in cc e)
      copied_stays copy (next, outcome.Refused fault) (inl (inl told)) w = absurd (cc told)
      copied_stays copy (next, outcome.Refused fault) (inl (inr told)) w = absurd (let e = told.1 in cc e)

      disposed_stays : (answer : KeyAnswer) (d : Dispose) (x : Dispose × Settled (Node K V)) → (x.1 ≡ settled.Waits → (x.0 ≡ d) × (m2 ≡ m)) → (call.disposed p answer x).1 ≡ called.Waits
          → ((call.disposed p answer x).0 ≡ points.standing p (at.Disposes d answer)) × (m2 ≡ m)
      disposed_stays answer d (next, settled.Goes) stays w = absurd (cc w)
      disposed_stays answer d (next, settled.Waits) stays w = let s = stays refl in (ap (λ (z : Dispose). points.standing p (at.Disposes z answer)) s.0, s.1)
      disposed_stays answer d (next, settled.Gave value) stays w = absurd (cc w)
      disposed_stays answer d (next, settled.Done) stays w = absurd (cc w)

      pub key_stays : IsRowOfCall p.stands → (q : KeyCall K V Q) → Steps Took value_at m (call.call_plan asks same hash p) m2 (q, called.Waits) → (q ≡ p) × (m2 ≡ m)
      key_stays row q st = by p.stands refl row st
        where
          -- what it was made of says so
          of_it : (x : Call) (y : Calling) → p.stands ≡ y → (q, called.Waits) ≡ x → (x.1 ≡ called.Waits → (x.0 ≡ points.standing p y) × (m2 ≡ m)) → (q ≡ p) × (m2 ≡ m)
          of_it x y is made stays =
              let s = stays (sym (ap (λ (z : Call). z.1) made)) in (ap (λ (z : Call). z.0) made ∙ s.0 ∙ ap (λ (z : Calling). points.standing p z) (sym is), s.1)

          by : (x : Calling) → p.stands ≡ x → IsRowOfCall x → Steps Took value_at m (call.plan_at asks same hash p x) m2 (q, called.Waits) → (q ≡ p) × (m2 ≡ m)
          by (at.Disposes d answer) is row_there inner =
              let b = steps_back (call.disposed p answer) m m2 (dispose.dispose_plan d) (q, called.Waits) inner in
              of_it (call.disposed p answer b.0) (at.Disposes d answer) is b.2 (disposed_stays answer d b.0 (disposal_stays d row_there b.0 b.1))
          by (at.Helps copy goal) is row_there inner =
              let b = steps_back (call.helped p goal) m m2 (copier.copier_plan hash copy) (q, called.Waits) inner in
              of_it (call.helped p goal b.0) (at.Helps copy goal) is b.2 (helped_stays goal copy b.0 (copier_stays hash copy row_there b.0 b.1))
          by (at.Copies copy) is row_there inner =
              let b = steps_back (call.copied p) m m2 (copier.copier_plan hash copy) (q, called.Waits) inner in
              of_it (call.copied p b.0) (at.Copies copy) is b.2 (copied_stays copy b.0 (copier_stays hash copy row_there b.0 b.1))
          by _ is row_there inner = absurd row_there

    -- a reservation
    module _ (p : Reserve) where
      room_copied_stays : (copy : Copier) (x : Copier × Yielding (Node K V) Table) → Tells copy x → (reserve.copied p x).1 ≡ outcome.Waits
          → ((reserve.copied p x).0 ≡ reserve.standing p (reserves.Copies copy)) × (m2 ≡ m)
      room_copied_stays copy (next, outcome.Goes) tells w = absurd (cc w)
      room_copied_stays copy (next, outcome.Waits) (inr is) w = (ap (λ (z : Copier). reserve.standing p (reserves.Copies z)) is.1, is.2)
      room_copied_stays copy (next, outcome.Waits) (inl (inl told)) w = absurd (cc told)
      room_copied_stays copy (next, outcome.Waits) (inl (inr told)) w = absurd (let e = told.1 in cc e)
      room_copied_stays copy (next, outcome.Gave value) tells w = absurd (cc w)
      room_copied_stays copy (next, outcome.Done table) tells w = absurd (cc w)
      room_copied_stays copy (next, outcome.Refused fault) tells w = absurd (cc w)

      pub room_stays : IsRowOfReserve p.stands → (q : Reserve) → Steps Took value_at m (reserve.reserve_plan hash p) m2 (q, outcome.Waits) → (q ≡ p) × (m2 ≡ m)
      room_stays row q st = at_room_row (λ x. p.stands ≡ x → Steps Took value_at m (reserve.plan_at hash p x) m2 (q, outcome.Waits) → (q ≡ p) × (m2 ≡ m)) (λ copy at is inner.
          let b = steps_back (reserve.copied p) m m2 (copier.copier_plan hash copy) (q, outcome.Waits) inner in
          let s = room_copied_stays copy b.0 (copier_stays hash copy at b.0 b.1) (sym (ap (λ (z : Reserve × Yielding (Node K V) Unit). z.1) b.2)) in
          (ap (λ (z : Reserve × Yielding (Node K V) Unit). z.0) b.2 ∙ s.0 ∙ ap (λ (z : Reserving). reserve.standing p z) (sym is), s.1)) p.stands row refl st

    -- a sweep
    module _ (p : Sweep) where
      abbrev Sweeps : Type 0
      Sweeps = Sweep × Swept (Node K V)

      -- one that tells where it has come to does not wait
      telling_goes : (q : Sweep) → (telling {T = Node K V} q).1 ≡ swept.Waits → ⊥
      telling_goes q = by q.stands
        where
          by : (x : Sweeping) → sweeping.told {T = Node K V} x ≡ swept.Waits → ⊥
          by sweeps.Ready e = cc e
          by (sweeps.Asks word) e = cc e
          by sweeps.Over e = cc e
          by (sweeps.Refused fault) e = cc e
          by sweeps.Reads e = cc e
          by sweeps.Follows e = cc e
          by (sweeps.Copies copy) e = cc e
          by sweeps.Words e = cc e
          by (sweeps.Tries word) e = cc e
          by (sweeps.Counts removed) e = cc e
          by (sweeps.Disposes d) e = cc e

      sweep_copied_stays : (copy : Copier) (x : Copier × Yielding (Node K V) Table) → Tells copy x → (sweep.copied p x).1 ≡ swept.Waits
          → ((sweep.copied p x).0 ≡ sweeping.standing p (sweeps.Copies copy)) × (m2 ≡ m)
      sweep_copied_stays copy (next, outcome.Goes) tells w = absurd (cc w)
      sweep_copied_stays copy (next, outcome.Waits) (inr is) w = (ap (λ (z : Copier). sweeping.standing p (sweeps.Copies z)) is.1, is.2)
      sweep_copied_stays copy (next, outcome.Waits) (inl (inl told)) w = absurd (cc told)
      sweep_copied_stays copy (next, outcome.Waits) (inl (inr told)) w = absurd (let e = told.1 in cc e)
      sweep_copied_stays copy (next, outcome.Gave value) tells w = absurd (cc w)
      sweep_copied_stays copy (next, outcome.Done table) tells w = absurd (telling_goes (sweeping.entering p table) w)
      sweep_copied_stays copy (next, outcome.Refused fault) tells w = absurd (cc w)

      sweep_disposed_stays : (d : Dispose) (x : Dispose × Settled (Node K V)) → (x.1 ≡ settled.Waits → (x.0 ≡ d) × (m2 ≡ m)) → (sweep.disposed p x).1 ≡ swept.Waits
          → ((sweep.disposed p x).0 ≡ sweeping.standing p (sweeps.Disposes d)) × (m2 ≡ m)
      sweep_disposed_stays d (next, settled.Goes) stays w = absurd (cc w)
      sweep_disposed_stays d (next, settled.Waits) stays w = let s = stays refl in (ap (λ (z : Dispose). sweeping.standing p (sweeps.Disposes z)) s.0, s.1)
      sweep_disposed_stays d (next, settled.Gave value) stays w = absurd (cc w)
      sweep_disposed_stays d (next, settled.Done) stays w = absurd (telling_goes (further p) w)

      pub sweep_stays : IsRowOfSweep p.stands → (q : Sweep) → Steps Took value_at m (sweep.sweep_plan hash p) m2 (q, swept.Waits) → (q ≡ p) × (m2 ≡ m)
      sweep_stays row q st = at_row (λ x. p.stands ≡ x → Steps Took value_at m (sweep.plan_at hash p x) m2 (q, swept.Waits) → (q ≡ p) × (m2 ≡ m))
          (λ copy at is inner.
          let b = steps_back (sweep.copied p) m m2 (copier.copier_plan hash copy) (q, swept.Waits) inner in
          let s = sweep_copied_stays copy b.0 (copier_stays hash copy at b.0 b.1) (sym (ap (λ (z : Sweeps). z.1) b.2)) in
          (ap (λ (z : Sweeps). z.0) b.2 ∙ s.0 ∙ ap (λ (z : Sweeping). sweeping.standing p z) (sym is), s.1))
          (λ d at is inner.
          let b = steps_back (sweep.disposed p) m m2 (dispose.dispose_plan d) (q, swept.Waits) inner in
          let s = sweep_disposed_stays d b.0 (disposal_stays d at b.0 b.1) (sym (ap (λ (z : Sweeps). z.1) b.2)) in
          (ap (λ (z : Sweeps). z.0) b.2 ∙ s.0 ∙ ap (λ (z : Sweeping). sweeping.standing p z) (sym is), s.1))
          p.stands row refl st
