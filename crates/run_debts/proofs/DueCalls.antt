-- A step of a row within a call tells of what the call's row has in hand: by each kind of call.
use Rattle.std.specs.Prelude.{◌≡◌, ℕ, Bool, true, false, cond, List, Option, Some, None, if◌then◌else◌}
use Rattle.std.proofs.Common.{refl, ap, sym, subst, ◌∙◌, inl, inr}
use Rattle.run_places.specs.Given.SeizeDeclared.rows.settle.Settled.{Settled}
use Rattle.run_places.specs.Given.SeizeDeclared.rows.settle.Settled.TheVariants as settled
use Rattle.run_places.specs.Given.SeizeWorld.{World, Hand}
use Rattle.owner_facts.proofs.Given.SeizeMovesState.Ghost.{IsOwned, can_carry}
use Rattle.owner_facts.proofs.Given.SeizeRulePoints.Aside.{HandFits}
use Rattle.owner_facts.proofs.Given.SeizeMemoryWords.View.{view, list_in}
use Rattle.run_places.specs.Given.SeizeWordsMem.{Mem, value_at}
use Rattle.owner_facts.proofs.Given.SeizeAloneHistories.Reached.{Reached}
use Rattle.run_places.specs.Given.TablesNodes.{deferred_word}
use Rattle.run_places.specs.Given.TablesChunks.{is_incremental}
use Rattle.run_places.specs.Given.TablesDeclared.node.Node.{Node}
use Rattle.run_places.specs.Given.TablesDeclared.node.Node.TheVariants as node
use Rattle.run_places.specs.Given.TablesDeclared.setting.Setting.{Setting}
use Rattle.run_places.specs.Given.TablesDeclared.table.Table.{Table}
use Rattle.run_places.specs.Given.ResizeCopier.{copier_plan}
use Rattle.run_places.specs.Given.ResizeDispose.{dispose_plan}
use Rattle.run_places.specs.Given.ResizeDeclared.copier.Copier.{Copier}
use Rattle.run_places.specs.Given.ResizeDeclared.copier.Copying.{Copying}
use Rattle.run_places.specs.Given.ResizeDeclared.copier.Copying.TheVariants as copying
use Rattle.run_places.specs.Given.ResizeDeclared.dispose.Dispose.{Dispose}
use Rattle.run_places.specs.Given.ResizeDeclared.dispose.Disposing.{Disposing}
use Rattle.run_places.specs.Given.ResizeDeclared.dispose.Disposing.TheVariants as disposing
use Rattle.run_places.specs.Given.ResizeDeclared.yielding.Yielding.{Yielding}
use Rattle.run_places.specs.Given.ResizeDeclared.yielding.Yielding.TheVariants as outcome
use Rattle.run_places.specs.Given.ReservesReserve.{reserve_plan}
use Rattle.run_places.specs.Given.ReservesReserve as reserves
use Rattle.run_places.specs.Given.ReservesDeclared.reserve.Reserve.{Reserve}
use Rattle.run_places.specs.Given.ReservesDeclared.reserve.Reserving.{Reserving}
use Rattle.run_places.specs.Given.ReservesDeclared.reserve.Reserving.TheVariants as reserving
use Rattle.run_places.specs.Given.SweepsSweepPoints as points
use Rattle.run_places.specs.Given.SweepsSweep.{sweep_plan}
use Rattle.run_places.specs.Given.SweepsSweep as sweeps
use Rattle.run_places.specs.Given.ReservesDeclared.sweep.Sweep.{Sweep}
use Rattle.run_places.specs.Given.ReservesDeclared.sweep.Sweeping.{Sweeping}
use Rattle.run_places.specs.Given.ReservesDeclared.sweep.Sweeping.TheVariants as sweeping
use Rattle.run_places.specs.Given.ReservesDeclared.sweep.Swept.{Swept}
use Rattle.run_places.specs.Given.RawCall.{call_plan, disposed, helped, copied}
use Rattle.run_places.specs.Given.RawCall as calls
use Rattle.run_places.specs.Given.RawMachine.{called as of_key, reserved as of_room, swept as of_sweep}
use Rattle.run_places.specs.Given.RawDeclared.machines.answer.Called.{Called}
use Rattle.run_places.specs.Given.RawDeclared.machines.answer.KeyAnswer.{KeyAnswer}
use Rattle.run_places.specs.Given.RawDeclared.machines.call.Calling.{Calling}
use Rattle.run_places.specs.Given.RawDeclared.machines.call.Calling.TheVariants as calling
use Rattle.run_places.specs.Given.RawDeclared.machines.call.KeyCall.{KeyCall}
use Rattle.run_places.specs.Given.RawDeclared.machines.machine.Machine.{Machine}
use Rattle.run_places.specs.Given.RawDeclared.machines.machine.Machine.TheVariants as kinds
use Rattle.run_places.specs.Given.RawDeclared.machines.progress.Progress.{Progress}
use Rattle.run_places.specs.Given.RunsDeclared.shapes.TableShape.{TableShape}
use Rattle.run_places.specs.Given.RunsDeclared.effect.TableId.{TableId as Numbered}
use Rattle.run_places.specs.Given.SchedulesMoment.{Moment}
use Rattle.run_places.specs.Given.TellerTells.{StepsObserved}
use Rattle.run_places.specs.Given.EffectsDeclared.changed.Changed.{Changed}
use Rattle.run_places.specs.Given.EffectsDeclared.changed.Changed.TheVariants as changed
use Rattle.run_places.specs.Given.RuleChart.{Chart}
use Rattle.run_places.specs.Given.RuleWords.{Blocks}
use Rattle.owner_facts.specs.Given.PointsFactsCalls.{Change, CallingFacts}
use Rattle.owner_facts.specs.Given.PointsFactsCopies.{CopierFacts, CopyingFacts}
use Rattle.owner_facts.specs.Given.PointsFactsCopiesBlocking.{CopierFactsBlocking, CopyingFactsBlocking}
use Rattle.owner_facts.specs.Given.PointsFactsDisposes.{DisposeFacts, DisposingFacts}
use Rattle.owner_facts.specs.Given.PointsTold.{IsRowOf, IsRowOfCopier, IsRowOfCall}
use Rattle.owner_facts.specs.Given.LateLateCalls.{SupersededCalling}
use Rattle.owner_facts.specs.Given.LateLateCopies.{SupersededCopierFacts, SupersededCopying}
use Rattle.owner_facts.specs.Given.LateLateReserves.{SupersededReserving}
use Rattle.owner_facts.specs.Given.LateFactsReserves.{CopiesWhole, IsEnding, ReservingFacts}
use Rattle.owner_facts.specs.Given.LateFactsSweeps.{CopiesTable, SweepingFacts}
use Rattle.owner_facts.specs.Given.LateToldReserves.{IsRowOfReserve}
use Rattle.owner_facts.specs.Given.LateToldSweeps.{IsRowOfSweep}
use Rattle.owner_facts.specs.Given.CallersOverAll.{CallOverAll, row_of_sweep}
use Rattle.owner_facts.specs.Given.CallersRooms.{CallForRoom, row_of_room}
use Rattle.owner_facts.specs.Given.CallersRows.{row_of_disposal, row_of_copier, row_of}
use Rattle.owner_facts.specs.Given.CallersSights.{seen_by}
use Rattle.owner_facts.specs.Given.CallersTogether.{UnderWay, CallOnKey, OnKey, ForRoom, Counting, OverAll, Together, in_slot}
use Rattle.owner_facts.proofs.Given.CallersTogether.Came.{came_reached}
use Rattle.run_places.specs.Given.EffectsEffects.{effects_of}
use Rattle.run_places.specs.Given.EffectsKnown.{Known}
use Rattle.run_places.specs.Given.EffectsDeclared.acting.Acting.TheVariants as acts
use Rattle.run_places.specs.Given.EffectsDeclared.role.Role.{Role}
use Rattle.run_places.specs.Given.EffectsDeclared.role.Role.TheVariants as role
use Rattle.owner_facts.specs.Given.FinishesMachines.{machine_of}
use Rattle.owner_facts.specs.Given.FinishesMaps.{Standing}
use Rattle.run_places.specs.Given.FollowsBlocks.{HasRole}
use Rattle.run_places.specs.Given.FollowsShows.{Refines}
use Rattle.run_places.proofs.Given.FollowsSteps.{WentTo, went_to, DidSo, OfNoRow}
use Rattle.run_places.specs.Hands.Rows.{ReclaimsNone, RowsReclaimNone}
use Rattle.run_places.proofs.Given.OthersOutcomes.{told_in}
use Rattle.run_debts.specs.Due.{RowObligation, due_in_disposing, due_in_copying, due_in_calling, due_in_reserving, due_in_sweeping, due_in_row, RowTells, OwnAreMade, RowsTellDue}
use Rattle.run_debts.proofs.DueDefers.{AreTables}
use Rattle.run_debts.specs.Entries.{IsSomebodys, IsBlank, RetiresOne, EntriesAreBlank}
use Rattle.run_debts.proofs.DueRows.{GoesOn, IsSettling, IsToSettle, IsPutting, IsToPut, DisposingIs, CopyingIs, dispose_row, copier_row}
use Rattle.run_debts.proofs.DueSettles.{effects_by}
use Rattle.run_places.specs.Given.ScenesHeld.{Held, IsAt}
use Rattle.run_places.specs.Given.ScenesScene.{Scene, slot_of}
use Rattle.run_places.specs.Given.ScenesStepping.{StepLeads, StepsFrom}

-- where it stands, a call's row is as the call's machine says
module _ {T : Type 0} (w : World T) (i : ℕ) where
  abbrev pub CallingIs : Calling → Type 0
  CallingIs (calling.Disposes dispose answer) = DisposingIs w i dispose.stands
  CallingIs (calling.Helps copier goal) = CopyingIs w i copier.stands
  CallingIs (calling.Copies copier) = CopyingIs w i copier.stands
  CallingIs _ = ⊥

  abbrev pub ReservingIs : Reserving → Type 0
  ReservingIs (reserving.Copies copier) = CopyingIs w i copier.stands
  ReservingIs _ = ⊥

  abbrev pub SweepingIs : Sweeping → Type 0
  SweepingIs (sweeping.Copies copier) = CopyingIs w i copier.stands
  SweepingIs (sweeping.Disposes dispose) = DisposingIs w i dispose.stands
  SweepingIs _ = ⊥

  -- a row that is under way
  disposing_on : (slot : ℕ) (p : Disposing) → IsRowOf p → w.row i ≡ row_of_disposal slot p → DisposingIs w i p
  disposing_on slot (disposing.Settles settle) row is = IsSettling is
  disposing_on slot (disposing.Defers defer) row is = IsPutting slot is
  disposing_on slot disposing.Reads row is = absurd row
  disposing_on slot (disposing.Walks table) row is = absurd row
  disposing_on slot disposing.Over row is = absurd row

  copying_on : (p : Copying) → IsRowOfCopier p → w.row i ≡ row_of_copier p → CopyingIs w i p
  copying_on (copying.Retires settle rest) row is = IsSettling is
  copying_on _ row is = absurd row

  calling_on : (slot : ℕ) (p : Calling) → IsRowOfCall p → w.row i ≡ row_of slot p → CallingIs p
  calling_on slot (calling.Disposes dispose answer) row is = disposing_on slot dispose.stands row is
  calling_on slot (calling.Helps copier goal) row is = copying_on copier.stands row is
  calling_on slot (calling.Copies copier) row is = copying_on copier.stands row is
  calling_on slot _ row is = absurd row

  reserving_on : (p : Reserving) → IsRowOfReserve p → w.row i ≡ row_of_room p → ReservingIs p
  reserving_on (reserving.Copies copier) row is = copying_on copier.stands row is
  reserving_on _ row is = absurd row

  sweeping_on : (slot : ℕ) (p : Sweeping) → IsRowOfSweep p → w.row i ≡ row_of_sweep slot p → SweepingIs p
  sweeping_on slot (sweeping.Copies copier) row is = copying_on copier.stands row is
  sweeping_on slot (sweeping.Disposes dispose) row is = disposing_on slot dispose.stands row is
  sweeping_on slot _ row is = absurd row

-- one that is to begin
module _ {K V : Type 0} (same : K → K → Bool) (hash : K → ℕ) (w : World (Node K V)) (i : ℕ) (setting : Setting) (c : Chart K) (blocks : Blocks) where
  disposing_new : (d : Dispose) → DisposeFacts w i setting c blocks d → IsRowOf d.stands → DisposingIs w i d.stands
  disposing_new d facts row = by d.stands facts.point row
    where
      by : (p : Disposing) → DisposingFacts w i setting c blocks facts.n facts.t p → IsRowOf p → DisposingIs w i p
      by (disposing.Settles settle) f row = IsToSettle setting.slot setting.batch_size (blocks.pair facts.n) f.0.0 f.0.1
      by (disposing.Defers defer) f row = IsToPut _ _ f.5
      by disposing.Reads f row = absurd row
      by (disposing.Walks table) f row = absurd row
      by disposing.Over f row = absurd row

  copying_new : (x : Copier) → CopierFacts same hash w i setting c blocks x → IsRowOfCopier x.stands → CopyingIs w i x.stands
  copying_new x facts row = by x.stands facts.point row
    where
      by : (p : Copying) → CopyingFacts same hash w i setting c blocks x p → IsRowOfCopier p → CopyingIs w i p
      by (copying.Retires settle rest) f row = IsToSettle setting.slot setting.batch_size (blocks.table f.0) f.2.0 f.2.1
      by _ f row = absurd row

  blocking_new : (x : Copier) → CopierFactsBlocking same hash w i setting c blocks x → IsRowOfCopier x.stands → CopyingIs w i x.stands
  blocking_new x facts row = by x.stands facts.point row
    where
      by : (p : Copying) → CopyingFactsBlocking same hash w i setting c blocks x p → IsRowOfCopier p → CopyingIs w i p
      by (copying.Retires settle rest) f row = IsToSettle setting.slot setting.batch_size (blocks.table f.0) f.2.0 f.2.1
      by _ f row = absurd row

  late_new : (began : ℕ) (x : Copier) → SupersededCopierFacts same hash w i setting c blocks began x → IsRowOfCopier x.stands → CopyingIs w i x.stands
  late_new began x facts row = by x.stands facts.point row
    where
      by : (p : Copying) → SupersededCopying same hash w i setting c blocks began x p → IsRowOfCopier p → CopyingIs w i p
      by (copying.Retires settle rest) f row = IsToSettle setting.slot setting.batch_size (blocks.table f.0) f.3.0 f.3.1
      by _ f row = absurd row

  whole_new : (x : Copier) → CopiesWhole same hash w i setting c blocks x → IsRowOfCopier x.stands → CopyingIs w i x.stands
  whole_new x facts row = by (is_incremental setting.mode) facts
    where
      by : (q : Bool)
          → cond q ((x.whole ≡ true) × CopierFacts same hash w i setting c blocks x × IsEnding same hash w i setting c blocks x x.stands) (CopierFactsBlocking same hash w i setting c blocks x)
          → CopyingIs w i x.stands
      by true so = copying_new x so.1 row
      by false so = blocking_new x so row

  any_new : (began : ℕ) (x : Copier) → CopiesTable same hash w i setting c blocks began x → IsRowOfCopier x.stands → CopyingIs w i x.stands
  any_new began x facts row = elim facts as (λ _. CopyingIs w i x.stands) [
    | inl whole ↦ whole_new x whole row
    | inr late ↦ late_new began x late.1 row
  ]

  pub reserving_new : (p : Reserving) → ReservingFacts same hash w i setting c blocks p → IsRowOfReserve p → ReservingIs w i p
  reserving_new (reserving.Copies copier) facts row = whole_new copier facts row
  reserving_new _ facts row = absurd row

  pub late_reserving_new : (began : ℕ) (p : Reserving) → SupersededReserving same hash w i setting c blocks began p → IsRowOfReserve p → ReservingIs w i p
  late_reserving_new began (reserving.Copies copier) facts row = late_new began copier facts row
  late_reserving_new began _ facts row = absurd row

  pub sweeping_new : (began : ℕ) (x : Sweep) (p : Sweeping) → SweepingFacts same hash w i setting c blocks began x p → IsRowOfSweep p → SweepingIs w i p
  sweeping_new began x (sweeping.Copies copier) facts row = any_new began copier facts row
  sweeping_new began x (sweeping.Disposes dispose) facts row = disposing_new dispose facts.3 row
  sweeping_new began x _ facts row = absurd row

  pub calling_new : (keys : K → Bool) (change : Change) (x : KeyCall K V K) (p : Calling) → CallingFacts same hash same w i setting c blocks keys change x p → IsRowOfCall p → CallingIs w i p
  calling_new keys change x (calling.Disposes dispose answer) facts row = disposing_new dispose facts.0 row
  calling_new keys change x (calling.Helps copier goal) facts row = copying_new copier facts.6 row
  calling_new keys change x (calling.Copies copier) facts row = blocking_new copier facts.2 row
  calling_new keys change x _ facts row = absurd row

  pub late_calling_new : (keys : K → Bool) (began : ℕ) (x : KeyCall K V K) (p : Calling) → SupersededCalling same hash same w i setting c blocks keys began x p → IsRowOfCall p → CallingIs w i p
  late_calling_new keys began x (calling.Disposes dispose answer) facts row = absurd facts
  late_calling_new keys began x (calling.Helps copier goal) facts row = absurd facts
  late_calling_new keys began x (calling.Copies copier) facts row = late_new began copier facts.1 row
  late_calling_new keys began x _ facts row = absurd row

-- so its step tells of what it has in hand
module _ {K V : Type 0} {size : ℕ} (w : World (Node K V)) (r : Reached deferred_word size w) (i map : ℕ) (known : Known) (m2 : Mem (Node K V)) (told : Changed)
    (blanks : (b : ℕ) → IsSomebodys (w.hand b) → IsBlank w.memory b) (none : ReclaimsNone (w.row i)) (own : RetiresOne (IsBlank w.memory) (w.row i))
    (tables : AreTables w.memory r.good.state.life known) where
  abbrev TellsDue : Option RowObligation → Option RowObligation → Type 0
  TellsDue before after = RowTells i map known (effects_by i map known told) before after

  spent : (before after after2 : Option RowObligation) → after2 ≡ after → TellsDue before after → TellsDue before after2
  spent before after after2 e tells = subst (TellsDue before) (sym e) tells

  module _ (asks eq : K → K → Bool) (hash : K → ℕ) (x : KeyCall K V K) (end : KeyCall K V K × Called (Node K V))
      (steps : StepsObserved K V (KeyCall K V K × Called (Node K V)) w.memory changed.Nothing (call_plan asks eq hash x) m2 told end) where
    abbrev CallAt : Calling → Type 0
    CallAt p = StepsObserved K V (KeyCall K V K × Called (Node K V)) w.memory changed.Nothing (calls.plan_at asks eq hash x p) m2 told end

    abbrev CallTo : Option RowObligation → KeyCall K V K × Called (Node K V) → Type 0
    CallTo before e = TellsDue before (due_in_calling e.0.stands)

    disposed_to : (before : Option RowObligation) (answer : KeyAnswer) (q : Dispose × Settled (Node K V)) → TellsDue before (due_in_disposing q.0.stands) → (q.1 ≡ settled.Done → due_in_disposing q.0.stands ≡ None)
        → CallTo before (disposed x answer q)
    disposed_to before answer (d, settled.Goes) tells done = tells
    disposed_to before answer (d, settled.Waits) tells done = tells
    disposed_to before answer (d, settled.Gave value) tells done = tells
    disposed_to before answer (d, settled.Done) tells done = spent before (due_in_disposing d.stands) None (sym (done refl)) tells

    helped_to : (before : Option RowObligation) (goal : Table) (q : Copier × Yielding (Node K V) Table) → TellsDue before (due_in_copying q.0.stands) → GoesOn q.1 → CallTo before (helped x goal q)
    helped_to before goal (c, outcome.Goes) tells goes = tells
    helped_to before goal (c, outcome.Waits) tells goes = tells
    helped_to before goal (c, outcome.Gave value) tells goes = tells
    helped_to before goal (c, outcome.Done table) tells goes = absurd goes
    helped_to before goal (c, outcome.Refused fault) tells goes = absurd goes

    copied_to : (before : Option RowObligation) (q : Copier × Yielding (Node K V) Table) → TellsDue before (due_in_copying q.0.stands) → GoesOn q.1 → CallTo before (copied x q)
    copied_to before (c, outcome.Goes) tells goes = tells
    copied_to before (c, outcome.Waits) tells goes = tells
    copied_to before (c, outcome.Gave value) tells goes = tells
    copied_to before (c, outcome.Done table) tells goes = absurd goes
    copied_to before (c, outcome.Refused fault) tells goes = absurd goes

    pub call_row : CallingIs w i x.stands → CallTo (due_in_calling x.stands) end
    call_row is = by x.stands is steps
      where
        by : (p : Calling) → CallingIs w i p → CallAt p → CallTo (due_in_calling p) end
        by (calling.Disposes dispose answer) its st =
            let inner = told_in w.memory m2 told (disposed x answer) (dispose_plan dispose) end st in
            let row = dispose_row w r i map known m2 told blanks none own tables dispose inner.0 inner.2 its in
            subst (CallTo (due_in_disposing dispose.stands)) (sym inner.1) (disposed_to (due_in_disposing dispose.stands) answer inner.0 row.0 row.1)
        by (calling.Helps copier goal) its st =
            let inner = told_in w.memory m2 told (helped x goal) (copier_plan hash copier) end st in
            let row = copier_row w r i map known m2 told blanks none own tables hash copier inner.0 inner.2 its in
            subst (CallTo (due_in_copying copier.stands)) (sym inner.1) (helped_to (due_in_copying copier.stands) goal inner.0 row.0 row.1)
        by (calling.Copies copier) its st =
            let inner = told_in w.memory m2 told (copied x) (copier_plan hash copier) end st in
            let row = copier_row w r i map known m2 told blanks none own tables hash copier inner.0 inner.2 its in
            subst (CallTo (due_in_copying copier.stands)) (sym inner.1) (copied_to (due_in_copying copier.stands) inner.0 row.0 row.1)
        by _ its st = absurd its

  module _ (hash : K → ℕ) (x : Reserve) (end : Reserve × Yielding (Node K V) Unit) (steps : StepsObserved K V (Reserve × Yielding (Node K V) Unit) w.memory changed.Nothing (reserve_plan hash x) m2 told end) where
    abbrev RoomAt : Reserving → Type 0
    RoomAt p = StepsObserved K V (Reserve × Yielding (Node K V) Unit) w.memory changed.Nothing (reserves.plan_at {V = V} hash x p) m2 told end

    abbrev RoomTo : Option RowObligation → Reserve × Yielding (Node K V) Unit → Type 0
    RoomTo before e = TellsDue before (due_in_reserving e.0.stands)

    copied_room : (before : Option RowObligation) (q : Copier × Yielding (Node K V) Table) → TellsDue before (due_in_copying q.0.stands) → GoesOn q.1 → RoomTo before (reserves.copied x q)
    copied_room before (c, outcome.Goes) tells goes = tells
    copied_room before (c, outcome.Waits) tells goes = tells
    copied_room before (c, outcome.Gave value) tells goes = tells
    copied_room before (c, outcome.Done table) tells goes = absurd goes
    copied_room before (c, outcome.Refused fault) tells goes = absurd goes

    pub room_row : ReservingIs w i x.stands → RoomTo (due_in_reserving x.stands) end
    room_row is = by x.stands is steps
      where
        by : (p : Reserving) → ReservingIs w i p → RoomAt p → RoomTo (due_in_reserving p) end
        by (reserving.Copies copier) its st =
            let inner = told_in w.memory m2 told (reserves.copied x) (copier_plan hash copier) end st in
            let row = copier_row w r i map known m2 told blanks none own tables hash copier inner.0 inner.2 its in
            subst (RoomTo (due_in_copying copier.stands)) (sym inner.1) (copied_room (due_in_copying copier.stands) inner.0 row.0 row.1)
        by _ its st = absurd its

  module _ (hash : K → ℕ) (x : Sweep) (end : Sweep × Swept (Node K V)) (steps : StepsObserved K V (Sweep × Swept (Node K V)) w.memory changed.Nothing (sweep_plan hash x) m2 told end) where
    abbrev SweepAt : Sweeping → Type 0
    SweepAt p = StepsObserved K V (Sweep × Swept (Node K V)) w.memory changed.Nothing (sweeps.plan_at {V = V} hash x p) m2 told end

    abbrev SweepTo : Option RowObligation → Sweep × Swept (Node K V) → Type 0
    SweepTo before e = TellsDue before (due_in_sweeping e.0.stands)

    further_none : due_in_sweeping (points.further x).stands ≡ None
    further_none = points_none _ sweeping.Words (points.at_end x) refl (points_none _ sweeping.Follows sweeping.Over refl refl)
      where
        points_none : (q : Bool) (a b : Sweeping) → due_in_sweeping a ≡ None → due_in_sweeping b ≡ None → due_in_sweeping (if q then a else b) ≡ None
        points_none true a b e f = e
        points_none false a b e f = f

    disposed_sweep : (before : Option RowObligation) (q : Dispose × Settled (Node K V)) → TellsDue before (due_in_disposing q.0.stands) → (q.1 ≡ settled.Done → due_in_disposing q.0.stands ≡ None)
        → SweepTo before (sweeps.disposed x q)
    disposed_sweep before (d, settled.Goes) tells done = tells
    disposed_sweep before (d, settled.Waits) tells done = tells
    disposed_sweep before (d, settled.Gave value) tells done = tells
    disposed_sweep before (d, settled.Done) tells done = spent before (due_in_disposing d.stands) (due_in_sweeping (points.further x).stands) (further_none ∙ sym (done refl)) tells

    copied_sweep : (before : Option RowObligation) (q : Copier × Yielding (Node K V) Table) → TellsDue before (due_in_copying q.0.stands) → GoesOn q.1 → SweepTo before (sweeps.copied x q)
    copied_sweep before (c, outcome.Goes) tells goes = tells
    copied_sweep before (c, outcome.Waits) tells goes = tells
    copied_sweep before (c, outcome.Gave value) tells goes = tells
    copied_sweep before (c, outcome.Done table) tells goes = absurd goes
    copied_sweep before (c, outcome.Refused fault) tells goes = absurd goes

    pub sweep_row : SweepingIs w i x.stands → SweepTo (due_in_sweeping x.stands) end
    sweep_row is = by x.stands is steps
      where
        by : (p : Sweeping) → SweepingIs w i p → SweepAt p → SweepTo (due_in_sweeping p) end
        by (sweeping.Copies copier) its st =
            let inner = told_in w.memory m2 told (sweeps.copied x) (copier_plan hash copier) end st in
            let row = copier_row w r i map known m2 told blanks none own tables hash copier inner.0 inner.2 its in
            subst (SweepTo (due_in_copying copier.stands)) (sym inner.1) (copied_sweep (due_in_copying copier.stands) inner.0 row.0 row.1)
        by (sweeping.Disposes dispose) its st =
            let inner = told_in w.memory m2 told (sweeps.disposed x) (dispose_plan dispose) end st in
            let row = dispose_row w r i map known m2 told blanks none own tables dispose inner.0 inner.2 its in
            subst (SweepTo (due_in_disposing dispose.stands)) (sym inner.1) (disposed_sweep (due_in_disposing dispose.stands) inner.0 row.0 row.1)
        by _ its st = absurd its

module _ {K V : Type 0} (same : K → K → Bool) (hash : ℕ → K → ℕ) (name : ℕ → List ℕ) (m : Moment K V) (known : Known) (s : Scene K V) (old new : Held K V) (at_old : IsAt same hash old s)
    (shown : Refines same name m known s) (rows : RowsReclaimNone s) (entries : EntriesAreBlank s) (owning : OwnAreMade known s.world) (map i : ℕ) (u : UnderWay K V K) (under_way : s.calls map i ≡ Some u) (said : Progress (Node K V))
    (leads : StepLeads same hash i said s old new) where
  abbrev to : WentTo same hash name m known s old new at_old shown map i u under_way said leads
  to = went_to same hash name m known s old new at_old shown map i u under_way said leads

  abbrev st : Standing K
  st = to.0

  abbrev told : Changed
  told = new.changed

  each : Together V same st.hash same st.setting slot_of s.world st.chart st.blocks st.sights (s.calls map)
  each = at_old.together.makings.standing.each map st to.2

  r : Reached deferred_word st.setting.batch_size s.world
  r = came_reached st.setting.batch_size s.world each.ground.came

  -- what carries others is noted as a table: one of somebody's own is in its maker's hands
  tables_are : AreTables s.world.memory r.good.state.life known
  tables_are b d list carries = by (known.roles b) refl (shown.blocks.roles b)
    where
      no_list : (o : Option (Node K V)) → value_at s.world.memory b ≡ o → list_in deferred_word o ≡ None → ⊥
      no_list o is e = absurd (let lists : (view deferred_word s.world.memory).lists b ≡ None = ap (λ (x : Option (Node K V)). list_in deferred_word x) is ∙ e in cc (lists, list))

      not_own : (turn : ℕ) (shape : TableShape) → known.roles b ≡ role.OwnTable turn shape → ⊥
      not_own turn shape is =
          let made = owning b turn shape is in
          let life : r.good.state.life b ≡ IsOwned made.0 = subst (λ (h : Hand). HandFits h (r.good.state.life b)) made.1 (r.good.hands b) in
          absurd (let never : can_carry (r.good.state.life b) ≡ false = ap can_carry life in cc (never, carries))

      by : (x : Role) → known.roles b ≡ x → HasRole s.world m.stored b x → (t : Numbered) × (len : ℕ) × (known.roles b ≡ role.Table t len)
      by role.Free is has = absurd (no_list None has refl)
      by (role.OwnPair caller) is has = absurd (no_list (Some has.0) has.1 has.2)
      by (role.OwnTable turn shape) is has = absurd (not_own turn shape is)
      by (role.Pair n) is has = absurd (no_list (Some (node.Pair has.0 has.1)) has.3 refl)
      by (role.Table t len) is has = (t, len, is)
      by (role.Counter of) is has = absurd (no_list (Some node.Shards) has refl)

  abbrev Goal : UnderWay K V K → Type 0
  Goal x = RowTells i map known (effects_of (acts.Call i map) known told) (due_in_row (machine_of x)) (due_in_row to.1)

  of_machine : (x : UnderWay K V K) (machine : Machine K V K) → to.1 ≡ machine → RowTells i map known (effects_of (acts.Call i map) known told) (due_in_row (machine_of x)) (due_in_row machine) → Goal x
  of_machine x machine is tells = subst (λ (z : Machine K V K). RowTells i map known (effects_of (acts.Call i map) known told) (due_in_row (machine_of x)) (due_in_row z)) (sym is) tells

  stepped : (x : UnderWay K V K) → u ≡ x → StepsFrom same to.0.hash (machine_of x) old new to.1 said
  stepped x is = subst (λ (y : UnderWay K V K). StepsFrom same to.0.hash (machine_of y) old new to.1 said) is to.3

  key_tells : (x : CallOnKey K V K) → u ≡ OnKey x → IsRowOfCall x.call.stands → Goal (OnKey x)
  key_tells x is row =
      let inner = told_in old.memory new.memory told of_key (call_plan same same to.0.hash x.call) (to.1, said) (stepped (OnKey x) is) in
      of_machine (OnKey x) (kinds.Key inner.0.0) (ap (λ (z : Machine K V K × Progress (Node K V)). z.0) inner.1)
      (call_row s.world r i map known new.memory told entries.blank (rows.none map i u under_way) (entries.one map i u under_way) tables_are same same to.0.hash x.call inner.0 (subst (λ (k : Mem (Node K V)). StepsObserved K V (KeyCall K V K × Called (Node K V)) k changed.Nothing (call_plan same same to.0.hash x.call) new.memory told inner.0) (sym at_old.memory) inner.2) its)
    where
      its : CallingIs s.world i x.call.stands
      its = elim (each.stand i (OnKey x) (under_way ∙ ap Some is)) as (λ _. CallingIs s.world i x.call.stands) [
        | inl (rests, knows) ↦ elim (knows.facts) as (λ _. CallingIs s.world i x.call.stands) [
          | inl facts ↦ calling_new same st.hash s.world i (in_slot st.setting (slot_of i)) st.chart (seen_by st.blocks (st.sights (slot_of i))) x.keys x.change x.call x.call.stands facts.point row
          | inr late ↦ late_calling_new same st.hash s.world i (in_slot st.setting (slot_of i)) st.chart (seen_by st.blocks (st.sights (slot_of i))) x.keys x.began x.call x.call.stands late.1.point row
        ]
        | inr (is_row, its_row, knows) ↦ calling_on s.world i (slot_of i) x.call.stands row is_row
      ]

  room_tells : (x : CallForRoom) → u ≡ ForRoom x → IsRowOfReserve x.reserve.stands → Goal (ForRoom x)
  room_tells x is row =
      let inner = told_in old.memory new.memory told of_room (reserve_plan to.0.hash x.reserve) (to.1, said) (stepped (ForRoom x) is) in
      of_machine (ForRoom x) (kinds.Reserve inner.0.0) (ap (λ (z : Machine K V K × Progress (Node K V)). z.0) inner.1)
      (room_row s.world r i map known new.memory told entries.blank (rows.none map i u under_way) (entries.one map i u under_way) tables_are to.0.hash x.reserve inner.0 (subst (λ (k : Mem (Node K V)). StepsObserved K V (Reserve × Yielding (Node K V) Unit) k changed.Nothing (reserve_plan to.0.hash x.reserve) new.memory told inner.0) (sym at_old.memory) inner.2) its)
    where
      its : ReservingIs s.world i x.reserve.stands
      its = elim (each.stand i (ForRoom x) (under_way ∙ ap Some is)) as (λ _. ReservingIs s.world i x.reserve.stands) [
        | inl (rests, knows) ↦ elim (knows.facts) as (λ _. ReservingIs s.world i x.reserve.stands) [
          | inl facts ↦ reserving_new same st.hash s.world i (in_slot st.setting (slot_of i)) st.chart (seen_by st.blocks (st.sights (slot_of i))) x.reserve.stands facts.point row
          | inr late ↦ late_reserving_new same st.hash s.world i (in_slot st.setting (slot_of i)) st.chart (seen_by st.blocks (st.sights (slot_of i))) x.began x.reserve.stands late.point row
        ]
        | inr (is_row, its_row, knows) ↦ reserving_on s.world i x.reserve.stands row is_row
      ]

  over_all_tells : (x : CallOverAll) → u ≡ OverAll x → IsRowOfSweep x.sweep.stands → Goal (OverAll x)
  over_all_tells x is row =
      let inner = told_in old.memory new.memory told of_sweep (sweep_plan to.0.hash x.sweep) (to.1, said) (stepped (OverAll x) is) in
      of_machine (OverAll x) (kinds.Sweep inner.0.0) (ap (λ (z : Machine K V K × Progress (Node K V)). z.0) inner.1)
      (sweep_row s.world r i map known new.memory told entries.blank (rows.none map i u under_way) (entries.one map i u under_way) tables_are to.0.hash x.sweep inner.0 (subst (λ (k : Mem (Node K V)). StepsObserved K V (Sweep × Swept (Node K V)) k changed.Nothing (sweep_plan to.0.hash x.sweep) new.memory told inner.0) (sym at_old.memory) inner.2) its)
    where
      its : SweepingIs s.world i x.sweep.stands
      its = elim (each.stand i (OverAll x) (under_way ∙ ap Some is)) as (λ _. SweepingIs s.world i x.sweep.stands) [
        | inl (rests, knows) ↦ sweeping_new same st.hash s.world i (in_slot st.setting (slot_of i)) st.chart (seen_by st.blocks (st.sights (slot_of i))) x.began x.sweep x.sweep.stands knows.facts.point row
        | inr (is_row, its_row, knows) ↦ sweeping_on s.world i (slot_of i) x.sweep.stands row is_row
      ]

  pub tells_due : (OfNoRow same hash name m known s old new at_old shown map i u under_way said leads u to.4.did → ⊥) → Goal u
  tells_due other = by u refl to.4.did other
    where
      by : (x : UnderWay K V K) → u ≡ x → (did : DidSo same hash name m known s old new at_old shown map i u under_way said leads x)
          → (OfNoRow same hash name m known s old new at_old shown map i u under_way said leads x did → ⊥) → Goal x
      by (OnKey x) is (p2, end, machine_is, told_is, inl step) other = absurd (other tt)
      by (OnKey x) is (p2, end, machine_is, told_is, inr (row, stayed)) other = key_tells x is row.is_row
      by (ForRoom x) is (p2, end, machine_is, told_is, inl step) other = absurd (other tt)
      by (ForRoom x) is (p2, end, machine_is, told_is, inr (row, stayed)) other = room_tells x is row.is_row
      by (Counting x) is did other = absurd (other tt)
      by (OverAll x) is (p2, end, machine_is, told_is, inl step) other = absurd (other tt)
      by (OverAll x) is (p2, end, machine_is, told_is, inr (row, stayed)) other = over_all_tells x is row.is_row

pub rows_tell_due : (K V : Type 0) (same : K → K → Bool) (hash : ℕ → K → ℕ) → RowsTellDue K V same hash
rows_tell_due K V same hash name m known s old new at_old shown rows entries owning map i u here said leads other =
    tells_due same hash name m known s old new at_old shown rows entries owning map i u here said leads other
