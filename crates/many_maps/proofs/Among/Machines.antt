-- The next step of a call under way, whichever its kind, as that of its machine.
use Rattle.std.specs.Prelude.{◌≡◌, ◌≢◌, ◌⊎◌, ℕ, Bool, Option, Some, None}
use Rattle.std.proofs.Common.{List, refl, sym, subst, ap, ◌∙◌, inl, inr, arith}
use Rattle.many_calls.specs.Given.SeizeWordsMem.{Mem, Can, Took, value_at}
use Rattle.many_calls.specs.Given.SeizeWordsDeclared.fault.Fault.{Fault}
use Rattle.many_calls.specs.Given.SeizeWordsPlan.{Plan, May, Steps, plan_as}
use Rattle.many_calls.proofs.Given.SeizeWordsPlans.{as_may}
use Rattle.many_calls.proofs.Given.SeizeRuleRows.Leaving.{steps_back}
use Rattle.many_calls.proofs.Given.SeizeRuleRows.Others.{begins_others, steps_others}
use Rattle.many_calls.specs.Given.SeizeWorld.{World, Row, Rests, Event, Runs, with_at}
use Rattle.many_calls.specs.Given.SeizeDeclared.advance.Advance.{Advance as Counted}
use Rattle.many_calls.specs.Given.SeizeDeclared.advance.Advance.TheVariants as counted
use Rattle.many_calls.specs.Given.TablesChunks.{is_incremental}
use Rattle.many_calls.specs.Given.TablesNodes.{deferred_word}
use Rattle.many_calls.specs.Given.TablesDeclared.node.Node.{Node}
use Rattle.many_calls.specs.Given.TablesDeclared.setting.Setting.{Setting}
use Rattle.many_calls.specs.Given.ResizeSum.{sum_plan}
use Rattle.many_calls.specs.Given.ResizeDeclared.copier.Copying.{Copying}
use Rattle.many_calls.specs.Given.ResizeDeclared.copier.Copying.TheVariants as copies
use Rattle.many_calls.specs.Given.ResizeDeclared.dispose.Disposing.{Disposing}
use Rattle.many_calls.specs.Given.ResizeDeclared.dispose.Disposing.TheVariants as disposes
use Rattle.many_calls.specs.Given.ResizeDeclared.yielding.Yielding.{Yielding}
use Rattle.many_calls.specs.Given.ResizeDeclared.yielding.Yielding.TheVariants as outcome
use Rattle.many_calls.specs.Given.ResizeDeclared.sum.Sum.{Sum}
use Rattle.many_calls.specs.Given.ReservesReserve.{reserve_plan}
use Rattle.many_calls.specs.Given.ReservesDeclared.reserve.Reserve.{Reserve}
use Rattle.many_calls.specs.Given.ReservesDeclared.reserve.Reserving.{Reserving}
use Rattle.many_calls.specs.Given.ReservesDeclared.reserve.Reserving.TheVariants as reserving
use Rattle.many_calls.specs.Given.SweepsSweep.{sweep_plan}
use Rattle.many_calls.specs.Given.ReservesDeclared.sweep.Sweep.{Sweep}
use Rattle.many_calls.specs.Given.ReservesDeclared.sweep.Sweeping.{Sweeping}
use Rattle.many_calls.specs.Given.ReservesDeclared.sweep.Sweeping.TheVariants as sweeping
use Rattle.many_calls.specs.Given.ReservesDeclared.sweep.Swept.{Swept}
use Rattle.many_calls.specs.Given.ReservesDeclared.sweep.Swept.TheVariants as swept
use Rattle.many_calls.specs.Given.RawCall.{call_plan}
use Rattle.many_calls.specs.Given.RawMachine as machines
use Rattle.many_calls.specs.Given.RawMachine.{machine_plan}
use Rattle.many_calls.specs.Given.RawProgress.{of_called, of_outcome, of_swept, of_counting}
use Rattle.many_calls.specs.Given.RawDeclared.machines.answer.Called.{Called}
use Rattle.many_calls.specs.Given.RawDeclared.machines.answer.Called.TheVariants as called
use Rattle.many_calls.specs.Given.RawDeclared.machines.call.KeyCall.{KeyCall}
use Rattle.many_calls.specs.Given.RawDeclared.machines.call.Calling.{Calling}
use Rattle.many_calls.specs.Given.RawDeclared.machines.call.Calling.TheVariants as at
use Rattle.many_calls.specs.Given.RawDeclared.machines.machine.Machine.{Machine}
use Rattle.many_calls.specs.Given.RawDeclared.machines.machine.Machine.TheVariants as kinds
use Rattle.many_calls.specs.Given.RawDeclared.machines.progress.Progress.{Progress}
use Rattle.many_calls.specs.Given.RuleChart.{Chart}
use Rattle.many_calls.specs.Given.RuleInWorld.{AllUsers}
use Rattle.many_calls.specs.Given.RuleMoments.{Remembers}
use Rattle.many_calls.specs.Given.PointsTold.{IsRowOf, IsRowOfCopier, IsRowOfCall}
use Rattle.many_calls.specs.Given.LateToldReserves.{IsRowOfReserve}
use Rattle.many_calls.specs.Given.LateToldSweeps.{IsRowOfSweep}
use Rattle.many_calls.proofs.Sights.Parts.{part_same}
use Rattle.many_calls.specs.OverAll.{CallOverAll, gone_on}
use Rattle.many_calls.specs.Rooms.{CallForRoom}
use Rattle.many_calls.specs.Rows.{LeavesSlots}
use Rattle.many_calls.specs.Sights.{seen_by}
use Rattle.many_calls.specs.Together.{UnderWay, OnKey, ForRoom, Counting, OverAll, CallOnKey, IsAtPoint, IsOneStep, next_of, next_for_room, next_of_counting, next_over_all}
use Rattle.many_maps.specs.Makings.{Beginning}
use Rattle.many_maps.specs.Maps.{Standing, IsSameMap, with_call}
use Rattle.many_calls.proofs.Together.At.{at_other, at_same}
use Rattle.many_calls.proofs.Together.Slots.{alike_same, all_between, between_rows, between_slots}
use Rattle.many_maps.specs.Endings.{Finishing, EndingsTogether, StepsWithEndings, RowStepsWithEndings}
use Rattle.many_maps.specs.Rooms.{RoomStepsWithEndings, RoomRowsWithEndings}
use Rattle.many_maps.specs.Sweeps.{SweepStepsWithEndings, SweepRowsWithEndings}
use Rattle.many_maps.specs.Machines.{machine_of, ContinuesAs, MapContinues, DidOfKind, MachineStepsWithEndings, MachinesPreserveWithEndings}
use Rattle.many_maps.proofs.Among.Calls.{calls_stand_among}
use Rattle.many_maps.proofs.Among.Countings.{countings_stand_among}
use Rattle.many_maps.proofs.Among.Rooms.{rooms_stand_among, room_rows_stand_among}
use Rattle.many_maps.proofs.Among.Rows.{rows_stand_among}
use Rattle.many_maps.proofs.Among.Sweeps.{sweeps_stand_among, sweep_rows_stand_among}

-- a step is one of a row, or it is none
abbrev pub Either : Type 0 → Type 0
Either X = X ⊎ (X → ⊥)

of_copier : (x : Copying) → Either (IsRowOfCopier x)
of_copier (copies.Retires settle rest) = inl tt
of_copier _ = inr (λ row. row)

of_disposal : (x : Disposing) → Either (IsRowOf x)
of_disposal (disposes.Settles settle) = inl tt
of_disposal (disposes.Defers defer) = inl tt
of_disposal _ = inr (λ row. row)

of_call : (x : Calling) → Either (IsRowOfCall x)
of_call (at.Disposes dispose answer) = of_disposal dispose.stands
of_call (at.Helps copier goal) = of_copier copier.stands
of_call (at.Copies copier) = of_copier copier.stands
of_call _ = inr (λ row. row)

of_reserve : (x : Reserving) → Either (IsRowOfReserve x)
of_reserve (reserving.Copies copier) = of_copier copier.stands
of_reserve _ = inr (λ row. row)

of_sweep : (x : Sweeping) → Either (IsRowOfSweep x)
of_sweep (sweeping.Copies copier) = of_copier copier.stands
of_sweep (sweeping.Disposes dispose) = of_disposal dispose.stands
of_sweep _ = inr (λ row. row)

-- what goes on is the machine after the step
module _ (K V Q : Type 0) where
  key_on : (u : CallOnKey K V Q) (told : Called (Node K V)) → ContinuesAs (kinds.Key u.call) (of_called told) (next_of u told)
  key_on u called.Goes = (OnKey u, refl, refl)
  key_on u called.Waits = (OnKey u, refl, refl)
  key_on u (called.Gave value) = (OnKey u, refl, refl)
  key_on u (called.Unstored value) = (OnKey u, refl, refl)
  key_on u (called.Asks asked) = (OnKey u, refl, refl)
  key_on u (called.Done answer) = refl
  key_on u (called.Refused fault) = refl

  room_on : (r : CallForRoom) (end : Yielding (Node K V) Unit) → ContinuesAs {K = K} {V = V} {Q = Q} (kinds.Reserve r.reserve) (of_outcome end) (next_for_room r end)
  room_on r outcome.Goes = (ForRoom r, refl, refl)
  room_on r outcome.Waits = (ForRoom r, refl, refl)
  room_on r (outcome.Gave value) = (ForRoom r, refl, refl)
  room_on r (outcome.Done end) = refl
  room_on r (outcome.Refused fault) = refl

  sweep_on : (o : CallOverAll) (told : Swept (Node K V)) → ContinuesAs {K = K} {V = V} {Q = Q} (kinds.Sweep o.sweep) (of_swept told) (next_over_all o told)
  sweep_on o swept.Goes = (OverAll o, refl, refl)
  sweep_on o swept.Waits = (OverAll o, refl, refl)
  sweep_on o (swept.Gave value) = (OverAll o, refl, refl)
  sweep_on o swept.Ready = (OverAll o, refl, refl)
  sweep_on o (swept.Pair pair) = (OverAll o, refl, refl)
  sweep_on o (swept.Asks pair) = (OverAll o, refl, refl)
  sweep_on o swept.Done = refl
  sweep_on o (swept.Refused fault) = refl

  count_on : (sum : Sum) (end : Counted ℕ) → ContinuesAs {K = K} {V = V} {Q = Q} (kinds.Count sum) (of_counting end) (next_of_counting sum end)
  count_on sum counted.Goes = (Counting sum, refl, refl)
  count_on sum counted.Waits = (Counting sum, refl, refl)
  count_on sum (counted.Done count) = refl
  count_on sum (counted.Refused fault) = refl

pub same_map : {K : Type 0} (it : Option (Standing K)) → IsSameMap it it
same_map None = refl
same_map (Some s) = (s.blocks, s.sights, refl, part_same s.chart s.blocks)

remembers_same : {K : Type 0} (incremental : Bool) (c : Chart K) → Remembers incremental c c
remembers_same incremental c = record { now = omega arith; was = λ moment l. refl; passed = λ t l. refl; leaves = λ t l before. absurd (omega (arith, l, before)); from = λ t l. refl }

-- rows of other callers are as they were
module _ {K V : Type 0} (setting : Setting) (w w2 : World (Node K V)) where
  users_rows : (events : List (Event (Node K V))) → AllUsers events → Runs deferred_word setting.batch_size events w w2 → (j : ℕ) → w2.row j ≡ w.row j
  users_rows events users runs j = ap (λ (f : ℕ → Row). f j) (between_rows deferred_word setting.batch_size events w w2 (all_between events users) runs)

  -- and so are slots
  users_slots : (events : List (Event (Node K V))) → AllUsers events → Runs deferred_word setting.batch_size events w w2 → (s i : ℕ) → LeavesSlots s i w w2
  users_slots events users = between_slots deferred_word setting.batch_size events w w2 (all_between events users)

  one_step_rows : {i : ℕ} → IsOneStep setting i w w2 → (j : ℕ) → j ≢ i → w2.row j ≡ w.row j
  one_step_rows {i} (inl step) j ne = steps_others deferred_word setting.batch_size w w2 i j ne (w.row i) step
  one_step_rows {i} (inr (request, begun, hands, begins, step)) j ne =
      steps_others deferred_word setting.batch_size begun w2 i j ne (begun.row i) step ∙ begins_others deferred_word setting.batch_size w begun i j ne request begins.1

module _ {K Q : Type 0} (V : Type 0) (same : K → K → Bool) (asks : Q → K → Bool) (batch_size roots : ℕ) (slot : ℕ → ℕ) where
  module _ (w : World (Node K V)) (maps : ℕ → Option (Standing K)) (calls : ℕ → ℕ → Option (UnderWay K V Q)) (makers : ℕ → Option (Beginning K)) (enders : ℕ → Option (Finishing K V))
      (all : EndingsTogether V same asks batch_size roots slot w maps calls makers enders) (m : ℕ) (s : Standing K) (here : maps m ≡ Some s) (i : ℕ) where
    abbrev Leads : Mem (Node K V) → UnderWay K V Q → Machine K V Q × Progress (Node K V) → Type 0
    Leads m2 u end = MachineStepsWithEndings V same asks batch_size roots slot w maps calls makers enders m s i m2 u end.0 end.1

    abbrev All : World (Node K V) → (ℕ → Option (Standing K)) → Option (UnderWay K V Q) → Type 0
    All w2 maps2 next = EndingsTogether V same asks batch_size roots slot w2 maps2 (with_call calls m i next) makers enders

    module _ (m2 : Mem (Node K V)) (w2 : World (Node K V)) (memory : w2.memory ≡ m2) (rows : (j : ℕ) → j ≢ i → w2.row j ≡ w.row j) (slots : LeavesSlots (slot i) i w w2)
        (u : UnderWay K V Q) (machine : Machine K V Q) (told : Progress (Node K V)) (next : Option (UnderWay K V Q)) (goes_on : ContinuesAs machine told next)
        (rests : next ≡ None → w2.row i ≡ Rests) where
      abbrev Did : (ℕ → Option (Standing K)) → Type 0
      Did maps2 = DidOfKind V same asks batch_size roots slot w maps calls makers enders m s i m2 w2 maps2 next u machine told

      -- the tables of its map have moved on
      moved : (s2 : Standing K) → Did (with_at maps m (Some s2)) → MapContinues s (Some s2) → All w2 (with_at maps m (Some s2)) next → Leads m2 u (machine, told)
      moved s2 did stands_on together = record {
        w2 = w2;
        memory = memory;
        rows = rows;
        slots = slots;
        maps2 = with_at maps m (Some s2);
        its_map = subst (MapContinues s) (sym (at_same maps m (Some s2) m refl)) stands_on;
        others = λ n ne. subst (IsSameMap (maps n)) (sym (at_other maps m (Some s2) n ne)) (same_map (maps n));
        next = next;
        goes_on = goes_on;
        rests = rests;
        together = together;
        did = did;
      }

      -- or no table has
      stayed : (maps2 : ℕ → Option (Standing K)) → Did maps2 → ((n : ℕ) → IsSameMap (maps n) (maps2 n)) → All w2 maps2 next → Leads m2 u (machine, told)
      stayed maps2 did maps_same together = record {
        w2 = w2;
        memory = memory;
        rows = rows;
        slots = slots;
        maps2 = maps2;
        its_map = (let h = subst (λ (x : Option (Standing K)). IsSameMap x (maps2 m)) here (maps_same m) in (s.chart, h.0, h.1, remembers_same (is_incremental s.setting.mode) s.chart, h.2));
        others = λ n ne. maps_same n;
        next = next;
        goes_on = goes_on;
        rests = rests;
        together = together;
        did = did;
      }

    abbrev Comes : UnderWay K V Q → Type 0
    Comes u =
        May Can Took value_at w.memory (machine_plan asks same s.hash (machine_of u))
        × ((m2 : Mem (Node K V)) (machine : Machine K V Q) (told : Progress (Node K V)) → Steps Took value_at w.memory (machine_plan asks same s.hash (machine_of u)) m2 (machine, told)
        → MachineStepsWithEndings V same asks batch_size roots slot w maps calls makers enders m s i m2 u machine told)

    -- a step of the machine of its kind, as one of the call
    module _ (u : UnderWay K V Q) {R : Type 0} (as_call : R → Machine K V Q × Progress (Node K V)) (plan : Plan (Node K V) R) where
      wrapped : May Can Took value_at w.memory plan → ((m2 : Mem (Node K V)) (end : R) → Steps Took value_at w.memory plan m2 end → Leads m2 u (as_call end))
          → May Can Took value_at w.memory (plan_as as_call plan)
          × ((m2 : Mem (Node K V)) (machine : Machine K V Q) (told : Progress (Node K V)) → Steps Took value_at w.memory (plan_as as_call plan) m2 (machine, told) → Leads m2 u (machine, told))
      wrapped may leads = (
        as_may as_call Can Took value_at w.memory plan may,
        λ m2 machine told st. let e = steps_back as_call w.memory m2 plan (machine, told) st in subst (Leads m2 u) (sym e.2) (leads m2 e.0 e.1),
      )

    -- a call that is at no row's step has none under way
    stands_now : (u : UnderWay K V Q) → calls m i ≡ Some u → IsAtPoint V same s.hash asks s.setting slot w s.chart (seen_by s.blocks (s.sights (slot i))) i u
    stands_now u has = (all.makings.standing.each m s here).stand i u has

    key_rests : (u : CallOnKey K V Q) → calls m i ≡ Some (OnKey u) → (IsRowOfCall u.call.stands → ⊥) → w.row i ≡ Rests
    key_rests u has none = elim (stands_now (OnKey u) has) as (λ _. w.row i ≡ Rests) [
      | inl h ↦ h.0
      | inr h ↦ absurd (none h.1)
    ]

    room_rests : (r : CallForRoom) → calls m i ≡ Some (ForRoom r) → (IsRowOfReserve r.reserve.stands → ⊥) → w.row i ≡ Rests
    room_rests r has none = elim (stands_now (ForRoom r) has) as (λ _. w.row i ≡ Rests) [
      | inl h ↦ h.0
      | inr h ↦ absurd (none h.1)
    ]

    sweep_rests : (o : CallOverAll) → calls m i ≡ Some (OverAll o) → (IsRowOfSweep o.sweep.stands → ⊥) → w.row i ≡ Rests
    sweep_rests o has none = elim (stands_now (OverAll o) has) as (λ _. w.row i ≡ Rests) [
      | inl h ↦ h.0
      | inr h ↦ absurd (none h.1)
    ]

    by_key : (u : CallOnKey K V Q) → calls m i ≡ Some (OnKey u) → Either (IsRowOfCall u.call.stands) → Comes (OnKey u)
    by_key u has (inr none) = wrapped (OnKey u) machines.called (call_plan asks same s.hash u.call) leads.0 by
      where
        leads : May Can Took value_at w.memory (call_plan asks same s.hash u.call)
            × ((m2 : Mem (Node K V)) (p2 : KeyCall K V Q) (told : Called (Node K V)) → Steps Took value_at w.memory (call_plan asks same s.hash u.call) m2 (p2, told)
            → StepsWithEndings V same asks batch_size roots slot w maps calls makers enders m s i u m2 p2 told)
        leads = calls_stand_among V same asks batch_size roots slot w maps calls makers enders all m s here i u has none

        by : (m2 : Mem (Node K V)) (end : KeyCall K V Q × Called (Node K V)) → Steps Took value_at w.memory (call_plan asks same s.hash u.call) m2 end → Leads m2 (OnKey u) (machines.called end)
        by m2 (p2, told) st =
            let to = leads.1 m2 p2 told st in
            moved m2 to.step.went.w2 to.step.went.memory (λ j ne. users_rows s.setting w to.step.went.w2 to.step.went.events to.step.went.users to.step.went.runs j)
            (users_slots s.setting w to.step.went.w2 to.step.went.events to.step.went.users to.step.went.runs (slot i) i)
            (OnKey u) (kinds.Key p2) (of_called told) _ (key_on K V Q _ told)
            (λ over. users_rows s.setting w to.step.went.w2 to.step.went.events to.step.went.users to.step.went.runs i ∙ key_rests u has none) (record s { chart = to.step.went.c2; blocks = to.step.blocks2; sights = to.step.sights2 })
            (p2, told, refl, refl, inl (to, (refl, refl, refl))) (to.step.went.c2, to.step.blocks2, to.step.sights2, to.step.remembers, refl) to.together
    by_key u has (inl row) = wrapped (OnKey u) machines.called (call_plan asks same s.hash u.call) leads.0 by
      where
        leads : May Can Took value_at w.memory (call_plan asks same s.hash u.call)
            × ((m2 : Mem (Node K V)) (p2 : KeyCall K V Q) (told : Called (Node K V)) → Steps Took value_at w.memory (call_plan asks same s.hash u.call) m2 (p2, told)
            → RowStepsWithEndings V same asks batch_size roots slot w maps calls makers enders m s i u m2 p2 told)
        leads = rows_stand_among V same asks batch_size roots slot w maps calls makers enders all m s here i u has row

        by : (m2 : Mem (Node K V)) (end : KeyCall K V Q × Called (Node K V)) → Steps Took value_at w.memory (call_plan asks same s.hash u.call) m2 end → Leads m2 (OnKey u) (machines.called end)
        by m2 (p2, told) st =
            let to = leads.1 m2 p2 told st in
            stayed m2 to.step.w2 to.step.memory (one_step_rows s.setting w to.step.w2 to.step.happened) to.step.slots
            (OnKey u) (kinds.Key p2) (of_called told) _ (key_on K V Q (record { keys = u.keys; pair = u.pair; began = u.began; change = u.change; call = p2 }) told) to.step.rests to.together.0
            (p2, told, refl, refl, inr (to, (refl, to.together.1, refl))) to.together.1 to.together.2

    by_room : (r : CallForRoom) → calls m i ≡ Some (ForRoom r) → Either (IsRowOfReserve r.reserve.stands) → Comes (ForRoom r)
    by_room r has (inr none) = wrapped (ForRoom r) machines.reserved (reserve_plan s.hash r.reserve) leads.0 by
      where
        leads : May Can Took value_at w.memory (reserve_plan s.hash r.reserve)
            × ((m2 : Mem (Node K V)) (p2 : Reserve) (end : Yielding (Node K V) Unit) → Steps Took value_at w.memory (reserve_plan s.hash r.reserve) m2 (p2, end)
            → RoomStepsWithEndings V same asks batch_size roots slot w maps calls makers enders m s i r m2 p2 end)
        leads = rooms_stand_among V same asks batch_size roots slot w maps calls makers enders all m s here i r has none

        by : (m2 : Mem (Node K V)) (end : Reserve × Yielding (Node K V) Unit) → Steps Took value_at w.memory (reserve_plan s.hash r.reserve) m2 end → Leads m2 (ForRoom r) (machines.reserved end)
        by m2 (p2, end) st =
            let to = leads.1 m2 p2 end st in
            moved m2 to.step.went.w2 to.step.went.memory (λ j ne. users_rows s.setting w to.step.went.w2 to.step.went.events to.step.went.users to.step.went.runs j)
            (users_slots s.setting w to.step.went.w2 to.step.went.events to.step.went.users to.step.went.runs (slot i) i)
            (ForRoom r) (kinds.Reserve p2) (of_outcome end) _ (room_on K V Q _ end)
            (λ over. users_rows s.setting w to.step.went.w2 to.step.went.events to.step.went.users to.step.went.runs i ∙ room_rests r has none) (record s { chart = to.step.went.c2; blocks = to.step.blocks2; sights = to.step.sights2 })
            (p2, end, refl, refl, inl (to, (refl, refl, refl))) (to.step.went.c2, to.step.blocks2, to.step.sights2, to.step.remembers, refl) to.together
    by_room r has (inl row) = wrapped (ForRoom r) machines.reserved (reserve_plan s.hash r.reserve) leads.0 by
      where
        leads : May Can Took value_at w.memory (reserve_plan s.hash r.reserve)
            × ((m2 : Mem (Node K V)) (p2 : Reserve) (end : Yielding (Node K V) Unit) → Steps Took value_at w.memory (reserve_plan s.hash r.reserve) m2 (p2, end)
            → RoomRowsWithEndings V same asks batch_size roots slot w maps calls makers enders m s i r m2 p2 end)
        leads = room_rows_stand_among V same asks batch_size roots slot w maps calls makers enders all m s here i r has row

        by : (m2 : Mem (Node K V)) (end : Reserve × Yielding (Node K V) Unit) → Steps Took value_at w.memory (reserve_plan s.hash r.reserve) m2 end → Leads m2 (ForRoom r) (machines.reserved end)
        by m2 (p2, end) st =
            let to = leads.1 m2 p2 end st in
            stayed m2 to.step.w2 to.step.memory (one_step_rows s.setting w to.step.w2 to.step.happened) to.step.slots
            (ForRoom r) (kinds.Reserve p2) (of_outcome end) _ (room_on K V Q (record { began = r.began; reserve = p2 }) end) to.step.rests to.together.0
            (p2, end, refl, refl, inr (to, (refl, to.together.1, refl))) to.together.1 to.together.2

    by_sweep : (o : CallOverAll) → calls m i ≡ Some (OverAll o) → Either (IsRowOfSweep o.sweep.stands) → Comes (OverAll o)
    by_sweep o has (inr none) = wrapped (OverAll o) machines.swept (sweep_plan s.hash o.sweep) leads.0 by
      where
        leads : May Can Took value_at w.memory (sweep_plan s.hash o.sweep)
            × ((m2 : Mem (Node K V)) (p2 : Sweep) (end : Swept (Node K V)) → Steps Took value_at w.memory (sweep_plan s.hash o.sweep) m2 (p2, end)
            → SweepStepsWithEndings V same asks batch_size roots slot w maps calls makers enders m s i o m2 p2 end)
        leads = sweeps_stand_among V same asks batch_size roots slot w maps calls makers enders all m s here i o has none

        by : (m2 : Mem (Node K V)) (end : Sweep × Swept (Node K V)) → Steps Took value_at w.memory (sweep_plan s.hash o.sweep) m2 end → Leads m2 (OverAll o) (machines.swept end)
        by m2 (p2, end) st =
            let to = leads.1 m2 p2 end st in
            moved m2 to.step.went.w2 to.step.went.memory (λ j ne. users_rows s.setting w to.step.went.w2 to.step.went.events to.step.went.users to.step.went.runs j)
            (users_slots s.setting w to.step.went.w2 to.step.went.events to.step.went.users to.step.went.runs (slot i) i)
            (OverAll o) (kinds.Sweep p2) (of_swept end) _ (sweep_on K V Q _ end)
            (λ over. users_rows s.setting w to.step.went.w2 to.step.went.events to.step.went.users to.step.went.runs i ∙ sweep_rests o has none) (record s { chart = to.step.went.c2; blocks = to.step.blocks2; sights = to.step.sights2 })
            (p2, end, refl, refl, inl (to, (refl, refl, refl))) (to.step.went.c2, to.step.blocks2, to.step.sights2, to.step.remembers, refl) to.together
    by_sweep o has (inl row) = wrapped (OverAll o) machines.swept (sweep_plan s.hash o.sweep) leads.0 by
      where
        leads : May Can Took value_at w.memory (sweep_plan s.hash o.sweep)
            × ((m2 : Mem (Node K V)) (p2 : Sweep) (end : Swept (Node K V)) → Steps Took value_at w.memory (sweep_plan s.hash o.sweep) m2 (p2, end)
            → SweepRowsWithEndings V same asks batch_size roots slot w maps calls makers enders m s i o m2 p2 end)
        leads = sweep_rows_stand_among V same asks batch_size roots slot w maps calls makers enders all m s here i o has row

        by : (m2 : Mem (Node K V)) (end : Sweep × Swept (Node K V)) → Steps Took value_at w.memory (sweep_plan s.hash o.sweep) m2 end → Leads m2 (OverAll o) (machines.swept end)
        by m2 (p2, end) st =
            let to = leads.1 m2 p2 end st in
            stayed m2 to.step.w2 to.step.memory (one_step_rows s.setting w to.step.w2 to.step.happened) to.step.slots
            (OverAll o) (kinds.Sweep p2) (of_swept end) _ (sweep_on K V Q (gone_on o p2) end) to.step.rests to.together.0
            (p2, end, refl, refl, inr (to, (refl, to.together.1, refl))) to.together.1 to.together.2

    by_counting : (sum : Sum) → calls m i ≡ Some (Counting sum) → Comes (Counting sum)
    by_counting sum has = wrapped (Counting sum) machines.counted (sum_plan sum) leads.0 by
      where
        leads : May Can Took value_at w.memory (sum_plan sum)
            × ((m2 : Mem (Node K V)) (sum2 : Sum) (end : Counted ℕ) → Steps Took value_at w.memory (sum_plan sum) m2 (sum2, end)
            → (m2 ≡ w.memory) × (end ≢ counted.Waits) × ((fault : Fault) → end ≢ counted.Refused fault) × All w maps (next_of_counting sum2 end))
        leads = countings_stand_among V same asks batch_size roots slot w maps calls makers enders all m s here i sum has

        by : (m2 : Mem (Node K V)) (end : Sum × Counted ℕ) → Steps Took value_at w.memory (sum_plan sum) m2 end → Leads m2 (Counting sum) (machines.counted end)
        by m2 (sum2, end) st =
            let to = leads.1 m2 sum2 end st in
            stayed m2 w (sym to.0) (λ j ne. refl) (record { uses = λ t. alike_same (w.uses t); on_slot = λ on. on }) (Counting sum) (kinds.Count sum2) (of_counting end) (next_of_counting sum2 end) (count_on K V Q sum2 end) (λ over. (stands_now (Counting sum) has).0) maps
            (sum2, end, refl, refl, to.0, (refl, (λ n. same_map (maps n)), refl)) (λ n. same_map (maps n)) to.3

    each : (u : UnderWay K V Q) → calls m i ≡ Some u → Comes u
    each (OnKey u) has = by_key u has (of_call u.call.stands)
    each (ForRoom r) has = by_room r has (of_reserve r.reserve.stands)
    each (Counting sum) has = by_counting sum has
    each (OverAll o) has = by_sweep o has (of_sweep o.sweep.stands)

  pub machines_stand_among : MachinesPreserveWithEndings V same asks batch_size roots slot
  machines_stand_among w maps calls makers enders all m s here i = each w maps calls makers enders all m s here i
