-- A row on a slot, in the midst of an event: the list of acts goes on where one begins, and by each of its steps.
use Rattle.std.specs.Prelude.{◌++◌, Option, Some, None, option_map}
use Rattle.std.specs.Option.{is_none}
use Rattle.std.proofs.Common.{◌≡◌, ℕ, Bool, List, refl, sym, ap, subst, ◌∙◌}
use Rattle.seize_acts.specs.Acts.Answers.{Grant}
use Rattle.run_schedules.specs.Given.SeizeWordsMem.{Mem}
use Rattle.seize.specs.World.{Row}
use Rattle.seize.specs.declared.advance.Advance.{Advance}
use Rattle.seize.specs.declared.rows.enter.Enter.{Enter}
use Rattle.seize.specs.declared.rows.enter.Unregister.{Unregister}
use Rattle.seize.specs.declared.rows.leave.Leave.{Leave}
use Rattle.seize.specs.declared.rows.register.Register.{Register}
use Rattle.seize.specs.declared.rows.settle.Settle.{Settle}
use Rattle.seize.specs.declared.rows.settle.Settled.{Settled}
use Rattle.seize.specs.declared.rows.reclaim_all.ReclaimAll.{ReclaimAll}
use Rattle.map_tables.specs.declared.node.Node.{Node}
use Rattle.run_kept.specs.Given.EffectsDeclared.changed.Changed.{Changed}
use Rattle.many_acts.specs.Given.FinishesMachines.{machine_of}
use Rattle.many_acts.proofs.Given.ScenesRows.{one_row}
use Rattle.many_acts.specs.Given.ScenesRows.{of_registering, of_settling, of_storing, request_of}
use Rattle.many_acts.specs.Given.ScenesScene.{HasNoCall, Scene, row_of, slot_of}
use Rattle.many_acts.specs.Given.ScenesDeclared.row.RowTold.{RowTold}
use Rattle.many_acts.specs.Given.ScenesDeclared.row.SlotCall.{SlotCall}
use Rattle.many_acts.specs.Given.ScenesDeclared.row.SlotRow.{SlotRow}
use Rattle.many_acts.specs.Given.ScenesDeclared.row.SlotRow.TheVariants as rows
use Rattle.run_schedules.specs.declared.effect.Effect.{Effect}
use Rattle.run_schedules.specs.declared.event.Event.{Event}
use Rattle.run_schedules.specs.declared.outcome.Outcome.{Outcome}
use Rattle.run_schedules.specs.Schedules.After.{moment}
use Rattle.run_schedules.specs.Schedules.Entry.{Entry}
use Rattle.run_kept.specs.Given.EffectsEffects.{effects_of, known_after}
use Rattle.run_kept.specs.Given.EffectsKnown.{Known}
use Rattle.run_kept.specs.Given.EffectsDeclared.acting.Acting.TheVariants as acting
use Rattle.run_finds.specs.Given.ExecutorIsThere.{HasRow, IsThere, StaysGiven, call_in, work_of}
use Rattle.run_finds.specs.Given.ExecutorOnSlots.{MayBegin, RowBeginsThere, RowStepsThere}
use Rattle.run_finds.specs.Given.ExecutorDeclared.executor.Executor.{Executor}
use Rattle.run_finds.specs.Given.ExecutorDeclared.worker.Work.{Work}
use Rattle.run_finds.specs.Given.ExecutorDeclared.worker.Work.TheVariants as work
use Rattle.run_finds.specs.Given.ExecutorDeclared.caller.NamedCaller.{NamedCaller}
use Rattle.many_acts.specs.Acts.Acts.{BeginsRow, Nothing, StepsRow}
use Rattle.many_acts.specs.Acts.AsSteps.{row_changed}
use Rattle.many_acts.specs.Acts.Doings.{Stage, reclaiming}
use Rattle.many_acts.specs.Acts.Lists.{Course}
use Rattle.play_lists.proofs.Agrees.Told.{row_of_no_map}
use Rattle.play_lists.specs.Drives.Executors.{AreSteps, RowIsComputed}
use Rattle.play_lists.proofs.Drives.Executors.{executors_act}
use Rattle.play_lists.specs.Played.Play.{State, play_act, row_begun, row_deed, row_outcome, row_stepped, slot_row_steps}
use Rattle.play_lists.specs.Played.Reached.{IsOfStage, row_or_rests, rows_beside}
use Rattle.play_lists.proofs.Played.PlayedAs.{played_as}
use Rattle.play_lists.specs.Grouped.Grouping.{MayHave, Names}
use Rattle.play_lists.specs.Grouped.Reach.{Reach}
use Rattle.play_lists.proofs.Grouped.Aside.{begun_aside, row_aside, works_on}
use Rattle.play_lists.proofs.Grouped.Midst.{InEvent}
use Rattle.play_lists.proofs.Grouped.OneMore.{one_act}
use Rattle.run_finds.proofs.Given.General.{same_some, none_mapped as none_of}

-- a row that is seen beside whoever reclaims all is one between calls
beside : (o : Option (ℕ × ReclaimAll)) (all : ℕ → Row) (i : ℕ) (row : SlotRow) → row_of row ≡ rows_beside o all i → row_of row ≡ all i
beside None all i row is = is
beside (Some it) all i (rows.Registers c) is = absurd (cc is)
beside (Some it) all i (rows.Enters c) is = absurd (cc is)
beside (Some it) all i (rows.Leaves c) is = absurd (cc is)
beside (Some it) all i (rows.Flushes c) is = absurd (cc is)
beside (Some it) all i (rows.Frees c) is = absurd (cc is)

module _ {K V S : Type 0} (e e2 : Executor K V S) where
  -- what its next step comes to, and what that has changed
  row_computed : (row : SlotRow) (said : RowTold (Node K V)) (g : Grant) → RowIsComputed e e2 row said g
      → (after : SlotRow) × (slot_row_steps row g e.memory.memory ≡ Some (e2.memory.memory, (after, said))) × (row_changed (row_of row) g e.memory.memory ≡ e2.memory.changed)
  row_computed (rows.Registers c) said g (end, is, tells) = (
    rows.Registers end.0,
    ap (option_map (λ (p : Mem (Node K V) × (Register × Advance ℕ)). (p.0, (rows.Registers p.1.0, of_registering p.1.1)))) is.0
        ∙ ap (λ (t : RowTold (Node K V)). Some (e2.memory.memory, (rows.Registers end.0, t))) (sym tells),
    is.1,
  )
  row_computed (rows.Enters c) said g (end, is, tells) = (
    rows.Enters end.0,
    ap (option_map (λ (p : Mem (Node K V) × (Enter × Advance Unit)). (p.0, (rows.Enters p.1.0, of_storing p.1.1)))) is.0
        ∙ ap (λ (t : RowTold (Node K V)). Some (e2.memory.memory, (rows.Enters end.0, t))) (sym tells),
    is.1,
  )
  row_computed (rows.Leaves c) said g (end, is, tells) = (
    rows.Leaves end.0,
    ap (option_map (λ (p : Mem (Node K V) × (Leave × Settled (Node K V))). (p.0, (rows.Leaves p.1.0, of_settling p.1.1)))) is.0
        ∙ ap (λ (t : RowTold (Node K V)). Some (e2.memory.memory, (rows.Leaves end.0, t))) (sym tells),
    is.1,
  )
  row_computed (rows.Flushes c) said g (end, is, tells) = (
    rows.Flushes end.0,
    ap (option_map (λ (p : Mem (Node K V) × (Settle × Settled (Node K V))). (p.0, (rows.Flushes p.1.0, of_settling p.1.1)))) is.0
        ∙ ap (λ (t : RowTold (Node K V)). Some (e2.memory.memory, (rows.Flushes end.0, t))) (sym tells),
    is.1,
  )
  row_computed (rows.Frees c) said g (end, is, tells) = (
    rows.Frees end.0,
    ap (option_map (λ (p : Mem (Node K V) × (Unregister × Advance Unit)). (p.0, (rows.Frees p.1.0, of_storing p.1.1)))) is.0
        ∙ ap (λ (t : RowTold (Node K V)). Some (e2.memory.memory, (rows.Frees end.0, t))) (sym tells),
    is.1,
  )

module _ {K V S : Type 0} (same : K → K → Bool) (by_hasher : S → K → ℕ) (shards : ℕ) (log : List (Entry K V)) (event : Event K V) (calls : List (NamedCaller V)) (e e2 : Executor K V S) (given : StaysGiven e e2)
    (any : Course V same by_hasher e.batch_size e.roots slot_of) (i : ℕ) where
  abbrev At : (did : List Effect) → Outcome V → Executor K V S → Known → Type 0
  At did outcome x known = Reach same by_hasher e.hasher e.batch_size e.roots shards (λ (s : State K V S). InEvent log event did 0 outcome calls s) x known

  -- One begins on the slot of its caller, who has nothing under way.
  pub row_begins : (called : SlotCall) → ((s : Scene K V) → IsThere same (by_hasher e.hasher) e s → RowBeginsThere same (by_hasher e.hasher) called i s e e2) → work_of e i ≡ None
      → MayBegin e (slot_of i) called → (did : List Effect) (outcome : Outcome V) (noted : Known) → At did outcome e noted → At did outcome e2 noted
  row_begins called begins fresh may did outcome noted at =
      one_act same by_hasher shards e e2 given any noted noted (λ (s : State K V S). InEvent log event did 0 outcome calls s) (λ (s : State K V S). InEvent log event did 0 outcome calls s)
      (BeginsRow i (request_of (slot_of i) called)) Nothing ((called, refl), tt) (λ s there. (executors_act V same by_hasher e e2 s there given i).1.row_begins called (begins s there) fresh may) (λ x so. tt)
      (λ value. value) (λ value aborts x y p stage there its played knows so.
      (let came = played_as same by_hasher e.batch_size e.roots aborts x y (BeginsRow i (request_of (slot_of i) called)) played in
      let z = row_begun e.batch_size i x came.0 in (
        ap (λ (w : State K V S). w.known) came.2 ∙ knows,
        subst (λ (w : State K V S). InEvent log event did 0 outcome calls w) (sym came.2) (begun_aside log event did 0 outcome calls x so z.now refl),
      ))) at

  -- Its step, which said this: its entry is one of the event.
  module _ (row : SlotRow) (under : work_of e i ≡ Some (work.OnSlot row)) (said : RowTold (Node K V))
      (leads : (s : Scene K V) → IsThere same (by_hasher e.hasher) e s → RowStepsThere same (by_hasher e.hasher) i said s e e2) (did did2 : List Effect) (noted noted2 : Known)
      (did_is : did2 ≡ did ++ effects_of acting.Row noted e2.memory.changed) (noted_is : noted2 ≡ known_after acting.Row e2.memory.changed noted) (outcome : Outcome V)
      (may : (names : Names) → MayHave names (moment log) event (row_deed row)) where
    drive : (s : Scene K V) → IsThere same (by_hasher e.hasher) e s → AreSteps same by_hasher e e2 s (RowIsComputed e e2 row said) (StepsRow i) Nothing
    drive s there = (executors_act V same by_hasher e e2 s there given i).1.row said (leads s there) row under

    -- who has it has no call, and it is that row in the scene
    no_call : (s : Scene K V) → IsThere same (by_hasher e.hasher) e s → HasNoCall s i
    no_call s there m = ap is_none (none_of machine_of (s.calls m i) (there.calls m i ∙ ap (λ (x : Option (Work K V)). call_in x m) under))

    is_row : (s : Scene K V) → IsThere same (by_hasher e.hasher) e s → s.world.row i ≡ row_of row
    is_row s there = subst (λ (x : Option (Work K V)). HasRow x (s.world.row i)) under (there.rows i)

    module _ (g : Grant) (computed : RowIsComputed e e2 row said g) where
      end_is : (after : SlotRow) × (slot_row_steps row g e.memory.memory ≡ Some (e2.memory.memory, (after, said))) × (row_changed (row_of row) g e.memory.memory ≡ e2.memory.changed)
      end_is = row_computed e e2 row said g computed

      next : (V → (aborts : ℕ → V) (x y : State K V S) (p : Stage V same by_hasher e.batch_size e.roots slot_of) → IsOfStage by_hasher same e.batch_size e.roots p x.now
          → IsThere same (by_hasher e.hasher) e p.0 → play_act same by_hasher e.batch_size e.roots aborts (StepsRow i g) x ≡ Some y → x.known ≡ noted → InEvent log event did 0 outcome calls x
          → (y.known ≡ noted2) × InEvent log event did2 0 (row_outcome said) calls y)
      next value aborts x y p stage there played knows so = (
          let came = played_as same by_hasher e.batch_size e.roots aborts x y (StepsRow i g) played in
          let memory : x.now.memory ≡ e.memory.memory = stage.scene.memory ∙ there.held.memory in
          let one : came.0 ≡ row = one_row came.0 row
          (beside (reclaiming V same by_hasher e.batch_size e.roots slot_of p) p.0.world.row i came.0
          (sym (ap row_or_rests came.1) ∙ stage.scene.between i (no_call p.0 there)) ∙ is_row p.0 there) in
          let end : came.2 ≡ (e2.memory.memory, (end_is.0, said)) = same_some came.2 (e2.memory.memory, (end_is.0, said))
          (sym came.3 ∙ ap (λ (r : SlotRow). slot_row_steps r g x.now.memory) one ∙ ap (slot_row_steps row g) memory ∙ end_is.1) in
          let change : row_changed (row_of came.0) g x.now.memory ≡ e2.memory.changed =
          ap (λ (r : SlotRow). row_changed (row_of r) g x.now.memory) one ∙ ap (row_changed (row_of row) g) memory ∙ end_is.2 in
          let is : y ≡ row_stepped i row e2.memory.changed x (e2.memory.memory, (end_is.0, said)) =
          came.4 ∙ ap (λ (c : Changed). row_stepped i came.0 c x came.2) change ∙ ap (λ (r : SlotRow). row_stepped i r e2.memory.changed x came.2) one
          ∙ ap (λ (q : Mem (Node K V) × (SlotRow × RowTold (Node K V))). row_stepped i row e2.memory.changed x q) end in
          works_on log event did 0 outcome calls x so (row_stepped i row e2.memory.changed x (e2.memory.memory, (end_is.0, said))).now refl acting.Row e2.memory.changed (row_deed row) (row_outcome said) Nothing
          (row_aside row) (λ n l. (row_of_no_map row).comes n) may noted noted2 did2 knows did_is noted_is y is)

    pub row_steps : At did outcome e noted → At did2 (row_outcome said) e2 noted2
    row_steps at =
        let to = at.leads any in
        let c = (drive to.0.0.0 to.3).0 in
        one_act same by_hasher shards e e2 given any noted noted2 (λ (s : State K V S). InEvent log event did 0 outcome calls s) (λ (s : State K V S). InEvent log event did2 0 (row_outcome said) calls s)
        (StepsRow i c.0) Nothing (tt, tt) (λ s there. ((drive s there).1 c.0 c.1).0) (λ x so. tt) (λ value. value)
        (λ value aborts x y p stage there its played knows so. next c.0 c.1 value aborts x y p stage there played knows so) at
