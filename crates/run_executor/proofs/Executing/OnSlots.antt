-- A step of a row on a slot: it may be taken, and the executor is there again.
use Rattle.std.specs.Prelude.{◌≡◌, ◌<◌, ℕ, Bool, List, length, Option, Some, None, option_map, slice_index_or, slice_set}
use Rattle.std.specs.Option.{is_none}
use Rattle.std.proofs.Common.{refl, sym, ap, subst, ◌∙◌, arith}
use Rattle.std.proofs.lemmas.List.{length-set}
use Rattle.seize_words.specs.OneMemory.Mem.{Mem}
use Rattle.seize.specs.World.{World, Row, MayStep, Step, Happens, Steps'}
use Rattle.run_places.proofs.Given.SeizeRuleRows.Others.{steps_others}
use Rattle.papaya_raw.specs.Given.TablesNodes.{deferred_word}
use Rattle.papaya_raw.specs.Given.TablesDeclared.node.Node.{Node}
use Rattle.run_places.specs.Given.CallersRows.{IsRowOn}
use Rattle.run_places.specs.Given.FinishesEndings.{Finishing, AllEndingsStand}
use Rattle.run_places.specs.Given.FinishesMachines.{machine_of}
use Rattle.run_places.specs.Given.FinishesMakings.{Beginning}
use Rattle.run_places.proofs.Given.FinishesAmong.Rows.{guards_stand_among}
use Rattle.run_executor.specs.declared.executor.Executor.{Executor}
use Rattle.run_places.specs.Given.ScenesDeclared.row.RowTold.{RowTold}
use Rattle.run_places.specs.Given.ScenesDeclared.row.RowTold.TheVariants as told
use Rattle.run_places.specs.Given.ScenesDeclared.row.SlotChange.{SlotChange}
use Rattle.run_places.specs.Given.ScenesDeclared.row.SlotChange.TheVariants as change
use Rattle.run_places.specs.Given.ScenesDeclared.row.SlotRow.{SlotRow}
use Rattle.run_places.specs.Given.ScenesDeclared.row.SlotUse.{SlotUse}
use Rattle.run_places.specs.Given.ScenesDeclared.row.SlotUse.TheVariants as used
use Rattle.run_executor.specs.declared.worker.Work.{Work}
use Rattle.run_executor.specs.declared.worker.Work.TheVariants as work
use Rattle.run_executor.specs.declared.worker.Worker.{Worker}
use Rattle.run_executor.proofs.Executing.Again.{later, there_again}
use Rattle.run_executor.proofs.Executing.Makings.{set_there}
use Rattle.run_executor.proofs.Executing.Places.{found_in}
use Rattle.run_executor.proofs.Executing.RowsGo.{Goes, goes}
use Rattle.run_executor.specs.Executing.IsThere.{ChangesAt, HasRow, IsThere, IsUsedAs, call_in, ending_in, making_in, place_of, work_of, worker_at, worker_of, held_by}
use Rattle.run_executor.specs.Executing.OnSlots.{row_on}
use Rattle.run_places.proofs.Given.ScenesGoes.{same_map_keeps}
use Rattle.run_places.specs.Given.ScenesOnSlots.{HappensTo, RowSteps}
use Rattle.run_places.specs.Given.ScenesRows.{change_of, uses_after}
use Rattle.run_places.specs.Given.ScenesScene.{Scene, row_of, slot_of, IsOnSlot}
use Rattle.seize_words.proofs.General.{none_mapped as none_of}

module _ (K V : Type 0) where
  no_call : (m : ℕ) (row : SlotRow) (it : RowTold (Node K V)) → call_in (row_on row it) m ≡ None
  no_call m row told.Goes = refl
  no_call m row told.Waits = refl
  no_call m row (told.Gave value) = refl
  no_call m row told.Done = refl
  no_call m row (told.Registered slot) = refl
  no_call m row (told.Refused fault) = refl

  no_making : (row : SlotRow) (it : RowTold (Node K V)) → making_in (row_on row it) ≡ None
  no_making row told.Goes = refl
  no_making row told.Waits = refl
  no_making row (told.Gave value) = refl
  no_making row told.Done = refl
  no_making row (told.Registered slot) = refl
  no_making row (told.Refused fault) = refl

  no_ending : (row : SlotRow) (it : RowTold (Node K V)) → ending_in (row_on row it) ≡ None
  no_ending row told.Goes = refl
  no_ending row told.Waits = refl
  no_ending row (told.Gave value) = refl
  no_ending row told.Done = refl
  no_ending row (told.Registered slot) = refl
  no_ending row (told.Refused fault) = refl

  row_part : (row row2 : SlotRow) → ◌≡◌ {A = Work K V} (work.OnSlot row) (work.OnSlot row2) → row ≡ row2
  row_part row row2 is = cc is

-- as many slots as before
same_length : {T : Type 0} (it : SlotChange) (told : RowTold T) (slots : List SlotUse) → length (uses_after it told slots) ≡ length slots
same_length (change.Takes v) told.Goes slots = refl
same_length (change.Takes v) told.Waits slots = refl
same_length (change.Takes v) (told.Gave value) slots = refl
same_length (change.Takes v) told.Done slots = refl
same_length (change.Takes v) (told.Registered slot) slots = length-set slots slot v
same_length (change.Takes v) (told.Refused fault) slots = refl
same_length (change.Becomes slot v) told slots = length-set slots slot v
same_length change.Stays told slots = refl

module _ {K V S : Type 0} (same : K → K → Bool) (hash : K → ℕ) (e : Executor K V S) (s : Scene K V) (at : IsThere same hash e s) (i : ℕ) (row : SlotRow) (here : work_of e i ≡ Some (work.OnSlot row)) where
  -- the caller's row is at its place
  pub row_at : worker_at e (place_of i) ≡ worker_of (slot_of i) (Some (work.OnSlot row))
  row_at = found_in (slot_of i) (worker_at e (place_of i)) (work.OnSlot row) here

  row_is : s.world.row i ≡ row_of row
  row_is = subst (λ (x : Option (Work K V)). HasRow x (s.world.row i)) here (at.rows i)

  no_calls : (m : ℕ) → s.calls m i ≡ None
  no_calls m = none_of machine_of (s.calls m i) (at.calls m i ∙ ap (λ (x : Option (Work K V)). call_in x m) here)

  no_maker : s.makers i ≡ None
  no_maker = none_of (λ (b : Beginning K). (b.map, b.machine)) (s.makers i) (at.makers i ∙ ap making_in here)

  no_ender : s.enders i ≡ None
  no_ender = none_of (λ (f : Finishing K V). f.machine) (s.enders i) (at.enders i ∙ ap ending_in here)

  abbrev Guards : Type 0
  Guards =
      MayStep deferred_word (s.world.row i) s.world.memory
      × ((w2 : World (Node K V)) → Happens deferred_word e.batch_size (Step i) s.world w2 → AllEndingsStand V same same e.batch_size e.roots slot_of w2 s.maps s.calls s.makers s.enders)

  guards : Guards
  guards =
      let all = guards_stand_among {Q = K} V same same e.batch_size e.roots slot_of s.world s.maps s.calls s.makers s.enders at.held.together i no_calls in (all.1, all.2)

  -- it may take its next step
  may_row : MayStep deferred_word (row_of row) e.memory.memory
  may_row = subst (λ (r : Row). MayStep deferred_word r e.memory.memory) row_is (subst (λ (m : Mem (Node K V)). MayStep deferred_word (s.world.row i) m) at.held.memory guards.0)

  -- what was taken out of its place is that row
  pub taken_row : (slot : ℕ) (row2 : SlotRow) → worker_at e (place_of i) ≡ worker_of slot (Some (work.OnSlot row2)) → (slot ≡ slot_of i) × (row2 ≡ row)
  taken_row slot row2 there =
      let both : ◌≡◌ {A = Worker K V} (record { slot = slot; work = work.OnSlot row2 }) (record { slot = slot_of i; work = work.OnSlot row }) = cc (there, row_at) in
      (ap (λ (x : Worker K V). x.slot) both, row_part K V row2 row (ap (λ (x : Worker K V). x.work) both))

  pub may_taken : (slot : ℕ) (row2 : SlotRow) → worker_at e (place_of i) ≡ worker_of slot (Some (work.OnSlot row2)) → MayStep deferred_word (row_of row2) e.memory.memory
  may_taken slot row2 there = subst (λ (r : SlotRow). MayStep deferred_word (row_of r) e.memory.memory) (sym (taken_row slot row2 there).1) may_row

  -- its step leads there
  pub row_leads : (e2 : Executor K V S) (after : SlotRow) (told : RowTold (Node K V)) (slot : ℕ) (before : SlotRow) → (slot ≡ slot_of i) × (before ≡ row)
      → place_of i < length e.workers.items → RowSteps K V before e.memory.memory e2.memory.memory e2.memory.changed (after, told)
      → e2.workers.items ≡ slice_set (slice_set e.workers.items (place_of i) None) (place_of i) (worker_of slot (row_on after told))
      → e2.hasher ≡ e.hasher → e2.batch_size ≡ e.batch_size → e2.roots ≡ e.roots → e2.maps.items ≡ e.maps.items → e2.slots.items ≡ uses_after (change_of before) told e.slots.items
      → IsOnSlot s i row × (after : SlotRow) × RowSteps K V row e.memory.memory e2.memory.memory e2.memory.changed (after, told) × (work_of e2 i ≡ row_on after told)
      × (e2.slots.items ≡ uses_after (change_of row) told e.slots.items) × HappensTo (IsThere same hash e2) (Step i) s (held_by e)
  row_leads e2 after told slot before is within steps items hasher batch_size roots maps slots =
      (((λ m. ap is_none (no_calls m)), row_is), after, steps2, later same hash e s at i (Some (work.OnSlot row)) (row_on after told) row_at mid e2 changes refl, slots2, (goes2.w2, happens, all.0, all.1, there))
    where
      steps2 : RowSteps K V row e.memory.memory e2.memory.memory e2.memory.changed (after, told)
      steps2 = subst (λ (x : SlotRow). RowSteps K V x e.memory.memory e2.memory.memory e2.memory.changed (after, told)) is.1 steps

      slots2 : e2.slots.items ≡ uses_after (change_of row) told e.slots.items
      slots2 = subst (λ (x : SlotRow). e2.slots.items ≡ uses_after (change_of x) told e.slots.items) is.1 slots

      goes2 : Goes same hash e s at i row e2.memory.memory (after, told)
      goes2 = goes same hash e s at i e2.memory.memory row e2.memory.changed (after, told) row_is
          (subst (λ (m : Mem (Node K V)). RowSteps K V row m e2.memory.memory e2.memory.changed (after, told)) (sym at.held.memory) steps2)

      happens : Happens deferred_word e.batch_size (Step i) s.world goes2.w2
      happens = subst (λ (r : Row). Steps' deferred_word i r s.world goes2.w2) (sym row_is) goes2.step

      all : AllEndingsStand V same same e.batch_size e.roots slot_of goes2.w2 s.maps s.calls s.makers s.enders
      all = guards.1 goes2.w2 happens

      mid : Executor K V S
      mid = record e2 { slots = e.slots }

      changes : ChangesAt (place_of i) (worker_of (slot_of i) (row_on after told)) e mid
      changes = subst (λ (x : ℕ). ChangesAt (place_of i) (worker_of x (row_on after told)) e mid) is.0
          (set_there e mid (place_of i) (worker_of slot (row_on after told)) within items hasher batch_size roots maps refl)

      there : IsThere same hash e2 (record s { world = goes2.w2; maps = all.0 })
      there = there_again same hash e s at i (Some (work.OnSlot row)) (row_on after told) row_at mid e2 changes refl batch_size roots (omega (arith, ap length maps)) (record s { world = goes2.w2; maps = all.0 }) (record {
        memory = goes2.memory;
        together = all.2;
        maps = λ n. (same_map_keeps hash (s.maps n) (all.0 n) (at.held.hashes n) (all.1 n)).setting ∙ at.maps n ∙ ap (λ xs. slice_index_or xs n None) (sym maps);
        hashes = λ n. (same_map_keeps hash (s.maps n) (all.0 n) (at.held.hashes n) (all.1 n)).hashes;
        calls = λ m. ap (option_map machine_of) (no_calls m) ∙ sym (no_call K V m after told);
        calls_as = λ m j ne. refl;
        makers = ap (option_map (λ (b : Beginning K). (b.map, b.machine))) no_maker ∙ sym (no_making K V after told);
        makers_as = λ j ne. refl;
        makes = λ c makes. absurd (cc (no_maker, makes));
        enders = ap (option_map (λ (f : Finishing K V). f.machine)) no_ender ∙ sym (no_ending K V after told);
        enders_as = λ j ne. refl;
        row = goes2.row_is;
        on_slot = goes2.on_slot (slot_of i) (subst (IsRowOn (slot_of i)) row_is (at.held.on_slots i));
        rows_as = λ j ne. steps_others deferred_word e.batch_size s.world goes2.w2 i j ne (s.world.row i) happens;
        slots = ap length slots2 ∙ same_length (change_of row) told e.slots.items ∙ at.slots;
        uses = λ t. subst (λ xs. IsUsedAs (slice_index_or xs t used.Vacant) (goes2.w2.uses t)) (sym slots2) (goes2.uses t);
      })
