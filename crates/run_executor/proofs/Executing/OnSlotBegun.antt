-- The beginning of a row on a slot: the executor is there again.
use Rattle.std.specs.Prelude.{◌≡◌, ◌≢◌, ◌<◌, ℕ, Bool, [], ◌∷◌, ◌++◌, length, Option, Some, None, option_map, slice_index_or}
use Rattle.std.specs.Option.{is_none}
use Rattle.std.proofs.Common.{refl, sym, ap, subst, ◌∙◌, arith}
use Rattle.std.proofs.lemmas.List.{length-set}
use Rattle.seize.specs.World.{World, Row, Changing, Begin, Begins, Happens, with_at, one_more}
use Rattle.run_places.proofs.Given.SeizeRuleRows.Others.{with_here, with_other}
use Rattle.papaya_raw.specs.Given.TablesNodes.{deferred_word}
use Rattle.papaya_raw.specs.Given.TablesDeclared.node.Node.{Node}
use Rattle.run_places.specs.Given.CallersRows.{IsRowOn}
use Rattle.run_places.specs.Given.CallersTogether.{UnderWay, IsOfSlots, Closes}
use Rattle.run_places.proofs.Given.CallersTogether.Fits.{unless_so}
use Rattle.run_places.proofs.Given.CallersTogether.Slots.{alike_more, alike_at}
use Rattle.run_places.specs.Given.FinishesEndings.{AllEndingsStand}
use Rattle.run_places.specs.Given.FinishesMachines.{machine_of}
use Rattle.run_places.proofs.Given.FinishesAmong.Rows.{guards_stand_among}
use Rattle.run_executor.specs.declared.executor.Executor.{Executor}
use Rattle.run_places.specs.Given.ScenesDeclared.row.SlotCall.{SlotCall}
use Rattle.run_places.specs.Given.ScenesDeclared.row.SlotCall.TheVariants as call
use Rattle.run_places.specs.Given.ScenesDeclared.row.SlotUse.TheVariants as used
use Rattle.run_places.specs.Given.ScenesDeclared.callers.TheConstants.{SLOTS}
use Rattle.run_executor.specs.declared.worker.Work.{Work}
use Rattle.run_executor.specs.declared.worker.Work.TheVariants as work
use Rattle.run_executor.proofs.Executing.Again.{later, there_again, used_on}
use Rattle.run_executor.proofs.Executing.Fresh.{caller_in, fresh_before, fresh_changes, no_calls_yet, no_ending_yet, no_making_yet, resting, slot_is}
use Rattle.run_executor.proofs.Executing.Uses.{inside_now, outside_now, taken_now, used_then}
use Rattle.run_executor.specs.Executing.IsThere.{ChangesAt, IsThere, IsUsedAs, call_in, place_of, use_at, work_of, worker_of, held_by}
use Rattle.run_executor.specs.Executing.OnSlots.{MayBegin, NobodyIn, RowBeginsThere}
use Rattle.run_places.proofs.Given.ScenesGoes.{same_map_keeps}
use Rattle.run_places.proofs.Given.ScenesOnSlots.{its_row}
use Rattle.run_places.specs.Given.ScenesOnSlots.{HappensTo}
use Rattle.run_places.specs.Given.ScenesRows.{begun_row, request_of, uses_begun}
use Rattle.run_places.specs.Given.ScenesScene.{Scene, row_of, slot_of}

-- the row of each neither retires nor defers a block
pub of_slots : (slot : ℕ) (called : SlotCall) → IsOfSlots (request_of slot called)
of_slots slot (call.Register enters) = tt
of_slots slot call.Enter = tt
of_slots slot call.Leave = tt
of_slots slot call.LeaveOwned = tt
of_slots slot call.Refresh = tt
of_slots slot call.Flush = tt
of_slots slot call.Unregister = tt

module _ {K V S : Type 0} (same : K → K → Bool) (hash : K → ℕ) (e : Executor K V S) (s : Scene K V) (at : IsThere same hash e s) (i : ℕ) where
  -- how the world is once this has begun
  abbrev row_begun : ℕ → SlotCall → World (Node K V)
  row_begun slot called = record s.world { row = with_at s.world.row i (row_of (begun_row slot e.batch_size called)) }

  abbrev world_begun : ℕ → SlotCall → World (Node K V)
  world_begun slot (call.Register enters) = row_begun slot (call.Register enters)
  world_begun slot call.Flush = record (row_begun slot call.Flush) { uses = with_at s.world.uses slot (one_more (s.world.uses slot)) }
  world_begun slot called = record (row_begun slot called) { uses = with_at s.world.uses slot Changing }

  begins : (slot : ℕ) (called : SlotCall) → MayBegin e slot called → Begins deferred_word e.batch_size i (request_of slot called) s.world (world_begun slot called)
  begins slot (call.Register enters) may = refl
  begins slot call.Enter may = (outside_now same hash e s at slot may.0 may.1, refl)
  begins slot call.Leave may = (inside_now same hash e s at slot may.0 may.1, refl)
  begins slot call.LeaveOwned may = (inside_now same hash e s at slot may.0 may.1, refl)
  begins slot call.Refresh may = (inside_now same hash e s at slot may.0 may.1, refl)
  begins slot call.Flush may = (taken_now same hash e s at slot may, refl)
  begins slot call.Unregister may = (outside_now same hash e s at slot may.0 may.1, refl)

  world_memory : (slot : ℕ) (called : SlotCall) → (world_begun slot called).memory ≡ s.world.memory
  world_memory slot (call.Register enters) = refl
  world_memory slot call.Flush = refl
  world_memory slot call.Enter = refl
  world_memory slot call.Leave = refl
  world_memory slot call.LeaveOwned = refl
  world_memory slot call.Refresh = refl
  world_memory slot call.Unregister = refl

  world_row : (slot : ℕ) (called : SlotCall) → (world_begun slot called).row ≡ with_at s.world.row i (row_of (begun_row slot e.batch_size called))
  world_row slot (call.Register enters) = refl
  world_row slot call.Flush = refl
  world_row slot call.Enter = refl
  world_row slot call.Leave = refl
  world_row slot call.LeaveOwned = refl
  world_row slot call.Refresh = refl
  world_row slot call.Unregister = refl

  world_uses : (slot : ℕ) → slot < SLOTS → (called : SlotCall) (t : ℕ) → IsUsedAs (slice_index_or (uses_begun slot called e.slots.items) t used.Vacant) ((world_begun slot called).uses t)
  world_uses slot fits (call.Register enters) t = at.uses t
  world_uses slot fits call.Flush t =
      used_on (use_at e t) (s.world.uses t) (with_at s.world.uses slot (one_more (s.world.uses slot)) t) (at.uses t) (alike_at s.world.uses slot (one_more (s.world.uses slot)) (alike_more (s.world.uses slot)) t)
  world_uses slot fits call.Enter t = used_then e.slots.items s.world.uses at.uses slot (omega (arith, fits, at.slots)) used.Changing Changing refl t
  world_uses slot fits call.Leave t = used_then e.slots.items s.world.uses at.uses slot (omega (arith, fits, at.slots)) used.Changing Changing refl t
  world_uses slot fits call.LeaveOwned t = used_then e.slots.items s.world.uses at.uses slot (omega (arith, fits, at.slots)) used.Changing Changing refl t
  world_uses slot fits call.Refresh t = used_then e.slots.items s.world.uses at.uses slot (omega (arith, fits, at.slots)) used.Changing Changing refl t
  world_uses slot fits call.Unregister t = used_then e.slots.items s.world.uses at.uses slot (omega (arith, fits, at.slots)) used.Changing Changing refl t

  same_length : (slot : ℕ) (called : SlotCall) → length (uses_begun slot called e.slots.items) ≡ length e.slots.items
  same_length slot (call.Register enters) = refl
  same_length slot call.Flush = refl
  same_length slot call.Enter = length-set e.slots.items slot used.Changing
  same_length slot call.Leave = length-set e.slots.items slot used.Changing
  same_length slot call.LeaveOwned = length-set e.slots.items slot used.Changing
  same_length slot call.Refresh = length-set e.slots.items slot used.Changing
  same_length slot call.Unregister = length-set e.slots.items slot used.Changing

  -- nobody has a call in a slot in which nobody has anything under way
  no_call_in : (slot : ℕ) → NobodyIn e slot → (m j : ℕ) (u : UnderWay K V K) → s.calls m j ≡ Some u → slot_of j ≢ slot
  no_call_in slot nobody m j u has in_it =
      let none : option_map machine_of (s.calls m j) ≡ None = at.calls m j ∙ ap (λ (x : Option (Work K V)). call_in x m) (nobody j in_it) in
      cc (none, ap (option_map machine_of) has)

  closes_none : (slot : ℕ) (called : SlotCall) → MayBegin e slot called → (m j : ℕ) (u : UnderWay K V K) → s.calls m j ≡ Some u → Closes (request_of slot called) (slot_of j) → ⊥
  closes_none slot (call.Register enters) may m j u has closes = closes
  closes_none slot call.Enter may m j u has closes = closes
  closes_none slot call.Leave may m j u has closes = no_call_in slot may.1 m j u has closes
  closes_none slot call.LeaveOwned may m j u has closes = no_call_in slot may.1 m j u has closes
  closes_none slot call.Refresh may m j u has closes = no_call_in slot may.1 m j u has closes
  closes_none slot call.Flush may m j u has closes = closes
  closes_none slot call.Unregister may m j u has closes = closes

module _ {K V S : Type 0} (same : K → K → Bool) (hash : K → ℕ) (e : Executor K V S) (s : Scene K V) (at : IsThere same hash e s) (slot : ℕ) (fits : slot < SLOTS) (called : SlotCall)
    (e2 : Executor K V S) (memory : e2.memory ≡ e.memory)
    (items : e2.workers.items ≡ e.workers.items ++ Some (record { slot = slot; work = work.OnSlot (begun_row slot e.batch_size called) }) ∷ [])
    (hasher : e2.hasher ≡ e.hasher) (batch_size : e2.batch_size ≡ e.batch_size) (roots : e2.roots ≡ e.roots) (maps : e2.maps.items ≡ e.maps.items)
    (slots : e2.slots.items ≡ uses_begun slot called e.slots.items) where
  abbrev i : ℕ
  i = caller_in e slot

  abbrev its : SlotCall → Work K V
  its called = work.OnSlot (begun_row slot e.batch_size called)

  abbrev mid : Executor K V S
  mid = record e2 { slots = e.slots }

  changes : ChangesAt (place_of i) (worker_of (slot_of i) (Some (its called))) e mid
  changes = fresh_changes e slot fits (its called) mid items hasher batch_size roots maps refl

  abbrev w2 : World (Node K V)
  w2 = world_begun same hash e s at i slot called

  row_is : w2.row i ≡ row_of (begun_row slot e.batch_size called)
  row_is = ap (λ (f : ℕ → Row). f i) (world_row same hash e s at i slot called) ∙ with_here s.world.row i (row_of (begun_row slot e.batch_size called))

  rows_as : (j : ℕ) → j ≢ i → w2.row j ≡ s.world.row j
  rows_as j ne = ap (λ (f : ℕ → Row). f j) (world_row same hash e s at i slot called) ∙ with_other s.world.row i j (row_of (begun_row slot e.batch_size called)) ne

  begun_at : MayBegin e slot called → (e2.memory ≡ e.memory) × (work_of e2 i ≡ Some (its called)) × (e2.slots.items ≡ uses_begun slot called e.slots.items)
      × ((w3 : World (Node K V)) × Happens deferred_word e.batch_size (Begin i (request_of slot called)) s.world w3
      × ((all : AllEndingsStand V same same e.batch_size e.roots slot_of w3 s.maps s.calls s.makers s.enders) × IsThere same hash e2 (record s { world = w3; maps = all.0 })))
  begun_at may = (memory, later same hash e s at i None (Some (its called)) (fresh_before e slot fits) mid e2 changes refl, slots, (w2, happens, (all, there)))
    where
      happens : Happens deferred_word e.batch_size (Begin i (request_of slot called)) s.world w2
      happens = (resting same hash e s at slot fits, begins same hash e s at i slot called may)

      all : AllEndingsStand V same same e.batch_size e.roots slot_of w2 s.maps s.calls s.makers s.enders
      all = (guards_stand_among {Q = K} V same same e.batch_size e.roots slot_of s.world s.maps s.calls s.makers s.enders at.held.together i (no_calls_yet same hash e s at slot fits)).0
          (request_of slot called) (of_slots slot called) (λ m j u has. unless_so u (closes_none same hash e s at i slot called may m j u has)) w2 happens

      there : IsThere same hash e2 (record s { world = w2; maps = all.0 })
      there = there_again same hash e s at i None (Some (its called)) (fresh_before e slot fits) mid e2 changes refl batch_size roots (omega (arith, ap length maps)) (record s { world = w2; maps = all.0 }) (record {
        memory = world_memory same hash e s at i slot called ∙ at.held.memory ∙ ap (λ t. t.memory) (sym memory);
        together = all.2;
        maps = λ n. (same_map_keeps hash (s.maps n) (all.0 n) (at.held.hashes n) (all.1 n)).setting ∙ at.maps n ∙ ap (λ xs. slice_index_or xs n None) (sym maps);
        hashes = λ n. (same_map_keeps hash (s.maps n) (all.0 n) (at.held.hashes n) (all.1 n)).hashes;
        calls = λ m. ap (option_map machine_of) (no_calls_yet same hash e s at slot fits m);
        calls_as = λ m j ne. refl;
        makers = ap (option_map (λ b. (b.map, b.machine))) (no_making_yet same hash e s at slot fits);
        makers_as = λ j ne. refl;
        makes = λ c makes. absurd (cc (no_making_yet same hash e s at slot fits, makes));
        enders = ap (option_map (λ f. f.machine)) (no_ending_yet same hash e s at slot fits);
        enders_as = λ j ne. refl;
        row = row_is;
        on_slot = subst (IsRowOn (slot_of i)) (sym row_is) (subst (λ (x : ℕ). IsRowOn x (row_of (begun_row slot e.batch_size called))) (sym (slot_is e slot fits)) (its_row slot e.batch_size called));
        rows_as = rows_as;
        slots = ap length slots ∙ same_length same hash e s at i slot called ∙ at.slots;
        uses = λ t. subst (λ xs. IsUsedAs (slice_index_or xs t used.Vacant) (w2.uses t)) (sym slots) (world_uses same hash e s at i slot fits called t);
      })

  pub row_begins : RowBeginsThere same hash called i s e e2
  row_begins may =
      let so = by (slot_of i) (slot_is e slot fits) may in (so.0, so.1, so.2, (ap (λ t. t.memory) so.0, (λ m. ap is_none (no_calls_yet same hash e s at slot fits m)), so.3))
    where
      by : (x : ℕ) → x ≡ slot → MayBegin e x called
          → (e2.memory ≡ e.memory) × (work_of e2 i ≡ Some (work.OnSlot (begun_row x e.batch_size called))) × (e2.slots.items ≡ uses_begun x called e.slots.items)
          × HappensTo (IsThere same hash e2) (Begin i (request_of x called)) s (held_by e)
      by x is may =
          let so = begun_at (subst (λ (y : ℕ). MayBegin e y called) is may) in
          subst (λ (y : ℕ). (e2.memory ≡ e.memory) × (work_of e2 i ≡ Some (work.OnSlot (begun_row y e.batch_size called))) × (e2.slots.items ≡ uses_begun y called e.slots.items)
          × HappensTo (IsThere same hash e2) (Begin i (request_of y called)) s (held_by e)) (sym is)
          (so.0, so.1, so.2, (so.3.0, so.3.1, so.3.2.0.0, so.3.2.0.1, so.3.2.1))
