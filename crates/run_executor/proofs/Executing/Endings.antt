-- A step of the end of a map: it may be taken, and the executor is there again.
use Rattle.std.specs.Prelude.{◌≡◌, ◌<◌, ℕ, Bool, length, Option, Some, None, option_map, slice_index_or, slice_set}
use Rattle.std.proofs.Common.{refl, sym, ap, subst, ◌∙◌, arith, ◌++◌, ◌∷◌, []}
use Rattle.seize_words.specs.OneMemory.Mem.{Mem, Can, Took, value_at}
use Rattle.seize_words.specs.OneMemory.Plan.{May, Steps}
use Rattle.seize.specs.World.{Row, Rests, with_at}
use Rattle.seize.specs.declared.rows.settle.Settled.{Settled}
use Rattle.seize.specs.declared.rows.settle.Settled.TheVariants as settled
use Rattle.papaya_raw.specs.Given.TablesNodes.{deferred_word}
use Rattle.papaya_raw.specs.Given.TablesDeclared.node.Node.{Node}
use Rattle.papaya_raw.specs.EndMap.{end_map_plan}
use Rattle.papaya_raw.specs.declared.machines.end_map.EndMap.{EndMap}
use Rattle.run_places.specs.Given.EffectsDeclared.changed.Changed.TheVariants.{Nothing}
use Rattle.run_places.proofs.Given.CallersTogether.Slots.{between_rows, between_slots}
use Rattle.run_places.specs.Given.CallersRows.{LeavesSlots}
use Rattle.run_places.specs.Given.FinishesEndings.{Finishing, EndingsTogether, FinishingOutcome, StepsOfEnding, waiting_by}
use Rattle.run_places.specs.Given.FinishesFactsEnds.{events_of}
use Rattle.run_places.proofs.Given.FinishesAmong.Own.Steps.{endings_stand}
use Rattle.run_executor.specs.declared.executor.Executor.{Executor}
use Rattle.run_executor.specs.declared.worker.Work.{Work}
use Rattle.run_executor.specs.declared.worker.Work.TheVariants as work
use Rattle.run_executor.specs.declared.worker.Worker.{Worker}
use Rattle.run_executor.proofs.Executing.Again.{own}
use Rattle.run_executor.proofs.Executing.Made.{finished_at}
use Rattle.run_executor.proofs.Executing.Makings.{set_there}
use Rattle.run_executor.proofs.Executing.Places.{ending_found}
use Rattle.run_executor.specs.Executing.Ending.{ending_on}
use Rattle.run_executor.specs.Executing.IsThere.{ChangesAt, HasRow, IsThere, call_in, ending_in, making_in, place_of, worker_at, worker_of, held_by}
use Rattle.run_places.proofs.Given.ScenesBetween.{deed_between}
use Rattle.run_places.proofs.Given.ScenesTold.{as_step}
use Rattle.run_places.specs.Given.ScenesEnding.{EndingOutcomeHolds, EndingStepsFrom}
use Rattle.run_places.specs.Given.ScenesScene.{IsEnding, Scene, slot_of}

module _ (K V : Type 0) where
  no_call : (m : ℕ) (ending : EndMap) (told : Settled (Node K V)) → call_in (ending_on ending told) m ≡ None
  no_call m ending settled.Goes = refl
  no_call m ending settled.Waits = refl
  no_call m ending (settled.Gave value) = refl
  no_call m ending settled.Done = refl

  no_making : (ending : EndMap) (told : Settled (Node K V)) → making_in (ending_on ending told) ≡ None
  no_making ending settled.Goes = refl
  no_making ending settled.Waits = refl
  no_making ending (settled.Gave value) = refl
  no_making ending settled.Done = refl

  no_row : (ending : EndMap) (told : Settled (Node K V)) (row : Row) → row ≡ Rests → HasRow (ending_on ending told) row
  no_row ending settled.Goes row is = is
  no_row ending settled.Waits row is = is
  no_row ending (settled.Gave value) row is = is
  no_row ending settled.Done row is = is

  ending_part : (ending ending2 : EndMap) → ◌≡◌ {A = Work K V} (work.Ending ending) (work.Ending ending2) → ending ≡ ending2
  ending_part ending ending2 is = cc is

module _ {K V S : Type 0} (same : K → K → Bool) (hash : K → ℕ) (e : Executor K V S) (s : Scene K V) (at : IsThere same hash e s) (i : ℕ) (f : Finishing K V) (here : s.enders i ≡ Some f) where
  -- the caller's end of a map is at its place, and may take its next step
  ending_is : worker_at e (place_of i) ≡ worker_of (slot_of i) (Some (work.Ending f.machine))
  ending_is = ending_found (slot_of i) f.machine (worker_at e (place_of i)) (sym (at.enders i) ∙ ap (option_map (λ f. f.machine)) here)

  may_end : May Can Took value_at e.memory.memory (end_map_plan {K = K} {V = V} f.machine)
  may_end =
      subst (λ (x : Mem (Node K V)). May Can Took value_at x (end_map_plan {K = K} {V = V} f.machine)) at.held.memory
      (endings_stand {Q = K} V same same e.batch_size e.roots slot_of s.world s.maps s.calls s.makers s.enders at.held.together i f here).0

  module _ (e2 : Executor K V S) (ending : EndMap) (told : Settled (Node K V)) (steps : EndingStepsFrom f.machine (held_by e) (held_by e2) ending told)
      (changes : ChangesAt (place_of i) (worker_of (slot_of i) (ending_on ending told)) e e2) where
    did : StepsOfEnding V same same e.batch_size e.roots slot_of s.world s.maps s.calls s.makers s.enders i f e2.memory.memory (ending, told)
    did = (endings_stand {Q = K} V same same e.batch_size e.roots slot_of s.world s.maps s.calls s.makers s.enders at.held.together i f here).1 e2.memory.memory (ending, told)
        (subst (λ (x : Mem (Node K V)). Steps Took value_at x (end_map_plan {K = K} {V = V} f.machine) e2.memory.memory (ending, told)) (sym at.held.memory)
        (as_step e.memory.memory Nothing (end_map_plan f.machine) e2.memory.memory e2.memory.changed (ending, told) steps))

    rows : did.w2.row ≡ s.world.row
    rows = between_rows deferred_word e.batch_size (events_of i did.deed) s.world did.w2 (deed_between (Node K V) i did.deed) did.runs

    leaves : LeavesSlots (slot_of i) i s.world did.w2
    leaves = between_slots deferred_word e.batch_size (events_of i did.deed) s.world did.w2 (deed_between (Node K V) i did.deed) did.runs (slot_of i) i

    resting : did.w2.row i ≡ Rests
    resting = ap (λ (f : ℕ → Row). f i) rows ∙ subst (λ (x : Option (Work K V)). HasRow x (s.world.row i)) (own same hash e s at i (Some (work.Ending f.machine)) (ending_on ending told) ending_is e2 e2 changes refl) (at.rows i)

    is_ended : (next : Option (Finishing K V)) → option_map (λ f. f.machine) next ≡ ending_in (ending_on ending told)
        → EndingsTogether V same same e.batch_size e.roots slot_of did.w2 s.maps s.calls s.makers (with_at s.enders i next)
        → IsThere same hash e2 (record s { world = did.w2; enders = with_at s.enders i next })
    is_ended next next_is together =
        finished_at same hash e s at i (Some (work.Ending f.machine)) (ending_on ending told) ending_is (λ m. refl) (λ m. no_call K V m ending told)
        e2 e2 changes refl changes.batch_size changes.roots changes.slots (omega (arith, ap length changes.maps)) did.w2 did.memory (λ j ne. ap (λ (f : ℕ → Row). f j) rows) leaves
        (no_row K V ending told (did.w2.row i) resting) s.maps (λ m. at.maps m ∙ ap (λ xs. slice_index_or xs m None) (sym changes.maps)) at.held.hashes refl (no_making K V ending told)
        next next_is together

    -- it goes on
    goes : (t : Settled (Node K V)) → told ≡ t → ending_in (ending_on ending t) ≡ Some ending → (g : Finishing K V) → g.machine ≡ ending
        → EndingsTogether V same same e.batch_size e.roots slot_of did.w2 s.maps s.calls s.makers (with_at s.enders i (Some g))
        → IsThere same hash e2 (record s { world = did.w2; enders = with_at s.enders i (Some g) })
    goes t is on g g_is = is_ended (Some g) (ap Some g_is ∙ sym (ap (λ x. ending_in (ending_on ending x)) is ∙ on))

    comes : EndingOutcomeHolds same (IsThere same hash e2) s i f ending did.w2 did.deed told
    comes = by told refl did.told
      where
        by : (t : Settled (Node K V)) → told ≡ t → FinishingOutcome V same same e.batch_size e.roots slot_of s.world s.maps s.calls s.makers s.enders i f did.w2 did.deed (ending, t)
            → EndingOutcomeHolds same (IsThere same hash e2) s i f ending did.w2 did.deed t
        by settled.Goes is (none, together) = (none, goes settled.Goes is refl (record f { machine = ending; waits = f.waits ++ waiting_by did.deed }) refl together)
        by settled.Waits is never = never
        by (settled.Gave value) is (b, there, taken, together) =
            (b, there, taken, goes (settled.Gave value) is refl (record f { machine = ending; back = f.back ++ b ∷ []; waits = f.waits ++ waiting_by did.deed }) refl together)
        by settled.Done is (none, finished, together) = (none, finished, is_ended None (sym (ap (λ x. ending_in (ending_on {K = K} {V = V} ending x)) is)) together)

  -- what was taken out of its place is that end
  pub taken_ending : (slot : ℕ) (ending : EndMap) → worker_at e (place_of i) ≡ worker_of slot (Some (work.Ending ending)) → (slot ≡ slot_of i) × (ending ≡ f.machine)
  taken_ending slot ending there =
      let both : ◌≡◌ {A = Worker K V} (record { slot = slot; work = work.Ending ending }) (record { slot = slot_of i; work = work.Ending f.machine }) = cc (there, ending_is) in
      (ap (λ (x : Worker K V). x.slot) both, ending_part K V ending f.machine (ap (λ (x : Worker K V). x.work) both))

  -- and its step leads where one of the caller's does
  pub ending_leads : (e2 : Executor K V S) (ending : EndMap) (told : Settled (Node K V)) (slot : ℕ) (before : EndMap) → (slot ≡ slot_of i) × (before ≡ f.machine)
      → place_of i < length e.workers.items → EndingStepsFrom before (held_by e) (held_by e2) ending told
      → e2.workers.items ≡ slice_set (slice_set e.workers.items (place_of i) None) (place_of i) (worker_of slot (ending_on ending told))
      → e2.hasher ≡ e.hasher → e2.batch_size ≡ e.batch_size → e2.roots ≡ e.roots → e2.maps.items ≡ e.maps.items → e2.slots.items ≡ e.slots.items
      → (ending : EndMap) × EndingStepsFrom f.machine (held_by e) (held_by e2) ending told
      × (did : StepsOfEnding V same same e.batch_size e.roots slot_of s.world s.maps s.calls s.makers s.enders i f e2.memory.memory (ending, told))
      × EndingOutcomeHolds same (IsThere same hash e2) s i f ending did.w2 did.deed told
  ending_leads e2 ending told slot before is within steps items hasher batch_size roots maps slots = (ending, steps2, did e2 ending told steps2 changes, comes e2 ending told steps2 changes)
    where
      steps2 : EndingStepsFrom f.machine (held_by e) (held_by e2) ending told
      steps2 = subst (λ (x : EndMap). EndingStepsFrom x (held_by e) (held_by e2) ending told) is.1 steps

      changes : ChangesAt (place_of i) (worker_of (slot_of i) (ending_on ending told)) e e2
      changes = subst (λ (x : ℕ). ChangesAt (place_of i) (worker_of x (ending_on ending told)) e e2) is.0
          (set_there e e2 (place_of i) (worker_of slot (ending_on ending told)) within items hasher batch_size roots maps slots)

-- who ends a map has that at its place
module _ {K V S : Type 0} (same : K → K → Bool) (hash : K → ℕ) (e : Executor K V S) (s : Scene K V) (at : IsThere same hash e s) (i : ℕ) (it : IsEnding s i) where
  pub has_ending : (slot : ℕ) × (ending : EndMap) × (slice_index_or e.workers.items (place_of i) None ≡ worker_of slot (Some (work.Ending ending)))
  has_ending = (slot_of i, it.0.machine, ending_is same hash e s at i it.0 it.1)

  -- it may take its next step
  pub may_taken : (slot : ℕ) (ending : EndMap) → worker_at e (place_of i) ≡ worker_of slot (Some (work.Ending ending)) → May Can Took value_at e.memory.memory (end_map_plan {K = K} {V = V} ending)
  may_taken slot ending there =
      subst (λ (x : EndMap). May Can Took value_at e.memory.memory (end_map_plan {K = K} {V = V} x)) (sym (taken_ending same hash e s at i it.0 it.1 slot ending there).1)
      (may_end same hash e s at i it.0 it.1)
