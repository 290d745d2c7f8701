-- An executor is there again as the making or the end of a map has begun, gone on or ended.
use Rattle.std.specs.Prelude.{◌≡◌, ◌≢◌, ◌<◌, ◌≤◌, ℕ, Bool, length, Option, Some, None, option_map, slice_index_or}
use Rattle.std.proofs.Common.{refl, sym, ap, subst, ◌∙◌}
use Rattle.seize.specs.World.{World, with_at}
use Rattle.papaya_raw.specs.Given.TablesDeclared.node.Node.{Node}
use Rattle.run_places.proofs.Given.CallersTogether.At.{at_other, at_same}
use Rattle.run_places.specs.Given.CallersRows.{LeavesSlots}
use Rattle.run_places.specs.Given.FinishesEndings.{Finishing, EndingsTogether}
use Rattle.run_places.specs.Given.FinishesMachines.{machine_of}
use Rattle.run_places.specs.Given.FinishesMakings.{Beginning}
use Rattle.run_places.specs.Given.FinishesMaps.{Standing}
use Rattle.run_executor.specs.declared.executor.Executor.{Executor}
use Rattle.run_places.specs.Given.ScenesDeclared.row.SlotUse.TheVariants as slot_use
use Rattle.run_executor.specs.declared.worker.Work.{Work}
use Rattle.run_executor.proofs.Executing.Again.{own, there_again, used_on}
use Rattle.run_executor.specs.Executing.IsThere.{ChangesAt, HasRow, IsThere, IsUsedAs, call_in, ending_in, making_in, place_of, use_at, worker_at, worker_of}
use Rattle.run_places.specs.Given.ScenesScene.{Scene, slot_of}
use Rattle.seize_words.proofs.General.{none_mapped as none_of}

module _ {K V S : Type 0} (same : K → K → Bool) (hash : K → ℕ) (e : Executor K V S) (s : Scene K V) (at : IsThere same hash e s) (i : ℕ) (had has : Option (Work K V))
    (before : worker_at e (place_of i) ≡ worker_of (slot_of i) had) (no_call_had : (m : ℕ) → call_in had m ≡ None) (no_call_has : (m : ℕ) → call_in has m ≡ None)
    (mid e2 : Executor K V S) (changes : ChangesAt (place_of i) (worker_of (slot_of i) has) e mid)
    (workers : e2.workers.items ≡ mid.workers.items) (batch_size : e2.batch_size ≡ e.batch_size) (roots : e2.roots ≡ e.roots) (slots : e2.slots.items ≡ e.slots.items)
    (grows : length e.maps.items ≤ length e2.maps.items) (w2 : World (Node K V)) (memory : w2.memory ≡ e2.memory.memory) (rows : (j : ℕ) → j ≢ i → w2.row j ≡ s.world.row j)
    (leaves : LeavesSlots (slot_of i) i s.world w2) (row : HasRow has (w2.row i))
    (maps2 : ℕ → Option (Standing K)) (settings : (m : ℕ) → option_map (λ standing. standing.setting) (maps2 m) ≡ slice_index_or e2.maps.items m None)
    (hashes : (m : ℕ) (standing : Standing K) → maps2 m ≡ Some standing → standing.hash ≡ hash) where
  calls_own : (m : ℕ) → option_map machine_of (s.calls m i) ≡ call_in has m
  calls_own m =
      at.calls m i ∙ ap (λ (x : Option (Work K V)). call_in x m) (own same hash e s at i had has before mid e2 changes workers) ∙ no_call_had m ∙ sym (no_call_has m)

  slots_then : (t : ℕ) → IsUsedAs (use_at e2 t) (w2.uses t)
  slots_then t = subst (λ xs. IsUsedAs (slice_index_or xs t slot_use.Vacant) (w2.uses t)) (sym slots) (used_on (use_at e t) (s.world.uses t) (w2.uses t) (at.uses t) (leaves.uses t))

  -- a making
  module _ (no_ending_had : ending_in had ≡ None) (no_ending_has : ending_in has ≡ None)
      (next : Option (Beginning K)) (next_is : option_map (λ b. (b.map, b.machine)) next ≡ making_in has)
      (next_so : (c : Beginning K) → next ≡ Some c → (c.hash ≡ hash) × (c.map < length e2.maps.items))
      (together : EndingsTogether V same same e.batch_size e.roots slot_of w2 maps2 s.calls (with_at s.makers i next) s.enders) where
    pub made_at : IsThere same hash e2 (record s { world = w2; maps = maps2; makers = with_at s.makers i next })
    made_at = there_again same hash e s at i had has before mid e2 changes workers batch_size roots grows (record s { world = w2; maps = maps2; makers = with_at s.makers i next }) (record {
      memory = memory;
      together = together;
      maps = settings;
      hashes = hashes;
      calls = calls_own;
      calls_as = λ m j nj. refl;
      makers = ap (option_map (λ b. (b.map, b.machine))) (at_same s.makers i next i refl) ∙ next_is;
      makers_as = λ j nj. at_other s.makers i next j nj;
      makes = λ c makes. next_so c (sym (at_same s.makers i next i refl) ∙ makes);
      enders = at.enders i ∙ ap ending_in (own same hash e s at i had has before mid e2 changes workers) ∙ no_ending_had ∙ sym no_ending_has;
      enders_as = λ j nj. refl;
      row = row;
      on_slot = leaves.on_slot (at.held.on_slots i);
      rows_as = rows;
      slots = ap length slots ∙ at.slots;
      uses = slots_then;
    })

  -- the end of a map
  module _ (no_making_had : making_in had ≡ None) (no_making_has : making_in has ≡ None)
      (next : Option (Finishing K V)) (next_is : option_map (λ f. f.machine) next ≡ ending_in has)
      (together : EndingsTogether V same same e.batch_size e.roots slot_of w2 maps2 s.calls s.makers (with_at s.enders i next)) where
    maker_none : s.makers i ≡ None
    maker_none = none_of _ (s.makers i) (at.makers i ∙ ap making_in (own same hash e s at i had has before mid e2 changes workers) ∙ no_making_had)

    pub finished_at : IsThere same hash e2 (record s { world = w2; maps = maps2; enders = with_at s.enders i next })
    finished_at = there_again same hash e s at i had has before mid e2 changes workers batch_size roots grows (record s { world = w2; maps = maps2; enders = with_at s.enders i next }) (record {
      memory = memory;
      together = together;
      maps = settings;
      hashes = hashes;
      calls = calls_own;
      calls_as = λ m j nj. refl;
      makers = ap (option_map (λ b. (b.map, b.machine))) maker_none ∙ sym no_making_has;
      makers_as = λ j nj. refl;
      makes = λ c makes. absurd (cc (maker_none, makes));
      enders = ap (option_map (λ f. f.machine)) (at_same s.enders i next i refl) ∙ next_is;
      enders_as = λ j nj. at_other s.enders i next j nj;
      row = row;
      on_slot = leaves.on_slot (at.held.on_slots i);
      rows_as = rows;
      slots = ap length slots ∙ at.slots;
      uses = slots_then;
    })
