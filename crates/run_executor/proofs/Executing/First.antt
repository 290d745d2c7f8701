-- An executor with no map and no caller is there.
use Rattle.std.specs.Prelude.{◌≡◌, ◌<◌, ◌≤◌, ◌^◌, ◌⊎◌, ℕ, Bool, [], length, replicate, Option, None, slice_index_or}
use Rattle.std.proofs.Common.{refl, sym, ap, subst, ◌∙◌, inl, inr, arith}
use Rattle.std.proofs.lemmas.Bool.{cases_lt}
use Rattle.std.proofs.lemmas.List.{get_or-replicate, get_or_past, length-replicate}
use Rattle.seize.specs.World.{Rests, Vacant, at_start}
use Rattle.papaya_raw.specs.Given.TablesNodes.{deferred_word}
use Rattle.run_places.specs.Given.FinishesEndings.{EndingsTogether}
use Rattle.run_places.proofs.Given.FinishesAmong.Begins.{no_endings_begin}
use Rattle.run_places.proofs.Given.FinishesBeside.Makings.Promised.{no_makings_begin}
use Rattle.run_places.proofs.Given.ManyMapsSamples.Beside.Makings.{start_roots}
use Rattle.run_places.proofs.Given.FinishesBeside.Maps.Comes.{no_maps_begin}
use Rattle.run_executor.specs.declared.executor.Executor.{Executor}
use Rattle.run_places.specs.Given.ScenesDeclared.row.SlotUse.{SlotUse}
use Rattle.run_places.specs.Given.ScenesDeclared.row.SlotUse.TheVariants as slot_use
use Rattle.run_places.specs.Given.ScenesDeclared.callers.TheConstants.{SLOTS}
use Rattle.run_executor.specs.declared.worker.Work.{Work}
use Rattle.run_executor.specs.Executing.IsThere.{HasRow, IsThere, IsUsedAs, call_in, ending_in, in_slot, making_in, place_of, work_of}
use Rattle.run_places.specs.Given.ScenesScene.{at_first, slot_of}

-- at first each slot is vacant
all_vacant : (t : ℕ) → (t < SLOTS) ⊎ (SLOTS ≤ t) → slice_index_or (replicate SLOTS slot_use.Vacant) t slot_use.Vacant ≡ slot_use.Vacant
all_vacant t (inl l) = get_or-replicate SLOTS t slot_use.Vacant slot_use.Vacant l
all_vacant t (inr past) = get_or_past (replicate SLOTS slot_use.Vacant) t slot_use.Vacant (omega (arith, past, length-replicate SLOTS slot_use.Vacant))

module _ {K V S : Type 0} (same : K → K → Bool) (hash : K → ℕ) (e : Executor K V S) (memory : e.memory.memory ≡ (at_start (deferred_word {K = K} {V = V}) e.roots).memory)
    (workers : e.workers.items ≡ []) (maps : e.maps.items ≡ []) (slots : e.slots.items ≡ replicate SLOTS slot_use.Vacant) (small : e.batch_size < 2 ^ 64) where
  together : EndingsTogether V same same e.batch_size e.roots slot_of (at_start (deferred_word {K = K} {V = V}) e.roots) (λ m. None) (λ m i. None) (λ i. None) (λ i. None)
  together =
      no_endings_begin V same same e.batch_size e.roots slot_of _ _ _ _
      (no_makings_begin V same same e.batch_size e.roots slot_of (at_start deferred_word e.roots) (λ m. None) (λ m i. None)
      (no_maps_begin V same same e.batch_size slot_of (at_start deferred_word e.roots) (e.roots, [], refl)) (start_roots {Q = K} V same same e.batch_size e.roots slot_of) (λ m s here. absurd (cc here)))

  no_work : (i : ℕ) → work_of e i ≡ None
  no_work i = ap (λ xs. in_slot (slot_of i) (slice_index_or xs (place_of i) None)) workers

  pub first_is : IsThere same hash e (at_first e.roots)
  first_is = record {
    held = record {
      memory = sym memory;
      together = together;
      hashes = λ m standing here. absurd (cc here);
      hashes_made = λ i b here. absurd (cc here);
      on_slots = λ i. tt;
      small = small;
    };
    maps = λ m. sym (ap (λ xs. slice_index_or xs m None) maps);
    calls = λ m i. sym (ap (λ x. call_in x m) (no_work i));
    makers = λ i. sym (ap making_in (no_work i));
    enders = λ i. sym (ap ending_in (no_work i));
    numbers = λ i b here. absurd (cc here);
    rows = λ i. subst (λ (x : Option (Work K V)). HasRow x Rests) (sym (no_work i)) refl;
    slots = ap length slots ∙ length-replicate SLOTS slot_use.Vacant;
    uses = λ t. subst (λ (x : SlotUse). IsUsedAs x Vacant) (sym (ap (λ xs. slice_index_or xs t slot_use.Vacant) slots ∙ all_vacant t (cases_lt t SLOTS))) refl;
  }
