-- An executor that holds what it held is there still.
use Rattle.std.specs.Prelude.{◌≡◌, ◌≤◌, ℕ, Bool, [], ◌∷◌, ◌++◌, length, Option, None, slice_index_or, Result, Ok, Err, IfErr}
use Rattle.std.proofs.Common.{sym, ap, subst, ◌∙◌, arith}
use Rattle.std.proofs.lemmas.List.{length-append}
use Rattle.run_places.specs.Given.FinishesEndings.{EndingsTogether}
use Rattle.run_executor.specs.declared.executor.Executor.{Executor}
use Rattle.run_places.specs.Given.ScenesDeclared.row.SlotUse.TheVariants as used
use Rattle.run_executor.specs.declared.worker.Work.{Work}
use Rattle.run_executor.proofs.Executing.Places.{one_number}
use Rattle.run_executor.specs.Executing.Beginning.{IsRefused}
use Rattle.run_executor.specs.Executing.IsThere.{HasRow, IsThere, IsUsedAs, call_in, ending_in, in_slot, making_in, place_of, work_of}
use Rattle.run_places.specs.Given.ScenesScene.{Scene, slot_of}

module _ {K V S : Type 0} (same : K → K → Bool) (hash : K → ℕ) (e : Executor K V S) (s : Scene K V) (at : IsThere same hash e s) (e2 : Executor K V S) (memory : e2.memory ≡ e.memory)
    (workers : e2.workers.items ≡ e.workers.items) (batch_size : e2.batch_size ≡ e.batch_size) (roots : e2.roots ≡ e.roots) (slots : e2.slots.items ≡ e.slots.items)
    (maps : (m : ℕ) → slice_index_or e2.maps.items m None ≡ slice_index_or e.maps.items m None) (grows : length e.maps.items ≤ length e2.maps.items) where
  as_before : (j : ℕ) → work_of e2 j ≡ work_of e j
  as_before j = ap (λ xs. in_slot (slot_of j) (slice_index_or xs (place_of j) None)) workers

  pub kept_at : IsThere same hash e2 s
  kept_at = record {
    held = record {
      memory = at.held.memory ∙ ap (λ t. t.memory) (sym memory);
      hashes = at.held.hashes;
      hashes_made = at.held.hashes_made;
      on_slots = at.held.on_slots;
      small = omega (arith, at.held.small, batch_size);
      together = subst (λ (x : ℕ). EndingsTogether V same same x e2.roots slot_of s.world s.maps s.calls s.makers s.enders) (sym batch_size)
          (subst (λ (x : ℕ). EndingsTogether V same same e.batch_size x slot_of s.world s.maps s.calls s.makers s.enders) (sym roots) at.held.together);
    };
    maps = λ m. at.maps m ∙ sym (maps m);
    calls = λ m j. at.calls m j ∙ ap (λ (x : Option (Work K V)). call_in x m) (sym (as_before j));
    makers = λ j. at.makers j ∙ ap making_in (sym (as_before j));
    enders = λ j. at.enders j ∙ ap ending_in (sym (as_before j));
    numbers = λ j b makes. omega (arith, at.numbers j b makes, grows);
    rows = λ j. subst (λ (x : Option (Work K V)). HasRow x (s.world.row j)) (sym (as_before j)) (at.rows j);
    slots = ap length slots ∙ at.slots;
    uses = λ t. subst (λ xs. IsUsedAs (slice_index_or xs t used.Vacant) (s.world.uses t)) (sym slots) (at.uses t);
  }

-- And so it is where a beginning was refused: no place was taken.
module _ {K V S : Type 0} (e e2 : Executor K V S) (memory : e2.memory ≡ e.memory)
    (workers : e2.workers.items ≡ e.workers.items) (batch_size : e2.batch_size ≡ e.batch_size) (roots : e2.roots ≡ e.roots) (slots : e2.slots.items ≡ e.slots.items) where
  pub refused_so : e2.maps.items ≡ e.maps.items → IsRefused e e2
  refused_so maps same hash s at = kept_at same hash e s at e2 memory workers batch_size roots slots (λ m. ap (λ xs. slice_index_or xs m None) maps) (omega (arith, ap length maps))

  -- with a number that is no map's
  pub refused_with : e2.maps.items ≡ e.maps.items ++ None ∷ [] → IsRefused e e2
  refused_with maps same hash s at =
      kept_at same hash e s at e2 memory workers batch_size roots slots
      (λ m. ap (λ xs. slice_index_or xs m None) maps ∙ one_number e.maps.items m) (omega (arith, ap length maps, length-append e.maps.items (None ∷ [])))

-- what is so anyhow is so where it was refused
pub if_refused : {T E : Type 0} (r : Result T E) {P : E → Type 0} → ((y : E) → P y) → IfErr r P
if_refused (Ok x) all = tt
if_refused (Err y) all = all y
