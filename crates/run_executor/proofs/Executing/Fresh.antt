-- A caller whose place comes next: it has nothing under way yet.
use Rattle.std.specs.Prelude.{◌≡◌, ◌≢◌, ◌<◌, ◌≤◌, ◌+◌, ◌*◌, ◌⊎◌, ℕ, Bool, [], ◌∷◌, ◌++◌, length, Option, Some, None, slice_index_or}
use Rattle.std.proofs.Common.{sym, ap, subst, ◌∙◌, inl, inr, arith}
use Rattle.std.proofs.lemmas.Bool.{cases_lt}
use Rattle.std.proofs.lemmas.List.{get_or_past, get_or_push, get_or_append_left, length-append}
use Rattle.seize.specs.World.{Rests}
use Rattle.run_places.specs.Given.FinishesMachines.{machine_of}
use Rattle.run_executor.specs.declared.executor.Executor.{Executor}
use Rattle.run_places.specs.Given.ScenesDeclared.callers.TheConstants.{SLOTS}
use Rattle.run_executor.specs.declared.worker.Work.{Work}
use Rattle.run_executor.specs.Executing.IsThere.{ChangesAt, HasRow, IsThere, call_in, ending_in, in_slot, making_in, place_of, work_of, worker_at, worker_of}
use Rattle.run_places.specs.Given.ScenesScene.{Scene, slot_of}
use Rattle.seize_words.proofs.General.{none_mapped as none_of}

-- its number
abbrev pub caller_in : {K V S : Type 0} → Executor K V S → ℕ → ℕ
caller_in e slot = length e.workers.items * SLOTS + slot

module _ {K V S : Type 0} (e : Executor K V S) (slot : ℕ) (fits : slot < SLOTS) where
  pub fresh_place : place_of (caller_in e slot) ≡ length e.workers.items
  fresh_place = omega (arith, fits)

  pub slot_is : slot_of (caller_in e slot) ≡ slot
  slot_is = omega (arith, fits)

  -- nobody was at its place
  pub fresh_before : worker_at e (place_of (caller_in e slot)) ≡ None
  fresh_before = ap (λ (x : ℕ). worker_at e x) fresh_place ∙ get_or_past e.workers.items (length e.workers.items) None (omega arith)

  pub no_work : work_of e (caller_in e slot) ≡ None
  no_work = ap (in_slot (slot_of (caller_in e slot))) fresh_before

  -- it comes there with this
  module _ (it : Work K V) (e2 : Executor K V S) (items : e2.workers.items ≡ e.workers.items ++ Some (record { slot = slot; work = it }) ∷ []) (hasher : e2.hasher ≡ e.hasher)
      (batch_size : e2.batch_size ≡ e.batch_size) (roots : e2.roots ≡ e.roots) (maps : e2.maps.items ≡ e.maps.items) (slots : e2.slots.items ≡ e.slots.items) where
    count : length e2.workers.items ≡ length e.workers.items + 1
    count = ap length items ∙ length-append e.workers.items _

    at_end : (p : ℕ) → p ≢ place_of (caller_in e slot) → p ≢ length e.workers.items
    at_end p ne is = ne (is ∙ sym fresh_place)

    as_before : (p : ℕ) → p ≢ place_of (caller_in e slot) → (p < length e.workers.items) ⊎ (length e.workers.items ≤ p)
        → slice_index_or (e.workers.items ++ Some (record { slot = slot; work = it }) ∷ []) p None ≡ worker_at e p
    as_before p ne (inl l) = get_or_append_left e.workers.items _ None p l
    as_before p ne (inr past) =
        get_or_past (e.workers.items ++ Some (record { slot = slot; work = it }) ∷ []) p None (omega (arith, past, at_end p ne, count, ap length items))
        ∙ sym (get_or_past e.workers.items p None past)

    pub fresh_changes : ChangesAt (place_of (caller_in e slot)) (worker_of (slot_of (caller_in e slot)) (Some it)) e e2
    fresh_changes = record {
      here = ap (λ xs. slice_index_or xs (place_of (caller_in e slot)) None) items
          ∙ get_or_push e.workers.items (Some (record { slot = slot; work = it })) None (place_of (caller_in e slot)) (sym fresh_place)
          ∙ ap (λ (x : ℕ). Some (record { slot = x; work = it })) (sym slot_is);
      elsewhere = λ p ne. ap (λ xs. slice_index_or xs p None) items ∙ as_before p ne (cases_lt p (length e.workers.items));
      there = subst (λ (x : ℕ). place_of (caller_in e slot) < x) (sym count) (omega (arith, fresh_place));
      grows = omega (arith, count);
      hasher = hasher;
      batch_size = batch_size;
      roots = roots;
      maps = maps;
      slots = slots;
    }

module _ {K V S : Type 0} (same : K → K → Bool) (hash : K → ℕ) (e : Executor K V S) (s : Scene K V) (at : IsThere same hash e s) (slot : ℕ) (fits : slot < SLOTS) where
  pub no_calls_yet : (n : ℕ) → s.calls n (caller_in e slot) ≡ None
  no_calls_yet n = none_of machine_of (s.calls n (caller_in e slot)) (at.calls n (caller_in e slot) ∙ ap (λ (x : Option (Work K V)). call_in x n) (no_work e slot fits))

  pub no_making_yet : s.makers (caller_in e slot) ≡ None
  no_making_yet = none_of _ (s.makers (caller_in e slot)) (at.makers (caller_in e slot) ∙ ap making_in (no_work e slot fits))

  pub no_ending_yet : s.enders (caller_in e slot) ≡ None
  no_ending_yet = none_of _ (s.enders (caller_in e slot)) (at.enders (caller_in e slot) ∙ ap ending_in (no_work e slot fits))

  pub resting : s.world.row (caller_in e slot) ≡ Rests
  resting = subst (λ (x : Option (Work K V)). HasRow x (s.world.row (caller_in e slot))) (no_work e slot fits) (at.rows (caller_in e slot))
