-- The call of a caller that was taken out of its place, and the executor without it.
use Rattle.std.specs.Prelude.{◌≡◌, ℕ, Bool, Option, Some, None, length, slice_index_or, slice_set}
use Rattle.std.proofs.Common.{sym, ap, ◌∙◌, arith}
use Rattle.std.proofs.lemmas.List.{get_or-set_other, length-set}
use Rattle.papaya_raw.specs.declared.machines.machine.Machine.{Machine}
use Rattle.run_places.specs.Given.CallersTogether.{UnderWay}
use Rattle.run_places.specs.Given.FinishesMachines.{machine_of}
use Rattle.run_executor.specs.declared.executor.Executor.{Executor}
use Rattle.run_executor.specs.declared.worker.Work.TheVariants as work
use Rattle.run_executor.specs.declared.worker.Worker.{Worker}
use Rattle.run_executor.proofs.Executing.Changed.{worker_is}
use Rattle.run_executor.specs.Executing.IsThere.{ChangesAt, IsThere, place_of, worker_at, worker_with}
use Rattle.run_places.specs.Given.ScenesScene.{HasCall, Scene, slot_of}

module _ {K V : Type 0} where
  -- a call at a place is one call
  same_call : (map map2 : ℕ) (machine machine2 : Machine K V K) → work.Call map machine ≡ work.Call map2 machine2 → (map ≡ map2) × (machine ≡ machine2)
  same_call map map2 machine machine2 is = (cc is, cc is)

  same_parts : (worker worker2 : Worker K V) → Some worker ≡ Some worker2 → worker ≡ worker2
  same_parts worker worker2 is = cc is

  pub same_worker : (slot map slot2 map2 : ℕ) (machine machine2 : Machine K V K) → worker_with slot map (Some machine) ≡ worker_with slot2 map2 (Some machine2)
      → (slot ≡ slot2) × (map ≡ map2) × (machine ≡ machine2)
  same_worker slot map slot2 map2 machine machine2 is =
      let both = same_parts _ _ is in
      let calls = same_call map map2 machine machine2 (ap (λ (x : Worker K V). x.work) both) in
      (ap (λ (x : Worker K V). x.slot) both, calls.0, calls.1)

module _ {K V S : Type 0} (same : K → K → Bool) (hash : K → ℕ) (e : Executor K V S) (s : Scene K V) (at : IsThere same hash e s) (i : ℕ) where
  -- a caller that has a call has it at its place
  pub has_place : HasCall s i → (slot map : ℕ) × (machine : Machine K V K) × (slice_index_or e.workers.items (place_of i) None ≡ worker_with slot map (Some machine))
  has_place (m, u, here) = (slot_of i, m, machine_of u, worker_is same hash e s at m i u here)

  -- and what was taken out there is that call
  pub taken_call : (m : ℕ) (u : UnderWay K V K) → s.calls m i ≡ Some u → (slot map : ℕ) (machine : Machine K V K) → worker_at e (place_of i) ≡ worker_with slot map (Some machine)
      → (slot ≡ slot_of i) × (map ≡ m) × (machine ≡ machine_of u)
  taken_call m u here slot map machine there = same_worker slot map (slot_of i) m machine (machine_of u) (sym there ∙ worker_is same hash e s at m i u here)

-- once it was, the executor is another one at that place alone
module _ {K V S : Type 0} (e e1 e2 : Executor K V S) (place : ℕ) (next : Option (Worker K V)) where
  pub through : e1.workers.items ≡ slice_set e.workers.items place None → e1.hasher ≡ e.hasher → e1.batch_size ≡ e.batch_size → e1.roots ≡ e.roots → e1.maps.items ≡ e.maps.items → e1.slots.items ≡ e.slots.items
      → ChangesAt place next e1 e2 → ChangesAt place next e e2
  through items hasher batch_size roots maps slots changes = record {
    here = changes.here;
    elsewhere = λ p ne. changes.elsewhere p ne ∙ ap (λ xs. slice_index_or xs p None) items ∙ get_or-set_other e.workers.items place p None None ne;
    there = changes.there;
    grows = omega (arith, changes.grows, ap length items, length-set e.workers.items place None);
    hasher = changes.hasher ∙ hasher;
    batch_size = changes.batch_size ∙ batch_size;
    roots = changes.roots ∙ roots;
    maps = changes.maps ∙ maps;
    slots = changes.slots ∙ slots;
  }
