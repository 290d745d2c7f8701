-- Callers by their numbers, and who is at their places.
use Rattle.std.specs.Prelude.{zero, suc, ◌-◌, ◌++◌, ◌∷◌, [], ◌≡◌, ◌≢◌, ◌<◌, ◌≤◌, ◌⊎◌, ℕ, ◌==◌, Bool, true, false, List, length, Option, Some, None, option_map, slice_index_or, if◌then◌else◌}
use Rattle.std.proofs.Common.{refl, sym, ap, ◌∙◌, inl, inr, arith}
use Rattle.std.proofs.lemmas.Bool.{cases_lt, eq-eqb, ne_eqb}
use Rattle.std.proofs.lemmas.List.{get_or_past, get_or_append_left}
use Rattle.std.proofs.Math.Seq.{get_or-append_right}
use Rattle.run_places.specs.Given.ResizeDeclared.new_map.NewMap.{NewMap}
use Rattle.papaya_raw.specs.declared.machines.end_map.EndMap.{EndMap}
use Rattle.papaya_raw.specs.declared.machines.machine.Machine.{Machine}
use Rattle.run_executor.specs.declared.worker.Work.{Work}
use Rattle.run_executor.specs.declared.worker.Work.TheVariants as work
use Rattle.run_executor.specs.declared.worker.Worker.{Worker}
use Rattle.run_executor.specs.Executing.IsThere.{call_in, ending_in, in_slot, making_in, place_of, worker_of, worker_with}
use Rattle.run_places.specs.Given.ScenesScene.{slot_of}

-- a list has no more in it with a place for one more
nothing : {X : Type 0} (k : ℕ) → slice_index_or {A = Option X} (None ∷ []) k None ≡ None
nothing zero = refl
nothing (suc k) = refl

pub one_number : {X : Type 0} (xs : List (Option X)) (m : ℕ) → slice_index_or (xs ++ None ∷ []) m None ≡ slice_index_or xs m None
one_number xs m = by (cases_lt m (length xs))
  where
    by : (m < length xs) ⊎ (length xs ≤ m) → slice_index_or (xs ++ None ∷ []) m None ≡ slice_index_or xs m None
    by (inl l) = get_or_append_left xs _ None m l
    by (inr past) = get_or-append_right xs (None ∷ []) m None past ∙ nothing (m - length xs) ∙ sym (get_or_past xs m None past)

-- a number is told by place and slot
pub same_caller : (i j : ℕ) → place_of j ≡ place_of i → slot_of j ≡ slot_of i → j ≡ i
same_caller i j p s = omega (arith, p, s)

-- a list has something within alone
pub within : {X : Type 0} (xs : List (Option X)) (p : ℕ) (x : X) → slice_index_or xs p None ≡ Some x → p < length xs
within xs p x is = by (cases_lt p (length xs))
  where
    by : (p < length xs) ⊎ (length xs ≤ p) → p < length xs
    by (inl l) = l
    by (inr past) = absurd (cc (get_or_past xs p None past, is))

module _ {K V : Type 0} where
  -- in its own slot a caller has that under way, and in another one nothing
  pub own_worker : (slot : ℕ) (it : Option (Work K V)) → in_slot slot (worker_of slot it) ≡ it
  own_worker slot None = refl
  own_worker slot (Some it) = ap (λ (b : Bool). if b then Some it else None) (eq-eqb slot slot refl)

  pub no_worker : (slot other : ℕ) (it : Option (Work K V)) → other ≢ slot → in_slot other (worker_of slot it) ≡ None
  no_worker slot other None ne = refl
  no_worker slot other (Some it) ne = ap (λ (b : Bool). if b then Some it else None) (ne_eqb slot other (λ e. ne (sym e)))

  -- it is a call of that map, and of no other
  pub own_call : (m : ℕ) (x : Option (Machine K V K)) → call_in (option_map (λ machine. work.Call m machine) x) m ≡ x
  own_call m None = refl
  own_call m (Some machine) = ap (λ (b : Bool). if b then Some machine else None) (eq-eqb m m refl)

  pub no_call : (m n : ℕ) (x : Option (Machine K V K)) → n ≢ m → call_in (option_map (λ machine. work.Call m machine) x) n ≡ None
  no_call m n None ne = refl
  no_call m n (Some machine) ne = ap (λ (b : Bool). if b then Some machine else None) (ne_eqb m n (λ e. ne (sym e)))

  -- whose call on a map is this machine, is at its place with that
  in_map : (m map : ℕ) (machine x : Machine K V K) → (b : Bool) → (map == m) ≡ b → (if b then Some machine else None) ≡ Some x → (map ≡ m) × (machine ≡ x)
  in_map m map machine x true e is = (grind (arith, e), cc is)
  in_map m map machine x false e is = absurd (cc is)

  call_is : (slot m : ℕ) (x : Machine K V K) (worker : Worker K V) (b : Bool) → (worker.slot == slot) ≡ b → call_in (if b then Some worker.work else None) m ≡ Some x
      → (worker.slot ≡ slot) × (worker.work ≡ work.Call m x)
  call_is slot m x worker true e is = (grind (arith, e), of worker.work is)
    where
      of : (it : Work K V) → call_in (Some it) m ≡ Some x → it ≡ work.Call m x
      of (work.Call map machine) is = let both = in_map m map machine x (map == m) refl is in ap2 both.0 both.1
        where
          ap2 : map ≡ m → machine ≡ x → work.Call map machine ≡ work.Call m x
          ap2 e f = cc (e, f)
      of (work.Making map opening) is = absurd (cc is)
      of (work.Ending ending) is = absurd (cc is)
      of (work.OnSlot row) is = absurd (cc is)
  call_is slot m x worker false e is = absurd (cc is)

  pub call_found : (slot m : ℕ) (x : Machine K V K) (it : Option (Worker K V)) → call_in (in_slot slot it) m ≡ Some x → it ≡ worker_with slot m (Some x)
  call_found slot m x None is = absurd (cc is)
  call_found slot m x (Some worker) is = let both = call_is slot m x worker (worker.slot == slot) refl is in built worker both.0 both.1
    where
      built : (worker : Worker K V) → worker.slot ≡ slot → worker.work ≡ work.Call m x → Some worker ≡ worker_with slot m (Some x)
      built worker e f = ap (λ (x : ℕ). Some (record { slot = x; work = worker.work })) e ∙ ap (λ (x : Work K V). Some (record { slot = slot; work = x })) f

  -- whose work in its slot is this, is at its place with that
  pub found_in : (slot : ℕ) (it : Option (Worker K V)) (x : Work K V) → in_slot slot it ≡ Some x → it ≡ worker_of slot (Some x)
  found_in slot None x is = absurd (cc is)
  found_in slot (Some worker) x is = by (worker.slot == slot) refl is
    where
      by : (b : Bool) → (worker.slot == slot) ≡ b → (if b then Some worker.work else None) ≡ Some x → Some worker ≡ worker_of slot (Some x)
      by true e is =
          ap (λ (n : ℕ). Some (record { slot = n; work = worker.work })) (grind (arith, e))
          ∙ ap (λ (y : Work K V). Some (record { slot = slot; work = y })) (cc is)
      by false e is = absurd (cc is)

  same_making : (map map2 : ℕ) (opening opening2 : NewMap) → ◌≡◌ {A = ℕ × NewMap} (map, opening) (map2, opening2) → ◌≡◌ {A = Work K V} (work.Making map opening) (work.Making map2 opening2)
  same_making map map2 opening opening2 is = ap (λ x. work.Making x.0 x.1) is

  -- whose making of a map is this
  making_of : (map : ℕ) (opening : NewMap) (it : Option (Work K V)) → making_in it ≡ Some (map, opening) → it ≡ Some (work.Making map opening)
  making_of map opening None is = absurd (cc is)
  making_of map opening (Some (work.Call map2 machine)) is = absurd (cc is)
  making_of map opening (Some (work.Making map2 opening2)) is = ap Some (same_making map2 map opening2 opening (cc is))
  making_of map opening (Some (work.Ending ending)) is = absurd (cc is)
  making_of map opening (Some (work.OnSlot row)) is = absurd (cc is)

  pub making_found : (slot map : ℕ) (opening : NewMap) (it : Option (Worker K V)) → making_in (in_slot slot it) ≡ Some (map, opening) → it ≡ worker_of slot (Some (work.Making map opening))
  making_found slot map opening it is = found_in slot it (work.Making map opening) (making_of map opening (in_slot slot it) is)

  same_ending : (ending ending2 : EndMap) → ending ≡ ending2 → ◌≡◌ {A = Work K V} (work.Ending ending) (work.Ending ending2)
  same_ending ending ending2 is = ap work.Ending is

  -- and whose end of one
  ending_of : (ending : EndMap) (it : Option (Work K V)) → ending_in it ≡ Some ending → it ≡ Some (work.Ending ending)
  ending_of ending None is = absurd (cc is)
  ending_of ending (Some (work.Call map machine)) is = absurd (cc is)
  ending_of ending (Some (work.Making map opening)) is = absurd (cc is)
  ending_of ending (Some (work.Ending ending2)) is = ap Some (same_ending ending2 ending (cc is))
  ending_of ending (Some (work.OnSlot row)) is = absurd (cc is)

  pub ending_found : (slot : ℕ) (ending : EndMap) (it : Option (Worker K V)) → ending_in (in_slot slot it) ≡ Some ending → it ≡ worker_of slot (Some (work.Ending ending))
  ending_found slot ending it is = found_in slot it (work.Ending ending) (ending_of ending (in_slot slot it) is)
