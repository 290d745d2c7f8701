-- An executor whose one place has changed is there again, where the scene has come to what that place says.
use Rattle.std.specs.Prelude.{◌≡◌, ◌≢◌, ◌<◌, ◌≤◌, ◌⊎◌, ℕ, Bool, length, Option, Some, None, option_map, slice_index_or}
use Rattle.std.proofs.Common.{sym, ap, subst, ◌∙◌, inl, inr, arith}
use Rattle.std.proofs.lemmas.Bool.{cases_eq}
use Rattle.seize.specs.World.{Use}
use Rattle.run_places.specs.Given.CallersRows.{IsRowOn, IsUsedAlike}
use Rattle.run_places.specs.Given.FinishesEndings.{EndingsTogether}
use Rattle.run_places.specs.Given.FinishesMachines.{machine_of}
use Rattle.run_places.specs.Given.FinishesMakings.{Beginning}
use Rattle.run_places.specs.Given.FinishesMaps.{Standing}
use Rattle.run_executor.specs.declared.executor.Executor.{Executor}
use Rattle.run_places.specs.Given.ScenesDeclared.row.SlotUse.{SlotUse}
use Rattle.run_places.specs.Given.ScenesDeclared.row.SlotUse.TheVariants as slot_use
use Rattle.run_places.specs.Given.ScenesDeclared.callers.TheConstants.{SLOTS}
use Rattle.run_executor.specs.declared.worker.Work.{Work}
use Rattle.run_executor.proofs.Executing.Places.{no_worker, own_worker, same_caller}
use Rattle.run_executor.specs.Executing.IsThere.{ChangesAt, HasRow, IsThere, IsUsedAs, call_in, ending_in, in_slot, making_in, place_of, use_at, work_of, worker_at, worker_of}
use Rattle.run_places.specs.Given.ScenesScene.{Scene, slot_of}

-- Who has this at a place, and something else there later, or nothing: others have what they had.
module _ {K V S : Type 0} (e e2 : Executor K V S) (i : ℕ) (had has : Option (Work K V)) (before : worker_at e (place_of i) ≡ worker_of (slot_of i) had)
    (changes : ChangesAt (place_of i) (worker_of (slot_of i) has) e e2) where
  pub work_own : work_of e i ≡ had
  work_own = ap (in_slot (slot_of i)) before ∙ own_worker (slot_of i) had

  pub work_next : work_of e2 i ≡ has
  work_next = ap (in_slot (slot_of i)) changes.here ∙ own_worker (slot_of i) has

  pub work_other : (j : ℕ) → j ≢ i → work_of e2 j ≡ work_of e j
  work_other j ne = by (cases_eq (place_of j) (place_of i))
    where
      by : (place_of j ≡ place_of i) ⊎ (place_of j ≢ place_of i) → work_of e2 j ≡ work_of e j
      by (inl p) =
          let apart : slot_of j ≢ slot_of i = λ q. ne (same_caller i j p q) in
          (ap (λ (x : ℕ). in_slot (slot_of j) (worker_at e2 x)) p ∙ ap (in_slot (slot_of j)) changes.here ∙ no_worker (slot_of i) (slot_of j) has apart)
          ∙ sym (ap (λ (x : ℕ). in_slot (slot_of j) (worker_at e x)) p ∙ ap (in_slot (slot_of j)) before ∙ no_worker (slot_of i) (slot_of j) had apart)
      by (inr other) = ap (in_slot (slot_of j)) (changes.elsewhere (place_of j) other)

-- a slot that is used alike is used so still
pub used_on : (v : SlotUse) (u u2 : Use) → IsUsedAs v u → IsUsedAlike u u2 → IsUsedAs v u2
used_on slot_use.Vacant u u2 is alike = subst (λ (x : Use). IsUsedAlike x u2) is alike
used_on slot_use.Outside u u2 is alike = subst (λ (x : Use). IsUsedAlike x u2) is.1 alike
used_on slot_use.Inside u u2 is alike = subst (λ (x : Use). IsUsedAlike x u2) is.1 alike
used_on slot_use.Changing u u2 is alike = subst (λ (x : Use). IsUsedAlike x u2) is alike

module _ {K V S : Type 0} (same : K → K → Bool) (hash : K → ℕ) (e : Executor K V S) (s : Scene K V) (at : IsThere same hash e s) (i : ℕ) (had has : Option (Work K V))
    (before : worker_at e (place_of i) ≡ worker_of (slot_of i) had) (mid e2 : Executor K V S) (changes : ChangesAt (place_of i) (worker_of (slot_of i) has) e mid)
    (workers : e2.workers.items ≡ mid.workers.items) where
  as_mid : (j : ℕ) → work_of e2 j ≡ work_of mid j
  as_mid j = ap (λ xs. in_slot (slot_of j) (slice_index_or xs (place_of j) None)) workers

  pub own : work_of e i ≡ had
  own = work_own e mid i had has before changes

  pub later : work_of e2 i ≡ has
  later = as_mid i ∙ work_next e mid i had has before changes

  pub other : (j : ℕ) → j ≢ i → work_of e2 j ≡ work_of e j
  other j ne = as_mid j ∙ work_other e mid i had has before changes j ne

  -- What is to be so of the scene: of the caller what it has under way then, and what others have under way is as it was.
  pub record ComesTo (s2 : Scene K V) : Type 0 where
    pub memory : s2.world.memory ≡ e2.memory.memory
    pub together : EndingsTogether V same same e.batch_size e.roots slot_of s2.world s2.maps s2.calls s2.makers s2.enders
    pub maps : (m : ℕ) → option_map (λ standing. standing.setting) (s2.maps m) ≡ slice_index_or e2.maps.items m None
    pub hashes : (m : ℕ) (standing : Standing K) → s2.maps m ≡ Some standing → standing.hash ≡ hash
    pub calls : (m : ℕ) → option_map machine_of (s2.calls m i) ≡ call_in has m
    pub calls_as : (m j : ℕ) → j ≢ i → s2.calls m j ≡ s.calls m j
    pub makers : option_map (λ b. (b.map, b.machine)) (s2.makers i) ≡ making_in has
    pub makers_as : (j : ℕ) → j ≢ i → s2.makers j ≡ s.makers j
    pub makes : (c : Beginning K) → s2.makers i ≡ Some c → (c.hash ≡ hash) × (c.map < length e2.maps.items)
    pub enders : option_map (λ f. f.machine) (s2.enders i) ≡ ending_in has
    pub enders_as : (j : ℕ) → j ≢ i → s2.enders j ≡ s.enders j
    pub row : HasRow has (s2.world.row i)
    pub on_slot : IsRowOn (slot_of i) (s2.world.row i)
    pub rows_as : (j : ℕ) → j ≢ i → s2.world.row j ≡ s.world.row j
    pub slots : length e2.slots.items ≡ SLOTS
    pub uses : (t : ℕ) → IsUsedAs (use_at e2 t) (s2.world.uses t)

  module _ (batch_size : e2.batch_size ≡ e.batch_size) (roots : e2.roots ≡ e.roots) (grows : length e.maps.items ≤ length e2.maps.items) (s2 : Scene K V) (to : ComesTo s2) where
    calls_on : (m j : ℕ) → (j ≡ i) ⊎ (j ≢ i) → option_map machine_of (s2.calls m j) ≡ call_in (work_of e2 j) m
    calls_on m j (inl ej) =
        ap (λ (x : ℕ). option_map machine_of (s2.calls m x)) ej ∙ to.calls m ∙ sym (ap (λ (x : ℕ). call_in (work_of e2 x) m) ej ∙ ap (λ (x : Option (Work K V)). call_in x m) later)
    calls_on m j (inr nj) = ap (option_map machine_of) (to.calls_as m j nj) ∙ at.calls m j ∙ ap (λ (x : Option (Work K V)). call_in x m) (sym (other j nj))

    makers_on : (j : ℕ) → (j ≡ i) ⊎ (j ≢ i) → option_map (λ b. (b.map, b.machine)) (s2.makers j) ≡ making_in (work_of e2 j)
    makers_on j (inl ej) =
        ap (λ (x : ℕ). option_map (λ b. (b.map, b.machine)) (s2.makers x)) ej ∙ to.makers ∙ sym (ap (λ (x : ℕ). making_in (work_of e2 x)) ej ∙ ap making_in later)
    makers_on j (inr nj) = ap (option_map (λ b. (b.map, b.machine))) (to.makers_as j nj) ∙ at.makers j ∙ ap making_in (sym (other j nj))

    enders_on : (j : ℕ) → (j ≡ i) ⊎ (j ≢ i) → option_map (λ f. f.machine) (s2.enders j) ≡ ending_in (work_of e2 j)
    enders_on j (inl ej) = ap (λ (x : ℕ). option_map (λ f. f.machine) (s2.enders x)) ej ∙ to.enders ∙ sym (ap (λ (x : ℕ). ending_in (work_of e2 x)) ej ∙ ap ending_in later)
    enders_on j (inr nj) = ap (option_map (λ f. f.machine)) (to.enders_as j nj) ∙ at.enders j ∙ ap ending_in (sym (other j nj))

    makes_on : (j : ℕ) (c : Beginning K) → s2.makers j ≡ Some c → (j ≡ i) ⊎ (j ≢ i) → (c.hash ≡ hash) × (c.map < length e2.maps.items)
    makes_on j c makes (inl ej) = to.makes c (sym (ap s2.makers ej) ∙ makes)
    makes_on j c makes (inr nj) = let was = sym (to.makers_as j nj) ∙ makes in (at.held.hashes_made j c was, omega (arith, at.numbers j c was, grows))

    rows_on : (j : ℕ) → (j ≡ i) ⊎ (j ≢ i) → HasRow (work_of e2 j) (s2.world.row j)
    rows_on j (inl ej) =
        subst (λ (x : ℕ). HasRow (work_of e2 x) (s2.world.row x)) (sym ej) (subst (λ (x : Option (Work K V)). HasRow x (s2.world.row i)) (sym later) to.row)
    rows_on j (inr nj) =
        subst (λ (x : Option (Work K V)). HasRow x (s2.world.row j)) (sym (other j nj)) (subst (HasRow (work_of e j)) (sym (to.rows_as j nj)) (at.rows j))

    on_slots_on : (j : ℕ) → (j ≡ i) ⊎ (j ≢ i) → IsRowOn (slot_of j) (s2.world.row j)
    on_slots_on j (inl ej) = subst (λ (x : ℕ). IsRowOn (slot_of x) (s2.world.row x)) (sym ej) to.on_slot
    on_slots_on j (inr nj) = subst (IsRowOn (slot_of j)) (sym (to.rows_as j nj)) (at.held.on_slots j)

    pub there_again : IsThere same hash e2 s2
    there_again = record {
      held = record {
        memory = to.memory;
        together = subst (λ (x : ℕ). EndingsTogether V same same x e2.roots slot_of s2.world s2.maps s2.calls s2.makers s2.enders) (sym batch_size)
            (subst (λ (x : ℕ). EndingsTogether V same same e.batch_size x slot_of s2.world s2.maps s2.calls s2.makers s2.enders) (sym roots) to.together);
        hashes = to.hashes;
        hashes_made = λ j c makes. (makes_on j c makes (cases_eq j i)).0;
        on_slots = λ j. on_slots_on j (cases_eq j i);
        small = omega (arith, at.held.small, batch_size);
      };
      maps = to.maps;
      calls = λ m j. calls_on m j (cases_eq j i);
      makers = λ j. makers_on j (cases_eq j i);
      enders = λ j. enders_on j (cases_eq j i);
      numbers = λ j c makes. (makes_on j c makes (cases_eq j i)).1;
      rows = λ j. rows_on j (cases_eq j i);
      slots = to.slots;
      uses = to.uses;
    }
