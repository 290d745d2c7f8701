-- What the executor has under way, and how it uses slots, by its scene.
use Rattle.std.specs.Prelude.{◌≡◌, ◌≢◌, ◌<◌, ◌≤◌, ◌⊎◌, ◌==◌, ℕ, Bool, length, Option, Some, None, option_map, if◌then◌else◌}
use Rattle.std.proofs.Common.{refl, sym, ap, subst, ◌∙◌, inl, inr, arith}
use Rattle.std.proofs.lemmas.Bool.{cases_lt, eq-eqb}
use Rattle.std.proofs.lemmas.List.{get_or_past}
use Rattle.seize.specs.World.{Use, Rests}
use Rattle.run_shows.specs.Given.FinishesMachines.{machine_of}
use Rattle.run_executor.specs.declared.executor.Executor.{Executor}
use Rattle.run_shows.specs.declared.row.SlotUse.{SlotUse}
use Rattle.run_shows.specs.declared.row.SlotUse.TheVariants as used
use Rattle.run_shows.specs.declared.callers.TheConstants.{SLOTS}
use Rattle.run_executor.specs.declared.worker.Work.{Work}
use Rattle.run_executor.specs.declared.worker.Work.TheVariants as work
use Rattle.run_executor.specs.Executing.IsThere.{HasRow, IsThere, IsUsedAs, call_in, ending_in, making_in, use_at, work_of}
use Rattle.run_shows.specs.Scenes.Scene.{Scene}
use Rattle.run_shows.proofs.Scenes.Rows.{never_rests}
use Rattle.run_shows.proofs.Given.General.{none_mapped as none_of}

none_mapped : {A B : Type 0} (f : A → B) (o : Option A) → o ≡ None → (b : B) → option_map f o ≡ Some b → ⊥
none_mapped f None e b h = cc h
none_mapped f (Some a) e b h = cc e

-- a slot is used in one way
pub used_once : (v w : SlotUse) (u : Use) → IsUsedAs v u → IsUsedAs w u → v ≡ w
used_once used.Vacant used.Vacant u a b = refl
used_once used.Vacant used.Outside u a b = absurd (let c = b.1 in cc (a, c))
used_once used.Vacant used.Inside u a b = absurd (let c = b.1 in cc (a, c))
used_once used.Vacant used.Changing u a b = absurd (cc (a, b))
used_once used.Outside used.Vacant u a b = absurd (let c = a.1 in cc (b, c))
used_once used.Outside used.Outside u a b = refl
used_once used.Outside used.Inside u a b = absurd (let c = a.1 in let d = b.1 in cc (c, d))
used_once used.Outside used.Changing u a b = absurd (let c = a.1 in cc (b, c))
used_once used.Inside used.Vacant u a b = absurd (let c = a.1 in cc (b, c))
used_once used.Inside used.Outside u a b = absurd (let c = a.1 in let d = b.1 in cc (c, d))
used_once used.Inside used.Inside u a b = refl
used_once used.Inside used.Changing u a b = absurd (let c = a.1 in cc (b, c))
used_once used.Changing used.Vacant u a b = absurd (cc (a, b))
used_once used.Changing used.Outside u a b = absurd (let c = b.1 in cc (a, c))
used_once used.Changing used.Inside u a b = absurd (let c = b.1 in cc (a, c))
used_once used.Changing used.Changing u a b = refl

module _ {K V S : Type 0} (same : K → K → Bool) (hash : K → ℕ) (e : Executor K V S) (s : Scene K V) (at : IsThere same hash e s) where
  -- a caller of which the scene has nothing has nothing under way
  pub no_work_at : (i : ℕ) → ((n : ℕ) → s.calls n i ≡ None) → s.makers i ≡ None → s.enders i ≡ None → s.world.row i ≡ Rests → work_of e i ≡ None
  no_work_at i calls makers enders rests = by (work_of e i) refl
    where
      by : (o : Option (Work K V)) → work_of e i ≡ o → work_of e i ≡ None
      by None is = is
      by (Some (work.Call map machine)) is = absurd (
          let h : option_map machine_of (s.calls map i) ≡ (if map == map then Some machine else None) = at.calls map i ∙ ap (λ (o : Option (Work K V)). call_in o map) is in
          let k = ap (λ (b : Bool). if b then Some machine else None) (eq-eqb map map refl) in
          let l = ap (option_map machine_of) (calls map) in
          cc (h, k, l)
          )
      by (Some (work.Making map opening)) is = absurd (
          none_mapped _ (s.makers i) makers _ (at.makers i ∙ ap making_in is)
          )
      by (Some (work.Ending ending)) is = absurd (
          let h = at.enders i ∙ ap ending_in is in
          let l = ap (option_map (λ f. f.machine)) enders in
          cc (h, l)
          )
      by (Some (work.OnSlot it)) is = absurd (
          never_rests it (sym (subst (λ (o : Option (Work K V)). HasRow o (s.world.row i)) is (at.rows i)) ∙ rests)
          )

  -- one that has nothing under way has none in the scene
  module _ (i : ℕ) (none : work_of e i ≡ None) where
    pub no_making_of : s.makers i ≡ None
    no_making_of = none_of _ (s.makers i) (at.makers i ∙ ap making_in none)

    pub no_ending_of : s.enders i ≡ None
    no_ending_of = none_of _ (s.enders i) (at.enders i ∙ ap ending_in none)

    pub row_rests : s.world.row i ≡ Rests
    row_rests = subst (λ (o : Option (Work K V)). HasRow o (s.world.row i)) none (at.rows i)

  -- a slot that is used is one of the slots
  pub slot_fits : (slot : ℕ) → use_at e slot ≢ used.Vacant → slot < SLOTS
  slot_fits slot ne = by (cases_lt slot (length e.slots.items))
    where
      by : (slot < length e.slots.items) ⊎ (length e.slots.items ≤ slot) → slot < SLOTS
      by (inl l) = let n = at.slots in omega (arith, l, n)
      by (inr past) = absurd (ne (get_or_past e.slots.items slot used.Vacant past))

  -- at another scene in which nothing of this has changed
  module _ (e2 : Executor K V S) (s2 : Scene K V) (at2 : IsThere same hash e2 s2) where
    pub used_still : (slot : ℕ) → s2.world.uses slot ≡ s.world.uses slot → use_at e2 slot ≡ use_at e slot
    used_still slot is = used_once (use_at e2 slot) (use_at e slot) (s2.world.uses slot) (at2.uses slot) (subst (IsUsedAs (use_at e slot)) (sym is) (at.uses slot))
