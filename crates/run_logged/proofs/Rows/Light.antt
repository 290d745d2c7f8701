-- Rows within calls work on no slot, or share the one that they work on: so none works on a vacant one.
use Rattle.std.specs.Prelude.{◌==◌, option_map, Option, Some, None, if◌then◌else◌}
use Rattle.std.proofs.Common.{◌≡◌, ℕ, ◌+◌, Bool, true, ◌⊎◌, inl, inr, refl, sym, ap, subst, ◌∙◌, arith}
use Rattle.std.proofs.lemmas.Bool.{eq-eqb}
use Rattle.seize.specs.World.{Row, Rests, Vacant}
use Rattle.run_effects.proofs.Given.SeizeRuleRows.Known.{works_on}
use Rattle.run_effects.proofs.Given.SeizeRuleRows.Teams.{is_shared, shares}
use Rattle.papaya_raw.specs.declared.machines.call.Calling.{Calling}
use Rattle.papaya_raw.specs.declared.machines.call.Calling.TheVariants as calling
use Rattle.papaya_raw.specs.declared.machines.machine.Machine.{Machine}
use Rattle.run_effects.specs.Given.ResizeDeclared.copier.Copying.{Copying}
use Rattle.run_effects.specs.Given.ResizeDeclared.copier.Copying.TheVariants as copies
use Rattle.run_effects.specs.Given.ResizeDeclared.dispose.Disposing.{Disposing}
use Rattle.run_effects.specs.Given.ResizeDeclared.dispose.Disposing.TheVariants as disposes
use Rattle.papaya_raw.specs.Given.ReservesDeclared.reserve.Reserving.{Reserving}
use Rattle.papaya_raw.specs.Given.ReservesDeclared.reserve.Reserving.TheVariants as reserving
use Rattle.papaya_raw.specs.Given.ReservesDeclared.sweep.Sweeping.{Sweeping}
use Rattle.papaya_raw.specs.Given.ReservesDeclared.sweep.Sweeping.TheVariants as sweeping
use Rattle.run_shows.specs.Given.CallersOverAll.{row_of_sweep}
use Rattle.run_shows.specs.Given.CallersRooms.{row_of_room}
use Rattle.run_shows.specs.Given.CallersRows.{row_of, row_of_copier, row_of_disposal}
use Rattle.run_shows.specs.Given.CallersTogether.{UnderWay, OnKey, ForRoom, Counting, OverAll}
use Rattle.run_shows.specs.Given.FinishesMachines.{machine_of}
use Rattle.run_shows.specs.Given.FinishesMaps.{Standing}
use Rattle.run_executor.specs.declared.executor.Executor.{Executor}
use Rattle.run_executor.specs.declared.worker.Work.{Work}
use Rattle.run_executor.specs.declared.worker.Work.TheVariants as work
use Rattle.run_executor.proofs.Executing.Uses.{reached}
use Rattle.run_executor.specs.Executing.IsThere.{IsThere, call_in, work_of}
use Rattle.run_shows.specs.Scenes.Scene.{Scene, slot_of}

-- a row works on no slot, or shares the one that it works on
abbrev IsLight : Row → Type 0
IsLight row = (works_on row ≡ 0) ⊎ (shares row ≡ true)

-- so do those within calls

disposal_light : (slot : ℕ) (d : Disposing) → IsLight (row_of_disposal slot d)
disposal_light slot (disposes.Settles settle) = inr refl
disposal_light slot (disposes.Defers defer) = inr refl
disposal_light slot _ = inl refl

copier_light : (p : Copying) → IsLight (row_of_copier p)
copier_light (copies.Retires settle rest) = inr refl
copier_light _ = inl refl

call_light : (slot : ℕ) (p : Calling) → IsLight (row_of slot p)
call_light slot (calling.Disposes dispose answer) = disposal_light slot dispose.stands
call_light slot (calling.Helps copier goal) = copier_light copier.stands
call_light slot (calling.Copies copier) = copier_light copier.stands
call_light slot _ = inl refl

room_light : (p : Reserving) → IsLight (row_of_room p)
room_light (reserving.Copies copier) = copier_light copier.stands
room_light _ = inl refl

sweep_light : (slot : ℕ) (p : Sweeping) → IsLight (row_of_sweep slot p)
sweep_light slot (sweeping.Copies copier) = copier_light copier.stands
sweep_light slot (sweeping.Disposes dispose) = disposal_light slot dispose.stands
sweep_light slot _ = inl refl

rests_light : (row : Row) → row ≡ Rests → IsLight row
rests_light row is = subst IsLight (sym is) (inl refl)

module _ {K V S : Type 0} (same : K → K → Bool) (hash : K → ℕ) (e : Executor K V S) (s : Scene K V) (at : IsThere same hash e s) where
  on_map : (map j : ℕ) (standing : Standing K) → s.maps map ≡ Some standing → (u : UnderWay K V K) → s.calls map j ≡ Some u → IsLight (s.world.row j)
  on_map map j standing here (OnKey u) is =
      elim ((at.held.together.makings.standing.each map standing here).stand j (OnKey u) is) as (λ _. IsLight (s.world.row j)) [
        | inl d ↦ rests_light (s.world.row j) d.0
        | inr d ↦ subst IsLight (sym d.0) (call_light (slot_of j) u.call.stands)
      ]
  on_map map j standing here (ForRoom r) is =
      elim ((at.held.together.makings.standing.each map standing here).stand j (ForRoom r) is) as (λ _. IsLight (s.world.row j)) [
        | inl d ↦ rests_light (s.world.row j) d.0
        | inr d ↦ subst IsLight (sym d.0) (room_light r.reserve.stands)
      ]
  on_map map j standing here (Counting sum) is = rests_light (s.world.row j) ((at.held.together.makings.standing.each map standing here).stand j (Counting sum) is).0
  on_map map j standing here (OverAll o) is =
      elim ((at.held.together.makings.standing.each map standing here).stand j (OverAll o) is) as (λ _. IsLight (s.world.row j)) [
        | inl d ↦ rests_light (s.world.row j) d.0
        | inr d ↦ subst IsLight (sym d.0) (sweep_light (slot_of j) o.sweep.stands)
      ]

  pub within_call : (map j : ℕ) (u : UnderWay K V K) → s.calls map j ≡ Some u → IsLight (s.world.row j)
  within_call map j u is = by (s.maps map) refl
    where
      by : (o : Option (Standing K)) → s.maps map ≡ o → IsLight (s.world.row j)
      by None gone = absurd (let none = at.held.together.makings.standing.only map j gone in cc (none, is))
      by (Some standing) here = on_map map j standing here u is

  -- who calls has a call in the scene
  pub has_call : (map j : ℕ) (machine : Machine K V K) → work_of e j ≡ Some (work.Call map machine) → (u : UnderWay K V K) × (s.calls map j ≡ Some u)
  has_call map j machine is = by (s.calls map j) refl
    where
      by : (o : Option (UnderWay K V K)) → s.calls map j ≡ o → (u : UnderWay K V K) × (s.calls map j ≡ Some u)
      by (Some u) there = (u, there)
      by None gone = absurd (
          let a : option_map machine_of (s.calls map j) ≡ (if map == map then Some machine else None) = at.calls map j ∙ ap (λ (o : Option (Work K V)). call_in o map) is in
          let b = ap (λ (q : Bool). if q then Some machine else None) (eq-eqb map map refl) in
          let c = ap (option_map machine_of) gone in
          cc (a, b, c)
          )

  pub light : (j t : ℕ) → works_on (s.world.row j) ≡ t + 1 → s.world.uses t ≡ Vacant → IsLight (s.world.row j) → ⊥
  light j t at_it vacant (inl none) = omega (arith, none, at_it)
  light j t at_it vacant (inr shared) =
      let kind = (reached same hash e s at).good.used.kinds j t at_it in
      let free = ap is_shared vacant in
      cc (kind, free, shared)
