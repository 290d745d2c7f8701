-- The step of a row that an executor has under way leads as one does on what the executor holds.
use Rattle.std.specs.Prelude.{◌≡◌, ℕ, Bool, Option, Some, None, option_map}
use Rattle.std.proofs.Common.{refl, sym, ap, subst, ◌∙◌}
use Rattle.seize.specs.World.{Row, Rests, Step}
use Rattle.papaya_raw.specs.Given.TablesDeclared.node.Node.{Node}
use Rattle.run_places.specs.Given.FinishesMachines.{machine_of}
use Rattle.run_places.specs.Given.ScenesHeld.{IsAt}
use Rattle.run_places.specs.Given.ScenesOnSlots.{RowLeads, row_then}
use Rattle.run_places.specs.Given.ScenesScene.{Scene, IsOnSlot, row_of}
use Rattle.run_places.specs.Given.ScenesDeclared.row.RowTold.{RowTold}
use Rattle.run_places.specs.Given.ScenesDeclared.row.RowTold.TheVariants as told
use Rattle.run_places.specs.Given.ScenesDeclared.row.SlotRow.{SlotRow}
use Rattle.run_places.proofs.Given.ScenesLeads.{happens}
use Rattle.run_places.proofs.Given.ScenesNoCall.{none_is}
use Rattle.run_places.proofs.Given.ScenesRows.{never_rests, one_row}
use Rattle.run_executor.specs.declared.executor.Executor.{Executor}
use Rattle.run_executor.specs.declared.worker.Work.{Work}
use Rattle.run_executor.specs.declared.worker.Work.TheVariants as work
use Rattle.run_executor.specs.Executing.IsThere.{HasRow, IsThere, call_in, held_by, work_of}
use Rattle.run_executor.specs.Executing.OnSlots.{RowStepsThere, row_on}
use Rattle.run_executor.proofs.Executing.Places.{own_call}

-- what a caller has under way after the step tells of its row in the world
pub then_row : {K V : Type 0} (after : SlotRow) (said : RowTold (Node K V)) (row : Row) → HasRow {K = K} (row_on after said) row → row ≡ row_then after said
then_row after told.Goes row has = has
then_row after told.Waits row has = has
then_row after (told.Gave value) row has = has
then_row after told.Done row has = has
then_row after (told.Registered slot) row has = has
then_row after (told.Refused fault) row has = has

module _ {K V S : Type 0} (same : K → K → Bool) (hash : K → ℕ) (e : Executor K V S) (s : Scene K V) (at : IsThere same hash e s) (i : ℕ) (row : SlotRow) (here : IsOnSlot s i row) where
  -- Whoever is on its slot has that row under way.
  pub has_row : work_of e i ≡ Some (work.OnSlot row)
  has_row = by (work_of e i) refl
    where
      rests : (it : Option (Work K V)) → work_of e i ≡ it → (HasRow it (s.world.row i) → s.world.row i ≡ Rests) → ⊥
      rests it is so = never_rests row (sym here.1 ∙ so (subst (λ (x : Option (Work K V)). HasRow x (s.world.row i)) is (at.rows i)))

      by : (it : Option (Work K V)) → work_of e i ≡ it → work_of e i ≡ Some (work.OnSlot row)
      by None is = absurd (rests None is (λ r. r))
      by (Some (work.Call m machine)) is =
          let none : call_in (work_of e i) m ≡ None = sym (at.calls m i) ∙ ap (option_map machine_of) (none_is (s.calls m i) (here.0 m)) in
          let some : call_in (work_of e i) m ≡ Some machine = ap (λ (x : Option (Work K V)). call_in x m) is ∙ own_call m (Some machine) in
          absurd (cc (none, some))
      by (Some (work.Making m opening)) is = absurd (rests (Some (work.Making m opening)) is (λ r. r))
      by (Some (work.Ending ending)) is = absurd (rests (Some (work.Ending ending)) is (λ r. r))
      by (Some (work.OnSlot other)) is =
          let there : s.world.row i ≡ row_of other = subst (λ (x : Option (Work K V)). HasRow x (s.world.row i)) is (at.rows i) in
          is ∙ ap (λ (r : SlotRow). Some (work.OnSlot r)) (one_row other row (sym there ∙ here.1))

module _ {K V S : Type 0} (same : K → K → Bool) (hash : K → ℕ) (s : Scene K V) (old new : Executor K V S) (at : IsThere same hash old s) (i : ℕ) (said : RowTold (Node K V)) where
  abbrev pub held_row : RowStepsThere same hash i said s old new → RowLeads same (λ m. hash) i said s (held_by old) (held_by new)
  held_row leads = λ row here.
      (let to = leads row (has_row same hash old s at i row here) in (
        to.1,
        to.2,
        happens same (IsThere same hash new) (IsAt same (λ m. hash) (held_by new)) (λ n there. there.held) i s (held_by old) (held_by new) (Step i) to.5,
        then_row to.1 said (to.5.0.row i) (subst (λ (x : Option (Work K V)). HasRow x (to.5.0.row i)) to.3 (to.5.4.rows i)),
      ))
