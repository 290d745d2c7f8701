-- A row of the collector within a reservation leaves the reservation's number as it is, and its end lowers it.
use Rattle.std.specs.Prelude.{◌==◌, if◌then◌else◌}
use Rattle.std.proofs.Common.{◌≡◌, ℕ, Bool, true, false, List, ◌⊎◌, inl, inr, refl, ap, sym, subst, ◌∙◌}
use Rattle.seize_words.specs.OneMemory.Mem.{Mem, Took, value_at}
use Rattle.seize_words.specs.OneMemory.Plan.{Steps}
use Rattle.seize_acts.proofs.Given.SeizeRuleRows.Leaving.{steps_back}
use Rattle.seize.specs.declared.rows.settle.Settle.{Settle}
use Rattle.seize.specs.declared.rows.settle.Settled.{Settled}
use Rattle.seize.specs.declared.rows.settle.Settled.TheVariants as settled
use Rattle.map_tables.specs.Chunks.{is_incremental}
use Rattle.map_tables.specs.declared.node.Node.{Node}
use Rattle.map_machines.specs.Copier.{copier_plan}
use Rattle.map_machines.specs.CopierPromotes.{retired, table_retired}
use Rattle.map_machines.specs.CopierStates as copying
use Rattle.map_machines.specs.declared.copier.Copier.{Copier}
use Rattle.map_machines.specs.declared.copier.Copying.TheVariants as copies
use Rattle.map_machines.specs.declared.yielding.Yielding.{Yielding}
use Rattle.map_sweeps.specs.Reserves.Reserve.{copied, plan_at}
use Rattle.map_sweeps.specs.declared.reserve.Reserve.{Reserve}
use Rattle.map_sweeps.specs.declared.reserve.Reserving.{Reserving}
use Rattle.map_sweeps.specs.declared.reserve.Reserving.TheVariants as at
use Rattle.many_calls.specs.Given.RuleChart.{Chart}
use Rattle.many_calls.specs.Given.RuleWords.{Blocks}
use Rattle.many_calls.specs.Given.PointsMeasures.{IsBelow}
use Rattle.many_calls.specs.Given.PointsTold.{IsRowOfCopier}
use Rattle.many_calls.specs.Given.LateToldReserves.{IsRowOfReserve}
use Rattle.map_measures.specs.Falls.Reserves.{numbers_at, number_of_reserve}
use Rattle.map_measures.specs.Falls.FallsReserves.{ReserveRowsFall}
use Rattle.map_measures.specs.Falls.FallsWithin.{GoesFurther}
use Rattle.map_measures.proofs.Falls.Copiers.Rows.{in_row, retires_back}
use Rattle.map_measures.proofs.Falls.Reserves.CopiesLower.{retired_lowers}

-- a copier that goes on with the next table, or is at its end, is in no row
none_over : (copier : Copier) (rest : ℕ) → IsRowOfCopier (table_retired copier rest).stands → ⊥
none_over copier rest = by (rest == 0)
  where
    by : (b : Bool) → IsRowOfCopier (if b then copying.standing copier copies.Over else copying.standing copier (copies.Succeeds rest)).stands → ⊥
    by true row = row
    by false row = row

module _ {K V : Type 0} (hash : K → ℕ) (p : Reserve) (m m2 : Mem (Node K V)) (c : Chart K) (blocks : Blocks) where
  abbrev numbers : Reserving → List ℕ
  numbers = numbers_at (is_incremental p.setting.mode) c blocks

  -- it is in the row still, and its number is what it was, or the row is over, and it is lower
  abbrev Goal : Reserving → Reserve × Yielding (Node K V) Unit → Type 0
  Goal spot end =
      GoesFurther end.1
      → ((IsRowOfReserve end.0.stands) × (number_of_reserve c blocks end.0 ≡ numbers spot)) ⊎ ((IsRowOfReserve end.0.stands → ⊥) × IsBelow (number_of_reserve c blocks end.0) (numbers spot))

  -- its copier retires a table: it does so still, or it goes on with the next one
  module _ (copier : Copier) (settle : Settle) (rest : ℕ) where
    abbrev retiring : Copier
    retiring = copying.standing copier (copies.Retires settle rest)

    copies_on : (inner : Settle × Settled (Node K V)) → Goal (at.Copies retiring) (copied p (retired retiring rest inner))
    copies_on (next, settled.Goes) goes = inl (tt, refl)
    copies_on (next, settled.Waits) goes = absurd goes
    copies_on (next, settled.Gave value) goes = inl (tt, refl)
    copies_on (next, settled.Done) goes = inr (none_over retiring rest, retired_lowers (is_incremental p.setting.mode) c blocks retiring settle settle rest refl)

  on_at : (spot : Reserving) → IsRowOfReserve spot → (end : Reserve × Yielding (Node K V) Unit) → Steps Took value_at m (plan_at hash p spot) m2 end → Goal spot end
  on_at (at.Copies copier) row end s =
      let b = steps_back (copied p) m m2 (copier_plan hash copier) end s in
      let r = in_row copier row in
      let inner = retires_back hash m m2 copier r.0 r.1 r.2 b.0 b.1 in
      subst (λ (x : Reserve × Yielding (Node K V) Unit). Goal (at.Copies copier) x) (sym (b.2 ∙ ap (copied p) inner.1))
      (subst (λ (x : Copier). Goal (at.Copies x) (copied p (retired x r.1 inner.0))) (sym r.2) (copies_on copier r.0 r.1 inner.0))
  on_at _ row end s = absurd row

pub reserve_rows_fall : {K V : Type 0} → ReserveRowsFall K V
reserve_rows_fall hash p row m m2 end s goes c blocks = on_at hash p m m2 c blocks p.stands row end s goes
