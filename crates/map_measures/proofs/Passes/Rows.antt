-- A row of the collector within a sweep leaves the sweep's number as it is, and its end lowers it.
use Rattle.std.specs.Prelude.{nat_lt, ◌&&◌, if◌then◌else◌, ◌++◌}
use Rattle.std.proofs.Common.{◌≡◌, ℕ, ◌+◌, ◌%◌, ◌^◌, Bool, true, false, [], ◌∷◌, ◌⊎◌, inl, inr, refl, ap, sym, subst, ◌∙◌}
use Rattle.seize_words.specs.OneMemory.Mem.{Mem, Took, value_at}
use Rattle.seize_words.specs.OneMemory.Plan.{Steps}
use Rattle.seize_acts.proofs.Given.SeizeRuleRows.Leaving.{steps_back}
use Rattle.seize.specs.World.{World}
use Rattle.seize.specs.declared.rows.settle.Settled.{Settled}
use Rattle.seize.specs.declared.rows.settle.Settled.TheVariants as settled
use Rattle.map_tables.specs.declared.node.Node.{Node}
use Rattle.map_tables.specs.declared.setting.Setting.{Setting}
use Rattle.map_tables.specs.declared.table.Table.{Table}
use Rattle.map_machines.specs.Copier.{copier_plan}
use Rattle.map_machines.specs.Dispose.{dispose_plan}
use Rattle.map_machines.specs.declared.copier.Copier.{Copier}
use Rattle.map_machines.specs.declared.dispose.Dispose.{Dispose}
use Rattle.map_machines.specs.declared.yielding.Yielding.{Yielding}
use Rattle.map_machines.specs.declared.yielding.Yielding.TheVariants as outcome
use Rattle.map_sweeps.specs.Sweeps.Sweep.{copied, disposed, plan_at}
use Rattle.map_sweeps.specs.Sweeps.SweepPoints.{removes, further}
use Rattle.map_sweeps.specs.declared.sweep.Sweep.{Sweep}
use Rattle.map_sweeps.specs.declared.sweep.Sweeping.{Sweeping}
use Rattle.map_sweeps.specs.declared.sweep.Sweeping.TheVariants as at
use Rattle.map_sweeps.specs.declared.sweep.Swept.{Swept}
use Rattle.many_calls.specs.Given.RuleChart.{Chart}
use Rattle.many_calls.specs.Given.RuleWords.{Blocks}
use Rattle.many_calls.specs.Given.RuleInWorld.{IsMapIn}
use Rattle.many_calls.specs.Given.PointsMeasures.{IsBelow}
use Rattle.many_calls.specs.Given.PointsMeasuresDisposes.{number_of_dispose}
use Rattle.many_calls.specs.Given.PointsTold.{IsRowOf}
use Rattle.map_measures.specs.Falls.Room.{tables_to_come}
use Rattle.map_measures.proofs.Falls.Within.DisposalRows.{StaysInRow, stays_in_row, none_in_row}
use Rattle.many_calls.specs.Given.LateFactsSweeps.{CopiesPairs}
use Rattle.many_calls.specs.Given.LateRowsSweeps.{KnowsInRow}
use Rattle.many_calls.specs.Given.LateToldSweeps.{IsRowOfSweep}
use Rattle.map_measures.specs.Passes.FallsSweeps.{AdvancesFrom, SweepRowsFall}
use Rattle.map_measures.specs.Passes.Sweeps.{at_place, numbers_at, number_of_sweep}
use Rattle.map_measures.proofs.Passes.Over.{further_on}
use Rattle.map_measures.proofs.Passes.Within.{none_done, row_copied}

-- a sweep whose place is behind it is in no row
none_further : (p : Sweep) → IsRowOfSweep (further p).stands → ⊥
none_further p = by (nat_lt ((p.place + 1) % 2 ^ 64) p.table.len) (removes p.purpose && p.met)
  where
    by : (more again : Bool) → IsRowOfSweep (if more then at.Words else (if again then at.Follows else at.Over)) → ⊥
    by true again row = row
    by false true row = row
    by false false row = row

module _ {K V : Type 0} (same : K → K → Bool) (hash : K → ℕ) (setting : Setting) (w : World (Node K V)) (caller : ℕ) (c : Chart K) (blocks : Blocks) (began : ℕ)
    (p : Sweep)
    (map : IsMapIn same hash setting w c blocks) (m2 : Mem (Node K V)) where
  -- it is in the row still, and its number is what it was, or the row is over, and it is lower
  abbrev Goal : Sweeping → Sweep × Swept (Node K V) → Type 0
  Goal stands end =
      AdvancesFrom stands end.1
      → ((IsRowOfSweep end.0.stands) × (number_of_sweep hash c blocks end.0 ≡ numbers_at hash c blocks p stands))
      ⊎ ((IsRowOfSweep end.0.stands → ⊥) × IsBelow (number_of_sweep hash c blocks end.0) (numbers_at hash c blocks p stands))

  -- the pair that it has removed is disposed of
  disposed_on : (dispose : Dispose) → IsRowOf dispose.stands → KnowsInRow same hash w caller setting c blocks began p → (to : Dispose × Settled (Node K V))
      → StaysInRow w.memory m2 dispose to
      → Goal (at.Disposes dispose) (disposed p to)
  disposed_on dispose row rests (next, settled.Goes) stays goes =
      inl (
        stays tt,
        ap (λ xs. tables_to_come c.past 0 ∷ at_place hash c blocks p 0 xs) (none_in_row c blocks next (stays tt) ∙ sym (none_in_row c blocks dispose row)),
      )
  disposed_on dispose row rests (next, settled.Waits) stays goes = absurd goes
  disposed_on dispose row rests (next, settled.Gave value) stays goes =
      inl (
        stays tt,
        ap (λ xs. tables_to_come c.past 0 ∷ at_place hash c blocks p 0 xs) (none_in_row c blocks next (stays tt) ∙ sym (none_in_row c blocks dispose row)),
      )
  disposed_on dispose row rests (next, settled.Done) stays goes =
      inr (
        none_further p,
        further_on same hash setting w caller c blocks began map p rests.turn rests.place.0 rests.place.1 c blocks refl
            (0 ∷ (number_of_dispose c blocks dispose ++ (0 ∷ 0 ∷ 0 ∷ 0 ∷ 0 ∷ []))),
      )

  -- a table is retired
  copied_on : (copier : Copier) → IsRowOfSweep (at.Copies copier) → (to : Copier × Yielding (Node K V) Table)
      → Steps Took value_at w.memory (copier_plan hash copier) m2 to
      → Goal (at.Copies copier) (copied p to)
  copied_on copier row (next, outcome.Goes) s goes = row_copied hash w.memory m2 c blocks p.setting copier next row outcome.Goes tt s
  copied_on copier row (next, outcome.Waits) s goes = absurd goes
  copied_on copier row (next, outcome.Gave value) s goes = row_copied hash w.memory m2 c blocks p.setting copier next row (outcome.Gave value) tt s
  copied_on copier row (next, outcome.Done root) s goes = absurd (none_done hash w.memory m2 c blocks p.setting copier next row root s)
  copied_on copier row (next, outcome.Refused fault) s goes = absurd goes

  on_at : (stands : Sweeping) → IsRowOfSweep stands → ((CopiesPairs stands → ⊥) → KnowsInRow same hash w caller setting c blocks began p)
      → (end : Sweep × Swept (Node K V))
      → Steps Took value_at w.memory (plan_at hash p stands) m2 end → Goal stands end
  on_at (at.Disposes dispose) row rests end s =
      let b = steps_back (disposed p) w.memory m2 (dispose_plan dispose) end s in
      subst (λ (x : Sweep × Swept (Node K V)). Goal (at.Disposes dispose) x) (sym b.2)
      (disposed_on dispose row (rests (λ h. h)) b.0 (stays_in_row w.memory m2 dispose row b.0 b.1))
  on_at (at.Copies copier) row rests end s =
      let b = steps_back (copied p) w.memory m2 (copier_plan hash copier) end s in
      subst (λ (x : Sweep × Swept (Node K V)). Goal (at.Copies copier) x) (sym b.2) (copied_on copier row b.0 b.1)
  on_at _ row rests end s = absurd row

pub sweep_rows_fall : {K : Type 0} (V : Type 0) (same : K → K → Bool) (hash : K → ℕ) → SweepRowsFall V same hash
sweep_rows_fall V same hash setting w caller c blocks began p map row rests m2 end s goes =
    on_at same hash setting w caller c blocks began p map m2 p.stands row rests end s goes
