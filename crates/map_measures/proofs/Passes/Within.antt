-- A copying within a sweep is one within a reservation: its copier knows as much, and the numbers are those.
use Rattle.std.proofs.Common.{◌≡◌, ℕ, List, Bool, ◌⊎◌, inl, inr, ap, sym, subst, ◌∙◌}
use Rattle.seize_words.specs.OneMemory.Mem.{Mem, Can, Took, value_at}
use Rattle.seize_words.specs.OneMemory.Plan.{Steps}
use Rattle.seize_words.proofs.OneMemory.Plans.{steps_as}
use Rattle.seize.specs.World.{World}
use Rattle.seize.specs.declared.rows.settle.Settle.{Settle}
use Rattle.seize.specs.declared.rows.settle.Settled.{Settled}
use Rattle.seize.specs.declared.rows.settle.Settled.TheVariants as settled
use Rattle.map_tables.specs.Chunks.{is_incremental}
use Rattle.map_tables.specs.declared.node.Node.{Node}
use Rattle.map_tables.specs.declared.setting.Setting.{Setting}
use Rattle.map_tables.specs.declared.table.Table.{Table}
use Rattle.map_machines.specs.Copier.{copier_plan}
use Rattle.map_machines.specs.CopierPromotes.{retired}
use Rattle.map_machines.specs.declared.copier.Copier.{Copier}
use Rattle.map_machines.specs.declared.yielding.Yielding.{Yielding}
use Rattle.map_machines.specs.declared.yielding.Yielding.TheVariants.{Goes, Waits, Gave, Done, Refused}
use Rattle.map_sweeps.specs.Reserves.Reserve.{copied}
use Rattle.map_sweeps.specs.declared.reserve.Reserve.{Reserve}
use Rattle.map_sweeps.specs.declared.reserve.Reserving.TheVariants as at
use Rattle.many_calls.specs.Given.RuleChart.{Chart}
use Rattle.many_calls.specs.Given.RuleWords.{Blocks}
use Rattle.many_calls.specs.Given.PointsMeasures.{IsBelow}
use Rattle.many_calls.specs.Given.PointsTold.{IsRowOfCopier}
use Rattle.map_measures.specs.Falls.FallsWithin.{GoesFurther}
use Rattle.map_measures.specs.Falls.Reserves.{numbers_at}
use Rattle.map_measures.proofs.Falls.Calls.LateFacts.{late_copying}
use Rattle.map_measures.proofs.Falls.Copiers.Rows.{in_row, retires_back}
use Rattle.map_measures.proofs.Falls.Reserves.Stands.{WholeStands, reserve_stands}
use Rattle.many_calls.specs.Given.LateFactsSweeps.{CopiesTable}
use Rattle.map_measures.proofs.Falls.Reserves.Rows.{reserve_rows_fall}

-- a reservation with this copier
abbrev pub reserve_with : Setting → Copier → Reserve
reserve_with setting copier = record { setting = setting; additional = 0; stands = at.Copies copier }

-- what is needed of its copier
module _ {K V : Type 0} (same : K → K → Bool) (hash : K → ℕ) (w : World (Node K V)) (caller : ℕ) (setting : Setting) (c : Chart K) (blocks : Blocks) (began : ℕ)
    (own : Setting) (own_is : own ≡ setting)
    (copier : Copier) where
  pub copier_stands : CopiesTable same hash w caller setting c blocks began copier → WholeStands setting w.memory c blocks (is_incremental own.mode) copier
  copier_stands (inl whole) =
      reserve_stands same hash w caller setting c blocks (reserve_with own copier)
      (record { setting_is = own_is; idle = λ rests. absurd (rests tt); point = whole })
  copier_stands (inr (blocking, late)) =
      subst (λ (b : Bool). WholeStands setting w.memory c blocks b copier) (sym (ap (λ (x : Setting). is_incremental x.mode) own_is ∙ blocking)) (
        ap (λ (x : Setting). is_incremental x.mode) late.setting_is
            ∙ blocking,
        late_copying same hash w caller setting c blocks began copier copier.stands late.point,
      )

-- a step of the row within it that goes on
module _ {K V : Type 0} (hash : K → ℕ) (m m2 : Mem (Node K V)) (c : Chart K) (blocks : Blocks) (own : Setting) (copier next : Copier) where
  abbrev numbers : Copier → List ℕ
  numbers x = numbers_at (is_incremental own.mode) c blocks (at.Copies x)

  -- it does not end with a row
  pub none_done : IsRowOfCopier copier.stands → (root : Table) → Steps Took value_at m (copier_plan hash copier) m2 (next, Done root) → ⊥
  none_done row root s =
      let r = in_row copier row in
      let inner = retires_back hash m m2 copier r.0 r.1 r.2 (next, Done root) s in by r.1 inner.0 inner.1
    where
      by : (rest : ℕ) (to : Settle × Settled (Node K V)) → ◌≡◌ {A = Copier × Yielding (Node K V) Table} (next, Done root) (retired copier rest to) → ⊥
      by rest (settle, settled.Goes) e = let told = ap (λ (x : Copier × Yielding (Node K V) Table). x.1) e in cc told
      by rest (settle, settled.Waits) e = let told = ap (λ (x : Copier × Yielding (Node K V) Table). x.1) e in cc told
      by rest (settle, settled.Gave value) e = let told = ap (λ (x : Copier × Yielding (Node K V) Table). x.1) e in cc told
      by rest (settle, settled.Done) e = let told = ap (λ (x : Copier × Yielding (Node K V) Table). x.1) e in cc told

  abbrev RowOn : Type 0
  RowOn = (IsRowOfCopier next.stands × (numbers next ≡ numbers copier)) ⊎ ((IsRowOfCopier next.stands → ⊥) × IsBelow (numbers next) (numbers copier))

  pub row_copied : IsRowOfCopier copier.stands → (told : Yielding (Node K V) Table) → GoesFurther told → Steps Took value_at m (copier_plan hash copier) m2 (next, told) → RowOn
  row_copied row Goes goes s =
      reserve_rows_fall hash (reserve_with own copier) row m m2 (copied (reserve_with own copier) (next, Goes))
      (steps_as (copied (reserve_with own copier)) Can Took value_at m m2 (copier_plan hash copier) (next, Goes) s) tt c blocks
  row_copied row (Gave value) goes s =
      reserve_rows_fall hash (reserve_with own copier) row m m2 (copied (reserve_with own copier) (next, Gave value))
      (steps_as (copied (reserve_with own copier)) Can Took value_at m m2 (copier_plan hash copier) (next, Gave value) s) tt c blocks
  row_copied row Waits goes s = absurd goes
  row_copied row (Done root) goes s = absurd goes
  row_copied row (Refused fault) goes s = absurd goes
