-- A step of a sweep that is alone, in incremental mode: it is refused for the length of a table only where the last table cannot be followed.
use Rattle.std.specs.Prelude.{◌≡◌, ℕ, suc, ◌^◌, ◌≤◌, Bool, true, cond}
use Rattle.std.proofs.Common.{refl, sym, subst}
use Rattle.seize_words.specs.OneMemory.Mem.{Mem, Can, Took, value_at}
use Rattle.seize_words.specs.OneMemory.Plan.{May, Steps}
use Rattle.seize_words.specs.declared.at.At.TheVariants.{Word}
use Rattle.seize.specs.World.{World}
use Rattle.map_tables.specs.Chunks.{is_incremental}
use Rattle.map_tables.specs.declared.node.Node.{Node}
use Rattle.map_tables.specs.declared.setting.Setting.{Setting}
use Rattle.map_tables.specs.declared.table_words.TheConstants.{NEXT}
use Rattle.map_measures.specs.Given.ResizeCopier.{copier_plan}
use Rattle.map_measures.specs.Given.ResizeDeclared.copier.Copier.{Copier}
use Rattle.papaya_raw.specs.Given.SweepsSweep.{copied, plan_at, sweep_plan}
use Rattle.papaya_raw.specs.Given.ReservesDeclared.sweep.Sweep.{Sweep}
use Rattle.papaya_raw.specs.Given.ReservesDeclared.sweep.Sweeping.{Sweeping}
use Rattle.papaya_raw.specs.Given.ReservesDeclared.sweep.Sweeping.TheVariants as at
use Rattle.papaya_raw.specs.Given.ReservesDeclared.sweep.Swept.{Swept}
use Rattle.map_measures.specs.Given.RuleChart.{Chart}
use Rattle.map_measures.specs.Given.RuleWords.{Blocks}
use Rattle.map_measures.specs.Given.RuleLasts.{Lasts}
use Rattle.map_measures.specs.Given.RuleMaps.{spot_of}
use Rattle.map_measures.specs.Given.RuleInWorld.{IsMapIn, SameBlocks}
use Rattle.owner_facts.specs.Given.PointsFactsCopies.{CopierFacts}
use Rattle.owner_facts.specs.Given.PointsFactsCopiesBlocking.{CopierFactsBlocking}
use Rattle.map_measures.specs.Given.LateEnds.{EndsInSweeping}
use Rattle.owner_facts.specs.Given.LateFactsReserves.{IsEnding}
use Rattle.map_measures.specs.Given.LateFaults.{HoldsInSweeping, SweepRefusesSo}
use Rattle.owner_facts.specs.Given.LateToldSweeps.{IsRowOfSweep}
use Rattle.map_measures.proofs.Given.RuleSpared.{PlanSpares, spares_as, step_spares}
use Rattle.map_measures.proofs.Given.LateKindsKept.Rooms.Bound.{BoundSweeping, Keeps, sweeping_on}
use Rattle.map_measures.proofs.Given.LateKindsKept.Rooms.Sweeping.{sweep_as}
use Rattle.owner_whole.specs.Whole.Limits.{IsForTheLast, IsTheLast}
use Rattle.owner_whole.proofs.Whole.Fresh.Sweeps.{CopiesRoot}
use Rattle.owner_whole.proofs.Whole.Limits.Copiers.{copier_bounds, copier_keeps, keeps_where, memory_is_other, row_copier}
use Rattle.owner_whole.proofs.Whole.Limits.Past.{its_link, past_same}

module _ {K V : Type 0} (same : K → K → Bool) (hash : K → ℕ) (setting : Setting) (bits : is_incremental setting.mode ≡ true) (fits : setting.initial ≤ 2 ^ 48)
    (w w2 : World (Node K V)) (c c2 : Chart K) (blocks blocks2 : Blocks) (map : IsMapIn same hash setting w c blocks) (map2 : IsMapIn same hash setting w2 c2 blocks2)
    (lasts : Lasts same (spot_of hash) (is_incremental setting.mode) c c2) (blocks_same : SameBlocks c blocks blocks2) (o : Sweep) (whole : CopiesRoot same hash setting w c blocks o.stands)
    (may : May Can Took value_at w.memory (sweep_plan hash o)) (end : Sweep × Swept (Node K V)) (s : Steps Took value_at w.memory (sweep_plan hash o) w2.memory end) where
  abbrev Whole : Sweeping → Type 0
  Whole stands = CopiesRoot same hash setting w c blocks stands

  -- as the mode is
  facts_of : (copier : Copier) → Whole (at.Copies copier) → CopierFacts same hash w 0 setting c blocks copier
  facts_of copier copies =
      (subst (λ (b : Bool). cond b ((copier.whole ≡ true) × CopierFacts same hash w 0 setting c blocks copier × IsEnding same hash w 0 setting c blocks copier copier.stands)
      (CopierFactsBlocking same hash w 0 setting c blocks copier)) bits copies).1

  as_many : (t : ℕ) → suc t ≡ c.past → PlanSpares (Word (blocks.table t) NEXT) (sweep_plan {V = V} hash o) → c2.past ≡ c.past
  as_many t last spares =
      past_same same hash setting w w2 c c2 blocks blocks2 map map2 lasts blocks_same t last
      (step_spares (Word (blocks.table t) NEXT) tt w.memory 0 (its_link same hash setting w c blocks map t last) (sweep_plan hash o) w2.memory end spares may s)

  at_point : (stands : Sweeping) → o.stands ≡ stands → (t : ℕ) → suc t ≡ c.past → PlanSpares (Word (blocks.table t) NEXT) (plan_at {V = V} hash o stands) → c2.past ≡ c.past
  at_point stands is t last spares = as_many t last (subst (λ (x : Sweeping). PlanSpares (Word (blocks.table t) NEXT) (plan_at {V = V} hash o x)) (sym is) spares)

  copier_spared : (copier : Copier) → o.stands ≡ at.Copies copier → (t : ℕ) → suc t ≡ c.past → PlanSpares (Word (blocks.table t) NEXT) (copier_plan {V = V} hash copier) → c2.past ≡ c.past
  copier_spared copier is t last spares = at_point (at.Copies copier) is t last (spares_as (Word (blocks.table t) NEXT) (copied o) (copier_plan hash copier) spares)

  bounds : (stands : Sweeping) → o.stands ≡ stands → Whole stands → EndsInSweeping (IsForTheLast c2) (IsTheLast c2) w.memory stands
  bounds (at.Copies copier) is f = copier_bounds same hash setting w c c2 blocks map lasts fits copier (facts_of copier f) (copier_spared copier is)
  bounds _ is f = tt

  stays : (stands : Sweeping) → o.stands ≡ stands → Whole stands → BoundSweeping stands → Keeps (IsForTheLast c) (IsForTheLast c2) (IsTheLast c) (IsTheLast c2)
  stays (at.Copies copier) is f bound = copier_keeps same hash setting w c c2 blocks map lasts fits copier (facts_of copier f) (copier_spared copier is) bound
  stays (at.Refused fault) is f bound = keeps_where same hash (is_incremental setting.mode) c c2 lasts (λ t last. at_point (at.Refused fault) is t last tt)
  stays _ is f bound = absurd bound

  -- The promise: so it is then.
  pub sweep_ends : HoldsInSweeping (IsForTheLast c) (IsTheLast c) o.stands
      → HoldsInSweeping (IsForTheLast c2) (IsTheLast c2) end.0.stands × SweepRefusesSo (IsForTheLast c2) end.1
  sweep_ends so =
      sweep_as (IsForTheLast c2) (IsTheLast c2) (memory_is_other c2) K V hash o
      (sweeping_on (IsForTheLast c) (IsForTheLast c2) (IsTheLast c) (IsTheLast c2) o.stands (stays o.stands refl whole) so) w.memory w2.memory end (bounds o.stands refl whole) s

-- and so it is after a step of a row of the collector
row_bounds : {K T : Type 0} (c : Chart K) (m : Mem T) (stands : Sweeping) → IsRowOfSweep stands → EndsInSweeping (IsForTheLast c) (IsTheLast c) m stands
row_bounds c m (at.Copies copier) row = row_copier c m copier copier.stands row
row_bounds c m _ row = tt

module _ {K V : Type 0} (hash : K → ℕ) (c : Chart K) (o : Sweep) (is_row : IsRowOfSweep o.stands) where
  pub row_sweep_ends : (m m2 : Mem (Node K V)) (end : Sweep × Swept (Node K V)) → Steps Took value_at m (sweep_plan hash o) m2 end
      → HoldsInSweeping (IsForTheLast c) (IsTheLast c) o.stands → HoldsInSweeping (IsForTheLast c) (IsTheLast c) end.0.stands × SweepRefusesSo (IsForTheLast c) end.1
  row_sweep_ends m m2 end s so = sweep_as (IsForTheLast c) (IsTheLast c) (memory_is_other c) K V hash o so m m2 end (row_bounds c m o.stands is_row) s
