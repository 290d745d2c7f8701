-- Walks, clearings and retainings on maps, among calls, makings and ends of maps: under every interleaving the invariant of all holds.
use Rattle.std.specs.Prelude.{◌≡◌, ℕ, Bool, false, Option, Some, None}
use Rattle.many_calls.specs.Given.SeizeWordsMem.{Mem, Can, Took, value_at}
use Rattle.many_calls.specs.Given.SeizeWordsPlan.{May, Steps}
use Rattle.many_calls.specs.Given.SeizeWorld.{World, Rests, IsInside, with_at}
use Rattle.many_calls.specs.Given.TablesChunks.{is_incremental}
use Rattle.many_calls.specs.Given.TablesDeclared.node.Node.{Node}
use Rattle.many_calls.specs.Given.SweepsSweep.{sweep_plan}
use Rattle.many_calls.specs.Given.ReservesDeclared.sweep.Purpose.{Purpose}
use Rattle.many_calls.specs.Given.ReservesDeclared.sweep.Sweep.{Sweep}
use Rattle.many_calls.specs.Given.ReservesDeclared.sweep.Sweeping.TheVariants as at
use Rattle.many_calls.specs.Given.ReservesDeclared.sweep.Swept.{Swept}
use Rattle.many_calls.specs.Given.LateToldSweeps.{IsRowOfSweep}
use Rattle.many_calls.specs.OverAll.{CallOverAll, begun_over_all, gone_on, come_to}
use Rattle.many_calls.specs.Sights.{seen_by}
use Rattle.many_calls.specs.Sweeps.{TakesReply, SweepStepsTogether, SweepRowsTogether}
use Rattle.many_calls.specs.Together.{UnderWay, OverAll, FewWith, in_slot, next_over_all}
use Rattle.many_maps.specs.Makings.{Beginning}
use Rattle.many_maps.specs.Maps.{Standing, with_call}
use Rattle.many_maps.specs.Endings.{Finishing, EndingsTogether, AllEndingsStand}

module _ {K Q : Type 0} (V : Type 0) (same : K → K → Bool) (asks : Q → K → Bool) (batch_size roots : ℕ) (slot : ℕ → ℕ) where
  -- A caller that has no call on any map, makes none and ends none, and has no row under way, begins a sweep over one, within its section.
  abbrev pub SweepsBeginWithEndings : Type 0
  SweepsBeginWithEndings =
      (w : World (Node K V)) (maps : ℕ → Option (Standing K)) (calls : ℕ → ℕ → Option (UnderWay K V Q))
      (makers : ℕ → Option (Beginning K)) (enders : ℕ → Option (Finishing K V))
      → EndingsTogether V same asks batch_size roots slot w maps calls makers enders
      → (i : ℕ) → makers i ≡ None → enders i ≡ None → ((n : ℕ) → calls n i ≡ None) → w.row i ≡ Rests → IsInside (w.uses (slot i))
      → (m : ℕ) (s : Standing K) → maps m ≡ Some s → (purpose : Purpose)
      → (is_incremental s.setting.mode ≡ false → FewWith (calls m) i (OverAll (begun_over_all s.chart.now (in_slot s.setting (slot i)) purpose)))
      → EndingsTogether V same asks batch_size roots slot w maps
      (with_call calls m i (Some (OverAll (begun_over_all s.chart.now (in_slot s.setting (slot i)) purpose)))) makers enders

  module _ (w : World (Node K V)) (maps : ℕ → Option (Standing K)) (calls : ℕ → ℕ → Option (UnderWay K V Q))
      (makers : ℕ → Option (Beginning K)) (enders : ℕ → Option (Finishing K V))
      (m : ℕ) (s : Standing K) (i : ℕ) (o : CallOverAll) (m2 : Mem (Node K V)) (p2 : Sweep) (end : Swept (Node K V)) where
    -- where a step of a sweep leads that is none of a row: in its own map as if this were the only one
    pub record SweepStepsWithEndings : Type 0 where
      pub no_row : IsRowOfSweep o.sweep.stands → ⊥
      pub step : SweepStepsTogether V same s.hash asks s.setting slot w s.chart s.blocks s.sights (calls m) i o m2 p2 end
      pub together : EndingsTogether V same asks batch_size roots slot step.went.w2
          (with_at maps m (Some (record s { chart = step.went.c2; blocks = step.blocks2; sights = step.sights2 })))
          (with_call calls m i (next_over_all (come_to o step.entered2 step.done2 p2) end)) makers enders

    -- where a step of a row within a sweep leads
    pub record SweepRowsWithEndings : Type 0 where
      pub is_row : IsRowOfSweep o.sweep.stands
      pub step : SweepRowsTogether V same s.hash asks s.setting slot w s.chart s.blocks s.sights (calls m) i o m2 p2 end
      pub together : AllEndingsStand V same asks batch_size roots slot step.w2 maps (with_call calls m i (next_over_all (gone_on o p2) end)) makers enders

  -- The promise: whichever caller takes a step of its sweep that is none of a row, it may take it, and the invariant of all holds again.
  abbrev pub SweepsPreserveWithEndings : Type 0
  SweepsPreserveWithEndings =
      (w : World (Node K V)) (maps : ℕ → Option (Standing K)) (calls : ℕ → ℕ → Option (UnderWay K V Q))
      (makers : ℕ → Option (Beginning K)) (enders : ℕ → Option (Finishing K V))
      → EndingsTogether V same asks batch_size roots slot w maps calls makers enders
      → (m : ℕ) (s : Standing K) → maps m ≡ Some s → (i : ℕ) (o : CallOverAll) → calls m i ≡ Some (OverAll o) → (IsRowOfSweep o.sweep.stands → ⊥)
      → May Can Took value_at w.memory (sweep_plan s.hash o.sweep)
      × ((m2 : Mem (Node K V)) (p2 : Sweep) (end : Swept (Node K V)) → Steps Took value_at w.memory (sweep_plan s.hash o.sweep) m2 (p2, end)
      → SweepStepsWithEndings w maps calls makers enders m s i o m2 p2 end)

  -- The promise of what sweeps are asked for, and told.
  abbrev pub SweepsRepliedWithEndings : Type 0
  SweepsRepliedWithEndings =
      (w : World (Node K V)) (maps : ℕ → Option (Standing K)) (calls : ℕ → ℕ → Option (UnderWay K V Q))
      (makers : ℕ → Option (Beginning K)) (enders : ℕ → Option (Finishing K V))
      → EndingsTogether V same asks batch_size roots slot w maps calls makers enders
      → (m : ℕ) (s : Standing K) → maps m ≡ Some s → (i : ℕ) (o : CallOverAll) → calls m i ≡ Some (OverAll o)
      → TakesReply s.hash s.chart (seen_by s.blocks (s.sights (slot i))) o
      (λ told. EndingsTogether V same asks batch_size roots slot w maps (with_call calls m i (Some (OverAll told))) makers enders)

  -- The promise of the steps of rows within sweeps.
  abbrev pub SweepRowsPreserveWithEndings : Type 0
  SweepRowsPreserveWithEndings =
      (w : World (Node K V)) (maps : ℕ → Option (Standing K)) (calls : ℕ → ℕ → Option (UnderWay K V Q))
      (makers : ℕ → Option (Beginning K)) (enders : ℕ → Option (Finishing K V))
      → EndingsTogether V same asks batch_size roots slot w maps calls makers enders
      → (m : ℕ) (s : Standing K) → maps m ≡ Some s → (i : ℕ) (o : CallOverAll) → calls m i ≡ Some (OverAll o) → IsRowOfSweep o.sweep.stands
      → May Can Took value_at w.memory (sweep_plan s.hash o.sweep)
      × ((m2 : Mem (Node K V)) (p2 : Sweep) (end : Swept (Node K V)) → Steps Took value_at w.memory (sweep_plan s.hash o.sweep) m2 (p2, end)
      → SweepRowsWithEndings w maps calls makers enders m s i o m2 p2 end)

  -- The promise of what is given up: a walk that is ready may be.
  abbrev pub WalksStopWithEndings : Type 0
  WalksStopWithEndings =
      (w : World (Node K V)) (maps : ℕ → Option (Standing K)) (calls : ℕ → ℕ → Option (UnderWay K V Q))
      (makers : ℕ → Option (Beginning K)) (enders : ℕ → Option (Finishing K V))
      → EndingsTogether V same asks batch_size roots slot w maps calls makers enders
      → (m : ℕ) (s : Standing K) → maps m ≡ Some s → (i : ℕ) (o : CallOverAll) → calls m i ≡ Some (OverAll o) → o.sweep.stands ≡ at.Ready
      → EndingsTogether V same asks batch_size roots slot w maps (with_call calls m i None) makers enders × (w.row i ≡ Rests)
