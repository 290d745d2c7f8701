-- A step of a sweep that is none of a row of the collector: by all that can be looked at of its map, its numbers are lower.
use Rattle.std.specs.Prelude.{◌≡◌, ℕ, ◌-◌, ◌<◌, Bool, true, List, Option, Some}
use Rattle.std.proofs.Common.{inl, inr, refl, sym, subst, arith}
use Rattle.seize_words.specs.OneMemory.Mem.{Mem, Took, value_at}
use Rattle.seize_words.specs.OneMemory.Plan.{Steps}
use Rattle.map_measures.proofs.Given.SeizeRuleRows.Leaving.{steps_back}
use Rattle.seize.specs.World.{World, IsInside}
use Rattle.map_tables.specs.Chunks.{is_incremental}
use Rattle.map_tables.specs.declared.node.Node.{Node}
use Rattle.map_tables.specs.declared.setting.Setting.{Setting}
use Rattle.map_tables.specs.declared.table.Table.{Table}
use Rattle.map_measures.specs.Given.ResizeCopier.{copier_plan}
use Rattle.map_measures.specs.Given.ResizeSum.{summing}
use Rattle.map_measures.specs.Given.ResizeDeclared.copier.Copier.{Copier}
use Rattle.map_measures.specs.Given.ResizeDeclared.dispose.Dispose.{Dispose}
use Rattle.map_measures.specs.Given.ResizeDeclared.dispose.Disposing.{Disposing}
use Rattle.map_measures.specs.Given.ResizeDeclared.dispose.Disposing.TheVariants as disposes
use Rattle.map_measures.specs.Given.ResizeDeclared.yielding.Yielding.{Yielding}
use Rattle.map_measures.specs.Given.ResizeDeclared.yielding.Yielding.TheVariants as outcome
use Rattle.papaya_raw.specs.Given.SweepsSweep.{copied, plan_at, sweep_plan}
use Rattle.papaya_raw.specs.Given.ReservesDeclared.sweep.Sweep.{Sweep}
use Rattle.papaya_raw.specs.Given.ReservesDeclared.sweep.Sweeping.{Sweeping}
use Rattle.papaya_raw.specs.Given.ReservesDeclared.sweep.Sweeping.TheVariants as at
use Rattle.papaya_raw.specs.Given.ReservesDeclared.sweep.Swept.{Swept}
use Rattle.map_measures.specs.Given.RuleChart.{Chart}
use Rattle.map_measures.specs.Given.RuleWords.{Blocks}
use Rattle.owner_facts.specs.Given.PointsFactsDisposes.{DisposingFacts, DisposeFacts}
use Rattle.map_measures.specs.Given.PointsMeasures.{IsBelow}
use Rattle.owner_facts.specs.Given.PointsSteps.{AreLawful}
use Rattle.owner_facts.specs.Given.LateFactsSweeps.{CopiesPairs, CopiesTable, GoesOver, SweepingFacts, SweepFacts}
use Rattle.owner_facts.specs.Given.LateToldSweeps.{IsRowOfSweep}
use Rattle.owner_facts.specs.Given.CallersOverAll.{CallOverAll}
use Rattle.owner_facts.specs.Given.CallersSights.{Visible, seen_by}
use Rattle.map_measures.specs.Given.CallersSweeps.{SweepStepsTogether}
use Rattle.owner_facts.specs.Given.CallersTogether.{UnderWay, OverAll, in_slot, IsAtPoint, Together}
use Rattle.map_measures.specs.Falls.Room.{planned_in_copying, tables_to_come}
use Rattle.map_measures.proofs.Falls.Onward.{Onward}
use Rattle.map_measures.proofs.Falls.Reserves.CopiesLower.{CopyFalls, copies_fall}
use Rattle.map_measures.specs.Passes.FallsSweeps.{AdvancesFrom}
use Rattle.map_measures.specs.Passes.Sweeps.{numbers_at, number_of_sweep}
use Rattle.map_measures.proofs.Passes.Places.{entering_is}
use Rattle.map_measures.proofs.Passes.Points.{swept_on, before_stage as enters}
use Rattle.map_measures.proofs.Passes.Within.{copier_stands}
use Rattle.owner_whole.proofs.Lowers.Own as own
use Rattle.owner_whole.proofs.Lowers.Widened as wide

module _ {K V Q : Type 0} (same : K → K → Bool) (hash : K → ℕ) (asks : Q → K → Bool) (setting : Setting) (slot : ℕ → ℕ) (lawful : AreLawful same hash)
    (w : World (Node K V)) (c : Chart K) (blocks : Blocks) (sights : ℕ → Visible) (calls : ℕ → Option (UnderWay K V Q)) (s : Together V same hash asks setting slot w c blocks sights calls)
    (i : ℕ) (inside : IsInside (w.uses (slot i))) where
  abbrev here : Setting
  here = in_slot setting (slot i)

  abbrev seen : Blocks
  seen = seen_by blocks (sights (slot i))

  known : (t : ℕ) → t < c.past → seen.table_known t ≡ true → blocks.table_known t ≡ true
  known = wide.table_known here w.memory c blocks (sights (slot i)) (own.sight same hash asks setting slot lawful w c blocks sights calls s i inside)

  -- What a sweep knows at a point at which it copies nothing, it knows by all that can be looked at, too.

  pub over : (began : ℕ) (p : Sweep) (t : ℕ) → GoesOver same hash w i here c seen began p t → GoesOver same hash w i here c blocks began p t
  over began p t h = record {
    table = wide.table here w.memory c blocks (sights (slot i)) (own.sight same hash asks setting slot lawful w c blocks sights calls s i inside) p.table t h.table;
    root = h.root;
    marks = h.marks;
  }

  names : (n : ℕ) → n < c.stored → seen.pair_known n ≡ true → blocks.pair_known n ≡ true
  names n l is = (own.sight same hash asks setting slot lawful w c blocks sights calls s i inside).pairs n l is

  disposing : (n t : ℕ) → t < c.past → (x : Disposing) → DisposingFacts w i here c seen n t x → DisposingFacts w i here c blocks n t x
  disposing n t made (disposes.Settles settle) f = f
  disposing n t made disposes.Reads f = f
  disposing n t made (disposes.Walks table) (bits, parting, before, u, l, is, link) = (bits, parting, before, u, l, known u (omega (arith, l, made)) is, link)
  disposing n t made (disposes.Defers defer) (parting, before, u, next, is, defer_is, bits) = (parting, before, u, next, known u (omega (arith, next, made)) is, defer_is, bits)
  disposing n t made disposes.Over f = tt

  disposes_of : (d : Dispose) → DisposeFacts w i here c seen d → DisposeFacts w i here c blocks d
  disposes_of d f = record {
    setting_is = f.setting_is;
    n = f.n;
    t = f.t;
    left = (f.left.0, names f.n f.left.0 f.left.1, f.left.2);
    pair_is = f.pair_is;
    table = wide.table here w.memory c blocks (sights (slot i)) (own.sight same hash asks setting slot lawful w c blocks sights calls s i inside) d.table f.t f.table;
    point = disposing f.n f.t f.table.made d.stands f.point;
  }

  module _ (began : ℕ) (p : Sweep) where
    at_point : (x : Sweeping) → (CopiesPairs x → ⊥) → SweepingFacts same hash w i here c seen began p x → SweepingFacts same hash w i here c blocks began p x
    at_point at.Reads none f = f
    at_point at.Follows none (t, entered, root) =
        (t, wide.table here w.memory c blocks (sights (slot i)) (own.sight same hash asks setting slot lawful w c blocks sights calls s i inside) p.table t entered, root)
    at_point (at.Copies copier) none f = absurd (none tt)
    at_point at.Ready none (walks, inl h) = (walks, inl h)
    at_point at.Ready none (walks, inr (t, h, l)) = (walks, inr (t, over began p t h, l))
    at_point at.Words none (t, (h, l)) = (t, (over began p t h, l))
    at_point (at.Asks word) none (retains, (n, borrowed, few, is, word_is), t, (h, l)) = (retains, (n, borrowed, few, names n few is, word_is), t, (over began p t h, l))
    at_point (at.Tries word) none (taking, (n, borrowed, few, is, word_is), t, (h, l)) = (taking, (n, borrowed, few, names n few is, word_is), t, (over began p t h, l))
    at_point (at.Counts removed) none (taking, t, (h, l), (n, borrowed, left, word_is, held)) =
        (taking, t, (over began p t h, l), (n, borrowed, (left.0, names n left.0 left.1, left.2), word_is, held))
    at_point (at.Disposes d) none (taking, t, (h, l), f) = (taking, t, (over began p t h, l), disposes_of d f)
    at_point at.Over none f = tt
    at_point (at.Refused fault) none f = tt

    module _ (m2 : Mem (Node K V)) (c2 : Chart K) (blocks2 : Blocks) (onward : Onward same hash here w.memory c blocks m2 c2 blocks2)
        (facts : SweepFacts same hash w i here c seen began p) (end : Sweep × Swept (Node K V)) where
      -- where it copies a table
      module _ (copier : Copier) (none : IsRowOfSweep (at.Copies copier) → ⊥) where
        abbrev Goal : Sweep × Swept (Node K V) → Type 0
        Goal to = AdvancesFrom (at.Copies copier) to.1 → IsBelow (number_of_sweep hash c2 blocks2 to.0) (numbers_at hash c blocks p (at.Copies copier))

        copied_falls : (to : Copier × Yielding (Node K V) Table) → CopyFalls same hash here w.memory c blocks m2 c2 blocks2 onward copier none (is_incremental p.setting.mode) to → Goal (copied p to)
        copied_falls (next, outcome.Goes) falls goes = falls
        copied_falls (next, outcome.Waits) falls goes = absurd goes
        copied_falls (next, outcome.Gave value) falls goes = falls
        copied_falls (next, outcome.Done root) falls goes =
            let h = entering_is hash c2 blocks2 p root in
            subst (λ (ys : List ℕ). IsBelow ys (numbers_at hash c blocks p (at.Copies copier))) (sym h.3)
            (enters (tables_to_come c2.past 0) (c2.past - root.turn) (tables_to_come c.past (planned_in_copying copier.stands)) (c.past - copier.target.turn) h.0 h.2 (falls (summing p.setting)))
        copied_falls (next, outcome.Refused fault) falls goes = absurd goes

        copies : CopiesTable same hash w i here c seen began copier → Steps Took value_at w.memory (plan_at hash p (at.Copies copier)) m2 end → Goal end
        copies f st =
            let b = steps_back (copied p) w.memory m2 (copier_plan hash copier) end st in
            subst Goal (sym b.2)
            (copied_falls b.0 (copies_fall same hash here w.memory c blocks m2 c2 blocks2 onward copier none (is_incremental p.setting.mode)
            (wide.whole here w.memory c blocks (sights (slot i)) (own.sight same hash asks setting slot lawful w c blocks sights calls s i inside) (is_incremental p.setting.mode) copier
            (copier_stands same hash w i here c seen began p.setting facts.setting_is copier f)) b.0 b.1))

      wider : (CopiesPairs p.stands → ⊥) → SweepFacts same hash w i here c blocks began p
      wider none = record { setting_is = facts.setting_is; idle = facts.idle; point = at_point p.stands none facts.point }

      pub sweep_on : (IsRowOfSweep p.stands → ⊥) → Steps Took value_at w.memory (sweep_plan hash p) m2 end → AdvancesFrom p.stands end.1
          → IsBelow (number_of_sweep hash c2 blocks2 end.0) (number_of_sweep hash c blocks p)
      sweep_on none st goes = by p.stands refl
        where
          other : (CopiesPairs p.stands → ⊥) → IsBelow (number_of_sweep hash c2 blocks2 end.0) (number_of_sweep hash c blocks p)
          other copies_none =
              swept_on same hash here w i c blocks began p (own.map same hash asks setting slot lawful w c blocks sights calls s i inside) facts.setting_is m2 c2 blocks2 onward
              (wider copies_none) none end st goes

          by : (x : Sweeping) → p.stands ≡ x → IsBelow (number_of_sweep hash c2 blocks2 end.0) (number_of_sweep hash c blocks p)
          by (at.Copies copier) is =
              subst (λ (x : Sweeping). IsBelow (number_of_sweep hash c2 blocks2 end.0) (numbers_at hash c blocks p x)) (sym is)
              (copies copier (subst (λ (x : Sweeping). IsRowOfSweep x → ⊥) is none) (subst (λ (x : Sweeping). SweepingFacts same hash w i here c seen began p x) is facts.point)
              (subst (λ (x : Sweeping). Steps Took value_at w.memory (plan_at hash p x) m2 end) is st) (subst (λ (x : Sweeping). AdvancesFrom x end.1) is goes))
          by at.Reads is = other (λ h. subst CopiesPairs is h)
          by at.Follows is = other (λ h. subst CopiesPairs is h)
          by at.Ready is = other (λ h. subst CopiesPairs is h)
          by at.Words is = other (λ h. subst CopiesPairs is h)
          by (at.Asks word) is = other (λ h. subst CopiesPairs is h)
          by (at.Tries word) is = other (λ h. subst CopiesPairs is h)
          by (at.Counts removed) is = other (λ h. subst CopiesPairs is h)
          by (at.Disposes d) is = other (λ h. subst CopiesPairs is h)
          by at.Over is = other (λ h. subst CopiesPairs is h)
          by (at.Refused fault) is = other (λ h. subst CopiesPairs is h)

  pub sweep_falls : (o : CallOverAll) → calls i ≡ Some (OverAll o) → (IsRowOfSweep o.sweep.stands → ⊥) → (m2 : Mem (Node K V)) (p2 : Sweep) (end : Swept (Node K V))
      → Steps Took value_at w.memory (sweep_plan hash o.sweep) m2 (p2, end) → AdvancesFrom o.sweep.stands end
      → (told : Swept (Node K V)) (step : SweepStepsTogether V same hash asks setting slot w c blocks sights calls i o m2 p2 told)
      → IsBelow (number_of_sweep hash step.went.c2 step.blocks2 p2) (number_of_sweep hash c blocks o.sweep)
  sweep_falls o has none m2 p2 end st goes told step = by (s.stand i (OverAll o) has)
    where
      by : IsAtPoint V same hash asks setting slot w c seen i (OverAll o) → IsBelow (number_of_sweep hash step.went.c2 step.blocks2 p2) (number_of_sweep hash c blocks o.sweep)
      by (inl (rests, knows)) =
          sweep_on o.began o.sweep m2 step.went.c2 step.blocks2
          (own.on same hash asks setting slot lawful w c blocks sights calls s i inside m2 _ step.went step.blocks2 step.grown step.sights2 _ step.together) knows.facts (p2, end) none st goes
      by (inr (row, is_row, knows)) = absurd (none is_row)
