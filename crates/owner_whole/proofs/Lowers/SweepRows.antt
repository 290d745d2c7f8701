-- A step of a row of the collector within a sweep: by all that can be looked at then, the numbers of the sweep and its row are lower.
use Rattle.std.specs.Prelude.{◌≡◌, ℕ, ◌<◌, Bool, true, Option, Some}
use Rattle.std.proofs.Common.{List, inl, inr, refl, ap, sym, subst, ◌∙◌}
use Rattle.seize_words.specs.OneMemory.Mem.{Mem, Took, value_at}
use Rattle.seize_words.specs.OneMemory.Plan.{Steps}
use Rattle.seize.specs.World.{World, Row, Settles, Defers, IsInside}
use Rattle.seize.specs.declared.rows.settle.Settled.{Settled}
use Rattle.seize.specs.declared.rows.settle.Settled.TheVariants as settled
use Rattle.map_measures.proofs.Given.SeizeEndsSettling.Most.{is_going, goes_further}
use Rattle.map_tables.specs.declared.node.Node.{Node}
use Rattle.map_tables.specs.declared.setting.Setting.{Setting}
use Rattle.map_measures.specs.Given.ResizeDeclared.dispose.Dispose.{Dispose}
use Rattle.papaya_raw.specs.Given.SweepsSweep.{sweep_plan}
use Rattle.papaya_raw.specs.Given.SweepsSweepPoints.{further}
use Rattle.papaya_raw.specs.Given.ReservesDeclared.sweep.Sweep.{Sweep}
use Rattle.papaya_raw.specs.Given.ReservesDeclared.sweep.Sweeping.{Sweeping}
use Rattle.papaya_raw.specs.Given.ReservesDeclared.sweep.Sweeping.TheVariants as at
use Rattle.papaya_raw.specs.Given.ReservesDeclared.sweep.Swept.{Swept}
use Rattle.map_measures.specs.Given.RuleChart.{Chart}
use Rattle.map_measures.specs.Given.RuleInWorld.{IsMapIn}
use Rattle.map_measures.specs.Given.RuleWords.{Blocks}
use Rattle.map_measures.specs.Given.PointsMeasures.{IsBelow}
use Rattle.owner_facts.specs.Given.PointsSteps.{AreLawful}
use Rattle.owner_facts.specs.Given.LateFactsSweeps.{CopiesPairs, GoesOver, SweepingFacts}
use Rattle.map_measures.specs.Given.LateRowsSweeps.{KnowsInRow}
use Rattle.owner_facts.specs.Given.LateToldSweeps.{IsRowOfSweep}
use Rattle.owner_facts.specs.Given.CallersOverAll.{CallOverAll, row_of_sweep, past_sweeping, sweep_once_over}
use Rattle.owner_facts.specs.Given.CallersSights.{Visible, seen_by, IsPartOf}
use Rattle.owner_facts.specs.Given.CallersTogether.{UnderWay, OverAll, in_slot, Together}
use Rattle.owner_facts.proofs.Given.CallersTogether.Fits.{map_in_slot}
use Rattle.map_measures.proofs.Falls.Below.{below_followed}
use Rattle.map_measures.specs.Passes.FallsSweeps.{AdvancesFrom}
use Rattle.map_measures.specs.Passes.Sweeps.{number_of_sweep}
use Rattle.map_measures.proofs.Passes.Laws.{sweep_rows_fall}
use Rattle.owner_whole.proofs.Whole.Sweeps.Account.{sweep_told_by, TableRetired, SweepAccount, SweepSettling, SweepDeferring, TableOver, PairOver, sweep_account}
use Rattle.owner_whole.proofs.Whole.Sweeps.Over.{further_by}
use Rattle.owner_whole.proofs.Lowers.Kept.{SweepLinks, sweep_kept}
use Rattle.owner_whole.proofs.Lowers.Rows.{left, with_left, settling_less, deferring_less, row_lowers}
use Rattle.owner_whole.proofs.Lowers.Swept as swept_own
use Rattle.owner_whole.proofs.Lowers.Within.{SweepWithin, sweep_within, sweep_at_row, sweep_behind}

-- a retirement that goes on does not wait
settles_on : {T : Type 0} (x : Sweeping) (o : Settled T) → is_going o ≡ true → AdvancesFrom x (sweep_told_by o) → goes_further o ≡ true
settles_on x settled.Goes going goes = refl
settles_on x settled.Waits going goes = absurd goes
settles_on x (settled.Gave value) going goes = refl
settles_on x settled.Done going goes = absurd (cc going)

module _ {K V Q : Type 0} (same : K → K → Bool) (hash : K → ℕ) (asks : Q → K → Bool) (setting : Setting) (slot : ℕ → ℕ) (lawful : AreLawful same hash)
    (w : World (Node K V)) (c : Chart K) (blocks : Blocks) (sights : ℕ → Visible) (calls : ℕ → Option (UnderWay K V Q)) (s : Together V same hash asks setting slot w c blocks sights calls)
    (i : ℕ) (inside : IsInside (w.uses (slot i))) (o : CallOverAll) (has : calls i ≡ Some (OverAll o)) (is_row : IsRowOfSweep o.sweep.stands)
    (w2 : World (Node K V)) (blocks2 : Blocks) (part : IsPartOf c blocks2 blocks) (sights2 : ℕ → Visible) (calls2 : ℕ → Option (UnderWay K V Q))
    (then : Together V same hash asks setting slot w2 c blocks2 sights2 calls2) (inside2 : IsInside (w2.uses (slot i))) (o2 : CallOverAll) (has2 : calls2 i ≡ Some (OverAll o2))
    (m2 : Mem (Node K V)) (end : Swept (Node K V)) (st : Steps Took value_at w.memory (sweep_plan hash o.sweep) m2 (o2.sweep, end)) (goes : AdvancesFrom o.sweep.stands end) where
  abbrev here : Setting
  here = in_slot setting (slot i)

  abbrev seen : Blocks
  seen = seen_by blocks (sights (slot i))

  in_row : SweepWithin same hash asks setting slot lawful w c blocks sights calls s i inside o
  in_row = sweep_within same hash asks setting slot lawful w c blocks sights calls s i inside o has is_row

  map_now : IsMapIn same hash here in_row.v c blocks
  map_now = map_in_slot same hash setting in_row.v c blocks (slot i) in_row.ground.map

  -- where it stands then its number is what it was by what could be looked at before
  kept : SweepLinks c blocks2 o2.sweep.stands → number_of_sweep hash c blocks2 o2.sweep ≡ number_of_sweep hash c blocks o2.sweep
  kept links = sweep_kept c blocks blocks2 part.tables part.tables_known then.ground.map.map.later hash o2.sweep o2.sweep.stands links

  abbrev Lower : Sweep → Type 0
  Lower q = IsBelow (with_left (number_of_sweep hash c blocks2 q) m2 (row_of_sweep (slot i) q.stands)) (with_left (number_of_sweep hash c blocks o.sweep) w.memory (row_of_sweep (slot i) o.sweep.stands))

  still : (q : Sweep) → q ≡ o2.sweep → IsRowOfSweep q.stands → number_of_sweep hash c blocks q ≡ number_of_sweep hash c blocks o.sweep
      → (x y : Row) → row_of_sweep (slot i) o.sweep.stands ≡ x → row_of_sweep (slot i) q.stands ≡ y → left m2 y < left in_row.v.memory x → Lower q
  still q is row number x y row1 row2 less =
      row_lowers w.memory m2 (number_of_sweep hash c blocks o.sweep) (number_of_sweep hash c blocks2 q) (row_of_sweep (slot i) o.sweep.stands) (row_of_sweep (slot i) q.stands) x y
      (subst (λ (p : Sweep). number_of_sweep hash c blocks2 p ≡ number_of_sweep hash c blocks p) (sym is)
      (kept (sweep_at_row same hash asks setting slot lawful w2 c blocks2 sights2 calls2 then i inside2 o2 has2 (subst (λ (p : Sweep). IsRowOfSweep p.stands) is row))) ∙ number) row1 row2
      (subst (λ (m : Mem (Node K V)). left m2 y < left m x) in_row.memory less)

  st_now : Steps Took value_at in_row.v.memory (sweep_plan hash o.sweep) m2 (o2.sweep, end)
  st_now = subst (λ (m : Mem (Node K V)). Steps Took value_at m (sweep_plan hash o.sweep) m2 (o2.sweep, end)) (sym in_row.memory) st

  -- once the row is over
  over : (IsRowOfSweep o2.sweep.stands → ⊥) → ((CopiesPairs o.sweep.stands → ⊥) → KnowsInRow same hash in_row.v i here c blocks o.began o.sweep)
      → SweepLinks c blocks2 o2.sweep.stands → Lower o2.sweep
  over none knows links =
      elim (sweep_rows_fall V same hash here in_row.v i c blocks o.began o.sweep map_now is_row knows m2 (o2.sweep, end) st_now goes) as (λ _. Lower o2.sweep) [
        | inl same_row ↦ absurd (none same_row.0)
        | inr fallen ↦ below_followed (number_of_sweep hash c blocks2 o2.sweep) (number_of_sweep hash c blocks o.sweep) _ _
            (subst (λ (xs : List ℕ). IsBelow xs (number_of_sweep hash c blocks o.sweep)) (sym (kept links)) fallen.1)
      ]

  table_over : (q : Sweep) → q ≡ o2.sweep → TableRetired hash (slot i) o.sweep in_row.v.memory m2 q → Lower o2.sweep
  table_over q is t = over (subst (λ (p : Sweep). IsRowOfSweep p.stands → ⊥) is t.none) (λ copies. absurd (copies (subst CopiesPairs (sym t.was) tt)))
      (sweep_behind same hash asks setting slot lawful w2 c blocks2 sights2 calls2 then i inside2 o2 has2 (subst (λ (p : Sweep). IsRowOfSweep p.stands → ⊥) is t.none) t.copier
      (subst IsRowOfSweep t.was is_row) (ap (λ (p : Sweep). p.stands) (sym is ∙ t.past) ∙ ap past_sweeping t.was))

  pair_over : (d : Dispose) → o.sweep.stands ≡ at.Disposes d → o2.sweep ≡ further o.sweep → Lower o2.sweep
  pair_over d disposes is = over none (λ copies. record {
    setting_is = in_row.knows.facts.setting_is;
    taking = point.0;
    idle = in_row.knows.facts.idle (λ h. subst (λ (x : Sweeping). CopiesPairs (past_sweeping x)) disposes h);
    turn = point.1;
    place = (record { table = goes_over.table; root = goes_over.root; marks = goes_over.marks }, point.2.1);
  }) (subst (λ (p : Sweep). SweepLinks c blocks2 p.stands) (sym is) (further_by (SweepLinks c blocks2) o.sweep tt tt tt))
    where
      point : SweepingFacts same hash in_row.v i here c seen o.began (sweep_once_over o.sweep) (past_sweeping (at.Disposes d))
      point = subst (λ (x : Sweeping). SweepingFacts same hash in_row.v i here c seen o.began (sweep_once_over o.sweep) (past_sweeping x)) disposes in_row.knows.facts.point

      goes_over : GoesOver same hash w i here c blocks o.began o.sweep point.1
      goes_over = swept_own.over same hash asks setting slot lawful w c blocks sights calls s i inside o.began o.sweep point.1
          (record { table = point.2.0.table; root = point.2.0.root; marks = point.2.0.marks })

      none : IsRowOfSweep o2.sweep.stands → ⊥
      none row = further_by (λ x. IsRowOfSweep x → ⊥) o.sweep (λ h. h) (λ h. h) (λ h. h) (subst (λ (p : Sweep). IsRowOfSweep p.stands) is row)

  by_account : (e : Sweep × Swept (Node K V)) → e ≡ (o2.sweep, end) → SweepAccount hash (slot i) o.sweep in_row.v.memory m2 e → Lower o2.sweep
  by_account e is (SweepSettling x y t _ row settles going tells row2 on) =
      subst Lower (ap (λ (z : Sweep × Swept (Node K V)). z.0) is) (still e.0 (ap (λ (z : Sweep × Swept (Node K V)). z.0) is) on.is_row (on.number c blocks) (Settles x) (Settles y) row row2
      (settling_less setting.batch_size in_row.v in_row.ground.came i m2 x y t (in_row.row_is ∙ row) settles
      (settles_on o.sweep.stands t going (subst (AdvancesFrom o.sweep.stands) (sym (ap (λ (z : Sweep × Swept (Node K V)). z.1) is) ∙ tells) goes))))
  by_account e is (SweepDeferring x y t _ row defers not_done tells row2 on) =
      elim (deferring_less setting.batch_size in_row.v in_row.ground.came i m2 (slot i) x y t (in_row.row_is ∙ row) defers) as (λ _. Lower o2.sweep) [
        | inl less ↦ subst Lower (ap (λ (z : Sweep × Swept (Node K V)). z.0) is)
            (still e.0 (ap (λ (z : Sweep × Swept (Node K V)). z.0) is) on.is_row (on.number c blocks) (Defers (slot i) x) (Defers (slot i) y) row row2 less.1)
        | inr done ↦ absurd (not_done done)
      ]
  by_account e is (TableOver _ tells t) = table_over e.0 (ap (λ (z : Sweep × Swept (Node K V)). z.0) is) t
  by_account e is (PairOver _ d disposes e_is) = pair_over d disposes (ap (λ (z : Sweep × Swept (Node K V)). z.0) (sym is ∙ e_is))

  pub sweep_row_falls : Lower o2.sweep
  sweep_row_falls = by_account (o2.sweep, end) refl (sweep_account hash (slot i) o.sweep in_row.v.memory m2 is_row (o2.sweep, end) st_now)
