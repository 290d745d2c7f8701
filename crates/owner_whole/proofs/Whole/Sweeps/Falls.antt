-- A step of a row within a sweep that is alone leaves less to do.
use Rattle.std.specs.Prelude.{◌≡◌, ℕ, ◌<◌, Bool, List, [], ◌∷◌, ◌++◌}
use Rattle.std.proofs.Common.{inl, inr, refl, ap, sym, subst, ◌∙◌, arith}
use Rattle.seize_words.specs.OneMemory.Mem.{Mem, Took, value_at}
use Rattle.seize_words.specs.OneMemory.Plan.{Steps}
use Rattle.seize.specs.World.{World, Row, Settles, Defers}
use Rattle.map_tables.specs.declared.node.Node.{Node}
use Rattle.map_tables.specs.declared.setting.Setting.{Setting}
use Rattle.map_measures.specs.Given.ResizeDeclared.dispose.Dispose.{Dispose}
use Rattle.papaya_raw.specs.Given.SweepsSweep.{sweep_plan}
use Rattle.papaya_raw.specs.Given.SweepsSweepPoints.{told, telling, further}
use Rattle.papaya_raw.specs.Given.ReservesDeclared.sweep.Sweep.{Sweep}
use Rattle.papaya_raw.specs.Given.ReservesDeclared.sweep.Sweeping.{Sweeping}
use Rattle.papaya_raw.specs.Given.ReservesDeclared.sweep.Sweeping.TheVariants as at
use Rattle.papaya_raw.specs.Given.ReservesDeclared.sweep.Swept.{Swept}
use Rattle.papaya_raw.specs.Given.ReservesDeclared.sweep.Swept.TheVariants as swept
use Rattle.map_measures.specs.Given.RuleChart.{Chart}
use Rattle.map_measures.specs.Given.RuleWords.{Blocks}
use Rattle.map_measures.specs.Given.PointsMeasures.{IsBelow}
use Rattle.owner_facts.specs.Given.PointsSteps.{AreLawful}
use Rattle.owner_facts.specs.Given.LateFactsSweeps.{CopiesPairs, SweepingFacts}
use Rattle.map_measures.specs.Given.LateRowsSweeps.{KnowsInRow}
use Rattle.owner_facts.specs.Given.LateToldSweeps.{IsRowOfSweep}
use Rattle.map_measures.specs.Passes.Sweeps.{number_of_sweep}
use Rattle.map_measures.proofs.Passes.Laws.{sweep_rows_fall}
use Rattle.owner_facts.specs.Given.CallersOverAll.{CallOverAll, row_of_sweep, past_sweeping, sweep_once_over}
use Rattle.owner_facts.specs.Given.CallersSights.{Visible, seen_by}
use Rattle.owner_facts.specs.Given.CallersTogether.{OverAll}
use Rattle.owner_whole.specs.Whole.Owner.{IsAlone}
use Rattle.map_measures.specs.Passes.FallsSweeps.{AdvancesFrom}
use Rattle.owner_whole.proofs.Whole.Keys.Falls.{row_left, lower_last}
use Rattle.owner_whole.proofs.Whole.Rows.Settles.{settling_lowers, deferring_lowers}
use Rattle.owner_whole.proofs.Whole.Sweeps.Account.{SweepAccount, SweepSettling, SweepDeferring, TableOver, PairOver}
use Rattle.owner_whole.proofs.Whole.Sweeps.Over.{further_by}
use Rattle.owner_whole.proofs.Whole.Sweeps.Rows.{IsWithinRow}
use Rattle.owner_whole.proofs.Whole.Sweeps.Rows as rows
use Rattle.map_measures.proofs.Falls.Below.{below_followed as lower_more}

-- the numbers of a sweep, and then what its row has left
abbrev pub sweep_numbers : {K V : Type 0} → (K → ℕ) → ℕ → Chart K → Blocks → Sweep → Mem (Node K V) → List ℕ
sweep_numbers hash slot c blocks p m = number_of_sweep hash c blocks p ++ (row_left (row_of_sweep slot p.stands) m ∷ [])

module _ {K V Q : Type 0} (same : K → K → Bool) (hash : K → ℕ) (asks : Q → K → Bool) (setting : Setting) (slot : ℕ → ℕ) (lawful : AreLawful same hash)
    (w : World (Node K V)) (c : Chart K) (blocks : Blocks) (sights : ℕ → Visible) (o : CallOverAll) (a : IsAlone {Q = Q} same hash asks setting slot w c blocks sights (OverAll o))
    (is_row : IsRowOfSweep o.sweep.stands) (m2 : Mem (Node K V)) (p2 : Sweep) (end : Swept (Node K V)) (steps : Steps Took value_at w.memory (sweep_plan hash o.sweep) m2 (p2, end)) where
  abbrev seen : Blocks
  seen = seen_by blocks (sights (slot 0))

  abbrev here : Setting
  here = rows.here same hash asks setting slot lawful w c blocks sights o a is_row

  abbrev now : IsWithinRow same hash asks setting slot lawful w c blocks sights o a is_row
  now = rows.now same hash asks setting slot lawful w c blocks sights o a is_row

  abbrev Lower : Sweep → Type 0
  Lower q = IsBelow (sweep_numbers hash (slot 0) c seen q m2) (sweep_numbers hash (slot 0) c seen o.sweep w.memory)

  -- less is left to the row
  still_lower : (q : Sweep) → number_of_sweep hash c seen q ≡ number_of_sweep hash c seen o.sweep
      → row_left (row_of_sweep (slot 0) q.stands) m2 < row_left (row_of_sweep (slot 0) o.sweep.stands) w.memory → Lower q
  still_lower q number less =
      subst (λ (xs : List ℕ). IsBelow (xs ++ (row_left (row_of_sweep (slot 0) q.stands) m2 ∷ [])) (sweep_numbers hash (slot 0) c seen o.sweep w.memory)) (sym number)
      (lower_last (number_of_sweep hash c seen o.sweep) (row_left (row_of_sweep (slot 0) q.stands) m2) (row_left (row_of_sweep (slot 0) o.sweep.stands) w.memory) less)

  left_before : (x : Row) → row_of_sweep (slot 0) o.sweep.stands ≡ x → row_left x now.v.memory ≡ row_left (row_of_sweep (slot 0) o.sweep.stands) w.memory
  left_before x is = ap (row_left x) now.memory ∙ ap (λ (y : Row). row_left y w.memory) (sym is)

  -- the row is over, and the sweep goes on
  over_lower : (q : Sweep) → ◌≡◌ {A = Sweep × Swept (Node K V)} (p2, end) (q, swept.Goes) → (IsRowOfSweep q.stands → ⊥) → ((CopiesPairs o.sweep.stands → ⊥) → KnowsInRow same hash now.v 0 here c seen o.began o.sweep) → Lower q
  over_lower q is none knows =
      elim (sweep_rows_fall V same hash here now.v 0 c seen o.began o.sweep (rows.map_now same hash asks setting slot lawful w c blocks sights o a is_row) is_row knows m2 (q, swept.Goes)
      (subst (λ (x : Sweep × Swept (Node K V)). Steps Took value_at now.v.memory (sweep_plan hash o.sweep) m2 x) is
      (rows.steps_now same hash asks setting slot lawful w c blocks sights o a is_row m2 p2 end steps)) tt) as (λ _. Lower q) [
        | inl same_row ↦ absurd (none same_row.0)
        | inr fallen ↦ lower_more (number_of_sweep hash c seen q) (number_of_sweep hash c seen o.sweep) _ _ fallen.1
      ]

  pair_lower : (d : Dispose) → o.sweep.stands ≡ at.Disposes d → ◌≡◌ {A = Sweep × Swept (Node K V)} (p2, end) (telling (further o.sweep)) → AdvancesFrom o.sweep.stands end → Lower p2
  pair_lower d is e more = over_lower p2 (ap (λ (x : Swept (Node K V)). (p2, x)) (further_by (λ x. (further o.sweep).stands ≡ x → end ≡ swept.Goes) o.sweep on on over refl)) none (λ copies. record {
    setting_is = now.knows.facts.setting_is;
    taking = point.0;
    idle = now.knows.facts.idle (λ h. subst (λ (x : Sweeping). CopiesPairs (past_sweeping x)) is h);
    turn = point.1;
    place = (record { table = point.2.0.table; root = point.2.0.root; marks = point.2.0.marks }, point.2.1);
  })
    where
      point : SweepingFacts same hash now.v 0 here c seen o.began (sweep_once_over o.sweep) (past_sweeping (at.Disposes d))
      point = subst (λ (x : Sweeping). SweepingFacts same hash now.v 0 here c seen o.began (sweep_once_over o.sweep) (past_sweeping x)) is now.knows.facts.point

      end_is : end ≡ told (further o.sweep).stands
      end_is = ap (λ (x : Sweep × Swept (Node K V)). x.1) e

      none : IsRowOfSweep p2.stands → ⊥
      none row = further_by (λ x. IsRowOfSweep x → ⊥) o.sweep (λ h. h) (λ h. h) (λ h. h) (subst (λ (x : Sweep × Swept (Node K V)). IsRowOfSweep x.0.stands) e row)

      on : {x : Sweeping} → (further o.sweep).stands ≡ x → end ≡ told x
      on is = end_is ∙ ap told is

      over : (further o.sweep).stands ≡ at.Over → end ≡ swept.Goes
      over is = absurd (subst (AdvancesFrom o.sweep.stands) (end_is ∙ ap told is) more)

  by_account : (x : Sweep × Swept (Node K V)) → x ≡ (p2, end) → AdvancesFrom o.sweep.stands end → SweepAccount hash (slot 0) o.sweep now.v.memory m2 x → Lower x.0
  by_account x is more (SweepSettling y z e _ row st going tells row2 s) =
      let less = settling_lowers setting.batch_size now.v now.together.ground.came 0 now.rows y (now.row_is ∙ row) m2 z e st going in
      let was = left_before (Settles y) row in
      let after = ap (λ (q : Row). row_left {K = K} {V = V} q m2) row2 in
      still_lower x.0 (s.number c seen) (omega (arith, less, was, after))
  by_account x is more (SweepDeferring y z e _ row st not_done goes row2 s) =
      let was = left_before (Defers (slot 0) y) row in
      let after = ap (λ (q : Row). row_left {K = K} {V = V} q m2) row2 in
      elim (deferring_lowers setting.batch_size now.v now.together.ground.came 0 now.rows (slot 0) y (now.row_is ∙ row) m2 (z, e) st) as (λ _. Lower x.0) [
        | inl on ↦ (let less = on.1 in still_lower x.0 (s.number c seen) (omega (arith, less, was, after)))
        | inr done ↦ absurd (not_done done)
      ]
  by_account x is more (TableOver _ tells r) =
      over_lower x.0 (sym is ∙ ap (λ (y : Swept (Node K V)). (x.0, y)) tells) r.none (λ copies. absurd (copies (subst CopiesPairs (sym r.was) tt)))
  by_account x is more (PairOver _ d disposes e) = subst (λ (y : Sweep × Swept (Node K V)). Lower y.0) (sym is) (pair_lower d disposes (sym is ∙ e) more)

  pub row_lower : AdvancesFrom o.sweep.stands end → Lower p2
  row_lower more = by_account (p2, end) refl more (rows.its_account same hash asks setting slot lawful w c blocks sights o a is_row m2 p2 end steps)
