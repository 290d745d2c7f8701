-- A walk, a clearing or a retaining that stands at a row of the collector begins it, and takes each step of it: all stand together.
use Rattle.std.specs.Prelude.{◌≡◌, ℕ, Bool, Option}
use Rattle.std.proofs.Common.{ap, sym, subst, ◌∙◌, inl, inr, refl}
use Rattle.seize_model.specs.Given.SeizeWordsMem.{Mem, Can, Took, value_at}
use Rattle.seize_model.specs.Given.SeizeWordsPlan.{May, Steps}
use Rattle.seize_model.specs.Given.SeizeWorld.{World, Settles, Rests, IsInside}
use Rattle.seize_model.proofs.Given.SeizeRuleRows.Teams.{shares}
use Rattle.map_facts_late.specs.Given.TablesNodes.{deferred_word}
use Rattle.map_facts_late.specs.Given.TablesDeclared.node.Node.{Node}
use Rattle.map_facts_late.specs.Given.TablesDeclared.setting.Setting.{Setting}
use Rattle.map_facts_late.specs.Given.ResizeCopierPromotes as retiring
use Rattle.map_facts_late.specs.Given.ResizeCopierStates as copiers
use Rattle.map_facts_late.specs.Given.ResizeDispose as dispose
use Rattle.map_facts_late.specs.Given.ResizeDeclared.copier.Copier.{Copier}
use Rattle.map_facts_late.specs.Given.ResizeDeclared.copier.Copying.{Copying}
use Rattle.map_facts_late.specs.Given.ResizeDeclared.copier.Copying.TheVariants as copies
use Rattle.map_facts_late.specs.Given.ResizeDeclared.dispose.Dispose.{Dispose}
use Rattle.map_facts_late.specs.Given.ResizeDeclared.dispose.Disposing.{Disposing}
use Rattle.map_facts_late.specs.Given.ResizeDeclared.dispose.Disposing.TheVariants as disposes
use Rattle.seize_model.specs.Given.SeizeDeclared.rows.settle.Settle.{Settle}
use Rattle.map_facts_late.specs.Given.SweepsSweep.{sweep_plan}
use Rattle.map_facts_late.specs.Given.SweepsSweepPoints.{standing}
use Rattle.map_facts_late.specs.Given.ReservesDeclared.sweep.Sweep.{Sweep}
use Rattle.map_facts_late.specs.Given.ReservesDeclared.sweep.Sweeping.{Sweeping}
use Rattle.map_facts_late.specs.Given.ReservesDeclared.sweep.Sweeping.TheVariants as at
use Rattle.map_facts_late.specs.Given.ReservesDeclared.sweep.Swept.{Swept}
use Rattle.map_facts_late.specs.Given.RuleChart.{Chart}
use Rattle.map_facts_late.specs.Given.RuleWords.{Blocks}
use Rattle.map_facts_late.specs.Given.PointsTold.{IsRowOf}
use Rattle.map_facts_late.specs.Given.PointsSteps.{AreLawful}
use Rattle.map_facts_late.specs.FactsSweeps.{CopiesTable}
use Rattle.map_facts_late.specs.ToldSweeps.{IsRowOfSweep}
use Rattle.many_calls.specs.OverAll.{CallOverAll, row_of_sweep, past_sweeping}
use Rattle.many_calls.specs.Sights.{Visible, seen_by}
use Rattle.many_calls.specs.Sweeps.{SweepRowsTogether, SweepRowsPreserveTheInvariant}
use Rattle.many_calls.specs.Together.{UnderWay, OverAll, IsWriter, in_slot, IsAtPoint, Together}
use Rattle.many_calls.proofs.Together.Begun as begun
use Rattle.many_calls.proofs.Together.Begun.{RowBegun}
use Rattle.many_calls.proofs.Together.Disposals.{disposal_begins}
use Rattle.many_calls.proofs.Together.Few.{sweep_row_claims_none}
use Rattle.many_calls.proofs.Together.RetiresWhole as whole
use Rattle.many_calls.proofs.Together.RowsOfCopiers.{at_retirement}
use Rattle.many_calls.proofs.Together.Came.{came_reached}
use Rattle.many_calls.proofs.Together.Slots.{step_leaves, begun_leaves, sweep_shares}
use Rattle.many_calls.proofs.Together.SweepRows.{KnowsOf, seen_map, at_row, within_row}

module _ {K V Q : Type 0} (same : K → K → Bool) (hash : K → ℕ) (asks : Q → K → Bool) (setting : Setting) (slot : ℕ → ℕ) (lawful : AreLawful same hash)
    (w : World (Node K V)) (c : Chart K) (blocks : Blocks) (sights : ℕ → Visible) (calls : ℕ → Option (UnderWay K V Q)) (s : Together V same hash asks setting slot w c blocks sights calls)
    (i : ℕ) (o : CallOverAll) (inside : IsInside (w.uses (slot i))) (rests : w.row i ≡ Rests) where
  abbrev Knows : World (Node K V) → Sweeping → Type 0
  Knows v x = KnowsOf same hash asks setting slot lawful w c blocks sights calls s i o inside v (standing o.sweep x)

  pub record Begins (x : Sweeping) : Type 0 where
    pub row : RowBegun same hash asks setting slot lawful w c blocks sights calls s i inside rests (row_of_sweep (slot i) x)
    pub knows : Knows row.v (past_sweeping x)

  -- the retirement of a table
  module _ (p : Copier) (settle : Settle) (rest : ℕ) where
    abbrev CopiesIn : Copier → World (Node K V) → Type 0
    CopiesIn q v = CopiesTable same hash v i (in_slot setting (slot i)) c (seen_by blocks (sights (slot i))) o.began q

    retires_table : CopiesIn (copiers.standing p (copies.Retires settle rest)) w
        → whole.RetiresTable same hash (in_slot setting (slot i)) w c (seen_by blocks (sights (slot i))) (seen_map same hash asks setting slot lawful w c blocks sights calls s i o inside) i o.began p settle rest
        (CopiesIn (retiring.table_retired p rest))
    retires_table (inl h) =
        whole.retires_as same hash (in_slot setting (slot i)) w c (seen_by blocks (sights (slot i))) (seen_map same hash asks setting slot lawful w c blocks sights calls s i o inside) i o.began p settle rest
        _ (CopiesIn (retiring.table_retired p rest)) (λ v point. inl point)
        (whole.retires_whole same hash (in_slot setting (slot i)) w c (seen_by blocks (sights (slot i))) (seen_map same hash asks setting slot lawful w c blocks sights calls s i o inside) i o.began p settle rest h)
    retires_table (inr (blocking, h)) =
        whole.retires_as same hash (in_slot setting (slot i)) w c (seen_by blocks (sights (slot i))) (seen_map same hash asks setting slot lawful w c blocks sights calls s i o inside) i o.began p settle rest
        _ (CopiesIn (retiring.table_retired p rest)) (λ v point. inr (blocking, point))
        (whole.retires_late same hash (in_slot setting (slot i)) w c (seen_by blocks (sights (slot i))) (seen_map same hash asks setting slot lawful w c blocks sights calls s i o inside) i o.began p settle rest h)

    retirement_begins : Knows w (at.Copies (copiers.standing p (copies.Retires settle rest))) → Begins (at.Copies (copiers.standing p (copies.Retires settle rest)))
    retirement_begins k =
        let t = retires_table k.facts.point in
        record {
          row = begun.table_retires same hash asks setting slot lawful w c blocks sights calls s i inside rests t.t t.made t.known settle t.its (Settles settle) refl;
          knows = record {
            facts = record {
              setting_is = k.facts.setting_is;
              idle = λ none. absurd (none tt);
              point = t.knows (begun.row_then same hash asks setting slot lawful w c blocks sights calls s i inside rests (blocks.table t.t)) (begun.uses_then same hash asks setting slot lawful w c blocks sights calls s i inside rests);
            };
            began_before = k.began_before;
            from = k.from;
            covers = tt;
            tries = tt;
          };
        }

  -- the disposal of a pair
  module _ (d : Dispose) where
    once_disposed : (v : World (Node K V)) (x : Disposing) → Knows w (at.Disposes (dispose.standing d x)) → Knows v (at.Disposes (dispose.standing d disposes.Over))
    once_disposed v x k =
        let f = k.facts.point.3 in
        let over = k.facts.point.2.0 in
        record {
          facts = record {
            setting_is = k.facts.setting_is;
            idle = λ none. k.facts.idle (λ copies. copies);
            point = (
              k.facts.point.0,
              k.facts.point.1,
              (record { table = over.table; root = over.root; marks = over.marks }, k.facts.point.2.1),
              record { setting_is = f.setting_is; n = f.n; t = f.t; left = f.left; pair_is = f.pair_is; table = f.table; point = tt },
            );
          };
          began_before = k.began_before;
          from = k.from;
          covers = k.covers;
          tries = tt;
        }

    by_disposal : (x : Disposing) → IsRowOf x → Knows w (at.Disposes (dispose.standing d x)) → Begins (at.Disposes (dispose.standing d x))
    by_disposal x is_row k =
        let row = disposal_begins same hash asks setting slot lawful w c blocks sights calls s i inside rests d x is_row k.facts.point.3 (row_of_sweep (slot i) (at.Disposes (dispose.standing d x))) refl in
        record { row = row; knows = once_disposed row.v x k }

  pub begins_at : (x : Sweeping) → IsRowOfSweep x → Knows w x → Begins x
  begins_at = at_row (λ x. Knows w x → Begins x)
      (λ p row. at_retirement (λ (x : Copying). Knows w (at.Copies (copiers.standing p x)) → Begins (at.Copies (copiers.standing p x))) (retirement_begins p) p.stands row)
      (λ d row. by_disposal d d.stands row)

module _ {K V Q : Type 0} (same : K → K → Bool) (hash : K → ℕ) (asks : Q → K → Bool) (setting : Setting) (slot : ℕ → ℕ) where
  pub sweep_rows_stand_together : SweepRowsPreserveTheInvariant V same hash asks setting slot
  sweep_rows_stand_together lawful w c blocks sights calls s i o has is_row = by (s.stand i (OverAll o) has)
    where
      its : IsWriter calls i
      its = (OverAll o, has, tt)

      by : IsAtPoint V same hash asks setting slot w c (seen_by blocks (sights (slot i))) i (OverAll o)
          → May Can Took value_at w.memory (sweep_plan hash o.sweep)
          × ((m2 : Mem (Node K V)) (p2 : Sweep) (end : Swept (Node K V)) → Steps Took value_at w.memory (sweep_plan hash o.sweep) m2 (p2, end)
          → SweepRowsTogether V same hash asks setting slot w c blocks sights calls i o m2 p2 end)
      by (inr (here, row, k)) =
          let leads = within_row same hash asks setting slot lawful w c blocks sights calls s i o (s.inside i (OverAll o) has) its o.sweep.stands row here k in (
            leads.0,
            λ m2 p2 end st. let l = leads.1 m2 (p2, end) st in
                record { w2 = l.w2; memory = l.memory; happened = inl l.happened; together = l.together; silent = l.silent; comes = l.comes; gives = l.gives; rests = l.rests; slots = step_leaves deferred_word setting.batch_size w (came_reached setting.batch_size w s.ground.came) i l.w2 (slot i) (ap shares here ∙ sweep_shares (slot i) o.sweep.stands row) l.happened },
          )
      by (inl (rests, k)) =
          let b = begins_at same hash asks setting slot lawful w c blocks sights calls s i o (s.inside i (OverAll o) has) rests o.sweep.stands is_row k in
          let then = begun.begun_stands same hash asks setting slot lawful w c blocks sights calls s i (s.inside i (OverAll o) has) rests (row_of_sweep (slot i) o.sweep.stands) b.row (OverAll o) has
          (inr (b.row.row_is, is_row, b.knows)) (sweep_row_claims_none o.sweep.stands is_row) in
          let leads = within_row same hash asks setting slot lawful b.row.v c blocks sights calls then i o b.row.now_inside its o.sweep.stands is_row b.row.row_is b.knows in (
            subst (λ (m : Mem (Node K V)). May Can Took value_at m (sweep_plan hash o.sweep)) b.row.memory leads.0,
            λ m2 p2 end st.
                let l = leads.1 m2 (p2, end) (subst (λ (m : Mem (Node K V)). Steps Took value_at m (sweep_plan hash o.sweep) m2 (p2, end)) (sym b.row.memory) st) in
                record {
                  w2 = l.w2;
                  memory = l.memory;
                  happened = inr (b.row.request, b.row.v, b.row.hands, b.row.happened, l.happened);
                  together = l.together;
                  silent = l.silent;
                  comes = l.comes;
                  gives = λ value e. begun.begun_gives same hash asks setting slot lawful w c blocks sights calls s i (s.inside i (OverAll o) has) rests (row_of_sweep (slot i) o.sweep.stands) b.row l.w2 value (l.gives value e);
                  rests = l.rests;
                  slots = begun_leaves (slot i) i w b.row.v l.w2 b.row.alike b.row.on_slot
                      (step_leaves deferred_word setting.batch_size b.row.v (came_reached setting.batch_size b.row.v b.row.ground.came) i l.w2 (slot i) (ap shares b.row.row_is ∙ sweep_shares (slot i) o.sweep.stands is_row) l.happened);
                },
          )
