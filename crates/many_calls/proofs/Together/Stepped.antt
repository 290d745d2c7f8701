-- Calls of many callers stand together, whoever takes the next step of a row within its call.
use Rattle.std.specs.Prelude.{ℕ, Bool}
use Rattle.std.proofs.Common.{ap, subst, sym, ◌∙◌, inl, inr}
use Rattle.seize_model.specs.Given.SeizeWordsMem.{Mem, Can, Took, value_at}
use Rattle.seize_model.specs.Given.SeizeWordsPlan.{May, Steps}
use Rattle.map_facts_late.specs.Given.TablesNodes.{deferred_word}
use Rattle.map_facts_late.specs.Given.TablesDeclared.node.Node.{Node}
use Rattle.map_facts_late.specs.Given.TablesDeclared.setting.Setting.{Setting}
use Rattle.seize_model.proofs.Given.SeizeRuleRows.Teams.{shares}
use Rattle.map_facts_late.specs.Given.RawCall.{call_plan}
use Rattle.map_facts_late.specs.Given.RawDeclared.machines.answer.Called.{Called}
use Rattle.map_facts_late.specs.Given.RawDeclared.machines.call.KeyCall.{KeyCall}
use Rattle.many_calls.specs.Sights.{seen_by}
use Rattle.many_calls.specs.Together.{OnKey, IsWriter, IsAtPoint, RowStepsTogether, RowsPreserveTheInvariant}
use Rattle.many_calls.specs.Rows.{row_of}
use Rattle.many_calls.proofs.Together.Begun as begun
use Rattle.many_calls.proofs.Together.BeginsRows.{begun_row, begun_together}
use Rattle.many_calls.proofs.Together.Came.{came_reached}
use Rattle.many_calls.proofs.Together.Slots.{step_leaves, begun_leaves, call_shares}
use Rattle.many_calls.proofs.Together.Few.{row_writes}
use Rattle.many_calls.proofs.Together.WithinRows.{within_row}

module _ {K V Q : Type 0} (same : K → K → Bool) (hash : K → ℕ) (asks : Q → K → Bool) (setting : Setting) (slot : ℕ → ℕ) where
  pub rows_stand_together : RowsPreserveTheInvariant V same hash asks setting slot
  rows_stand_together lawful w c blocks sights calls s i u has is_row = by (s.stand i (OnKey u) has)
    where
      its : IsWriter calls i
      its = (OnKey u, has, row_writes u.call.stands is_row)

      by : IsAtPoint V same hash asks setting slot w c (seen_by blocks (sights (slot i))) i (OnKey u)
          → May Can Took value_at w.memory (call_plan asks same hash u.call)
          × ((m2 : Mem (Node K V)) (p2 : KeyCall K V Q) (progress : Called (Node K V)) → Steps Took value_at w.memory (call_plan asks same hash u.call) m2 (p2, progress)
          → RowStepsTogether V same hash asks setting slot w c blocks sights calls i u m2 p2 progress)
      by (inr (here, row, k)) =
          let leads = within_row same hash asks setting slot lawful w c blocks sights calls s i u (s.inside i (OnKey u) has) its u.call.stands row here k in (
            leads.0,
            λ m2 p2 progress st. let l = leads.1 m2 (p2, progress) st in record { w2 = l.w2; memory = l.memory; happened = inl l.happened; together = l.together; answers = l.answers; refuses = l.refuses; hands = l.hands; gives = l.gives; rests = l.rests; slots = step_leaves deferred_word setting.batch_size w (came_reached setting.batch_size w s.ground.came) i l.w2 (slot i) (ap shares here ∙ call_shares (slot i) u.call.stands row) l.happened },
          )
      by (inl (rests, k)) =
          let b = begun_row same hash asks setting slot lawful w c blocks sights calls s i u (s.inside i (OnKey u) has) rests has is_row k in
          let then = begun_together same hash asks setting slot lawful w c blocks sights calls s i u (s.inside i (OnKey u) has) rests has is_row k in
          let leads = within_row same hash asks setting slot lawful b.row.v c blocks sights calls then i u b.row.now_inside its u.call.stands is_row b.row.row_is b.knows in (
            subst (λ (m : Mem (Node K V)). May Can Took value_at m (call_plan asks same hash u.call)) b.row.memory leads.0,
            λ m2 p2 progress st.
                let l = leads.1 m2 (p2, progress) (subst (λ (m : Mem (Node K V)). Steps Took value_at m (call_plan asks same hash u.call) m2 (p2, progress)) (sym b.row.memory) st) in
                record { w2 = l.w2; memory = l.memory; happened = inr (b.row.request, b.row.v, b.row.hands, b.row.happened, l.happened); together = l.together; answers = l.answers; refuses = l.refuses; hands = l.hands; gives = λ value e. begun.begun_gives same hash asks setting slot lawful w c blocks sights calls s i (s.inside i (OnKey u) has) rests (row_of (slot i) u.call.stands) b.row l.w2 value (l.gives value e); rests = l.rests; slots = begun_leaves (slot i) i w b.row.v l.w2 b.row.alike b.row.on_slot (step_leaves deferred_word setting.batch_size b.row.v (came_reached setting.batch_size b.row.v b.row.ground.came) i l.w2 (slot i) (ap shares b.row.row_is ∙ call_shares (slot i) u.call.stands is_row) l.happened) },
          )
