-- Each step of a row within a call lowers what is left to the row, or the numbers of the call.
use Rattle.std.specs.Prelude.{◌≡◌, ℕ, ◌<◌, Bool, [], ◌∷◌, ◌++◌}
use Rattle.std.proofs.Common.{List, inl, inr, refl, ap, sym, subst, ◌∙◌, arith}
use Rattle.seize_words.specs.OneMemory.Mem.{Mem, Took, value_at}
use Rattle.seize_words.specs.OneMemory.Plan.{Steps}
use Rattle.seize.specs.World.{World, Row, Settles, Defers}
use Rattle.map_tables.specs.declared.node.Node.{Node}
use Rattle.map_tables.specs.declared.setting.Setting.{Setting}
use Rattle.papaya_raw.specs.Call.{call_plan}
use Rattle.papaya_raw.specs.declared.machines.answer.Called.{Called}
use Rattle.papaya_raw.specs.declared.machines.answer.Called.TheVariants as called
use Rattle.papaya_raw.specs.declared.machines.call.KeyCall.{KeyCall}
use Rattle.map_measures.specs.Given.RuleChart.{Chart}
use Rattle.map_measures.specs.Given.RuleWords.{Blocks}
use Rattle.map_measures.specs.Given.PointsMeasures.{IsBelow}
use Rattle.owner_facts.specs.Given.PointsSteps.{AreLawful}
use Rattle.owner_facts.specs.Given.PointsTold.{IsRowOfCall}
use Rattle.map_measures.specs.Falls.Calls.{number_of_call}
use Rattle.map_measures.proofs.Falls.Laws.{rows_fall}
use Rattle.map_measures.specs.Given.CallersRows.{row_of}
use Rattle.owner_facts.specs.Given.CallersSights.{Visible, seen_by}
use Rattle.owner_facts.specs.Given.CallersTogether.{CallOnKey, OnKey}
use Rattle.owner_whole.specs.Whole.Owner.{IsAlone}
use Rattle.owner_whole.specs.Whole.Whole.{Continues}
use Rattle.owner_whole.proofs.Whole.Keys.Falls.{row_left, number_all, lower_last}
use Rattle.owner_whole.proofs.Whole.Rows.Account.{Account, Settling, Deferring, Over, Ends, account}
use Rattle.owner_whole.proofs.Whole.Rows.Settles.{settling_lowers, deferring_lowers}
use Rattle.owner_whole.proofs.Whole.Rows.Steps as rows
use Rattle.owner_whole.proofs.Whole.Rows.Within.{IsWithinRow}
use Rattle.map_measures.proofs.Falls.Below.{below_followed as lower_more}

module _ {K V Q : Type 0} (same : K → K → Bool) (hash : K → ℕ) (asks : Q → K → Bool) (setting : Setting) (slot : ℕ → ℕ) (lawful : AreLawful same hash)
    (w : World (Node K V)) (c : Chart K) (blocks : Blocks) (sights : ℕ → Visible) (u : CallOnKey K V Q) (a : IsAlone same hash asks setting slot w c blocks sights (OnKey u))
    (is_row : IsRowOfCall u.call.stands) (m2 : Mem (Node K V)) (p2 : KeyCall K V Q) (progress : Called (Node K V))
    (steps : Steps Took value_at w.memory (call_plan asks same hash u.call) m2 (p2, progress)) where
  abbrev seen : Blocks
  seen = seen_by blocks (sights (slot 0))

  abbrev now : IsWithinRow same hash asks setting slot lawful w c blocks sights u a is_row
  now = rows.now same hash asks setting slot lawful w c blocks sights u a is_row

  abbrev Lower : KeyCall K V Q → Type 0
  Lower q = IsBelow (number_all hash (slot 0) c seen q m2) (number_all hash (slot 0) c seen u.call w.memory)

  -- less is left to the row
  still_lower : (q : KeyCall K V Q) → number_of_call hash c seen q ≡ number_of_call hash c seen u.call
      → row_left (row_of (slot 0) q.stands) m2 < row_left (row_of (slot 0) u.call.stands) w.memory → Lower q
  still_lower q number less =
      subst (λ (xs : List ℕ). IsBelow (xs ++ (row_left (row_of (slot 0) q.stands) m2 ∷ [])) (number_all hash (slot 0) c seen u.call w.memory)) (sym number)
      (lower_last (number_of_call hash c seen u.call) (row_left (row_of (slot 0) q.stands) m2) (row_left (row_of (slot 0) u.call.stands) w.memory) less)

  left_before : (x : Row) → row_of (slot 0) u.call.stands ≡ x → row_left x now.v.memory ≡ row_left (row_of (slot 0) u.call.stands) w.memory
  left_before x is = ap (row_left x) now.memory ∙ ap (λ (y : Row). row_left y w.memory) (sym is)

  by_account : (end : KeyCall K V Q × Called (Node K V)) → end ≡ (p2, progress) → Continues progress → Account same hash asks (slot 0) u.call now.v.memory m2 end → Lower end.0
  by_account end is more (Settling x y o _ row st going tells row2 s) =
      let less = settling_lowers setting.batch_size now.v now.together.ground.came 0 now.rows x (now.row_is ∙ row) m2 y o st going in
      let was = left_before (Settles x) row in
      let then = ap (λ (z : Row). row_left {K = K} {V = V} z m2) row2 in
      still_lower end.0 (s.number c seen) (omega (arith, less, was, then))
  by_account end is more (Deferring x y o _ row st not_done goes row2 s) =
      let was = left_before (Defers (slot 0) x) row in
      let then = ap (λ (z : Row). row_left {K = K} {V = V} z m2) row2 in
      elim (deferring_lowers setting.batch_size now.v now.together.ground.came 0 now.rows (slot 0) x (now.row_is ∙ row) m2 (y, o) st) as (λ _. Lower end.0) [
        | inl on ↦ (let less = on.1 in still_lower end.0 (s.number c seen) (omega (arith, less, was, then)))
        | inr done ↦ absurd (not_done done)
      ]
  by_account end is more (Over _ tells none past alone) =
      let goes : (p2, progress) ≡ (end.0, called.Goes) = sym is ∙ ap (λ (x : Called (Node K V)). (end.0, x)) tells in
      elim (rows_fall V same hash asks u.call is_row w.memory m2 (end.0, called.Goes)
      (subst (λ (e : KeyCall K V Q × Called (Node K V)). Steps Took value_at w.memory (call_plan asks same hash u.call) m2 e) goes steps) tt c seen)
      as (λ _. Lower end.0) [
        | inl same_row ↦ absurd (none same_row.0)
        | inr fallen ↦ lower_more (number_of_call hash c seen end.0) (number_of_call hash c seen u.call) _ _ fallen.1
      ]
  by_account end is more (Ends answer _ tells none same_count tables) =
      absurd (subst Continues (sym (ap (λ (e : KeyCall K V Q × Called (Node K V)). e.1) is) ∙ tells) more)

  pub row_falls : Continues progress → Lower p2
  row_falls more = by_account (p2, progress) refl more (account same hash asks (slot 0) u.call now.v.memory m2 is_row (p2, progress)
      (rows.steps_now same hash asks setting slot lawful w c blocks sights u a is_row m2 p2 progress steps))
