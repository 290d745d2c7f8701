-- A row of the collector within a call leaves the call's number as it is, and its end lowers it.
use Rattle.std.specs.Prelude.{◌==◌, if◌then◌else◌}
use Rattle.std.proofs.Common.{◌≡◌, ℕ, Bool, true, false, cond, ◌⊎◌, inl, inr, refl, ap, sym, subst, ◌∙◌, ◌-◌, arith}
use Rattle.seize_words.specs.OneMemory.Mem.{Mem, Took, value_at}
use Rattle.seize_words.specs.OneMemory.Plan.{Steps}
use Rattle.seize_acts.proofs.Given.SeizeRuleRows.Leaving.{steps_back}
use Rattle.seize.specs.declared.rows.settle.Settle.{Settle}
use Rattle.seize.specs.declared.rows.settle.Settled.{Settled}
use Rattle.seize.specs.declared.rows.settle.Settled.TheVariants as settled
use Rattle.map_tables.specs.declared.node.Node.{Node}
use Rattle.map_tables.specs.declared.table.Table.{Table}
use Rattle.many_calls.specs.Given.RawCall.{disposed, helped, copied, plan_at, call_plan}
use Rattle.many_calls.specs.Given.RawDeclared.machines.answer.KeyAnswer.{KeyAnswer}
use Rattle.many_calls.specs.Given.RawDeclared.machines.answer.Called.{Called}
use Rattle.many_calls.specs.Given.RawDeclared.machines.call.KeyCall.{KeyCall}
use Rattle.many_calls.specs.Given.RawDeclared.machines.call.Calling.{Calling}
use Rattle.many_calls.specs.Given.RawDeclared.machines.call.Calling.TheVariants as at
use Rattle.map_machines.specs.Copier.{copier_plan}
use Rattle.map_machines.specs.CopierPromotes.{retired, table_retired}
use Rattle.map_machines.specs.CopierStates.{standing}
use Rattle.map_machines.specs.Dispose.{dispose_plan}
use Rattle.map_machines.specs.declared.copier.Copier.{Copier}
use Rattle.map_machines.specs.declared.copier.Copying.TheVariants as copies
use Rattle.map_machines.specs.declared.dispose.Dispose.{Dispose}
use Rattle.many_calls.specs.Given.RuleChart.{Chart}
use Rattle.many_calls.specs.Given.RuleWords.{Blocks}
use Rattle.many_calls.specs.Given.PointsMeasures.{IsBelow}
use Rattle.many_calls.specs.Given.PointsMeasuresDisposes.{turn_of}
use Rattle.many_calls.specs.Given.PointsTold.{IsRowOf, IsRowOfCall}
use Rattle.map_measures.specs.Falls.Calls.{one_of_eight, ending, number_at, number_of_call}
use Rattle.map_measures.specs.Falls.Falls.{GoesFurther}
use Rattle.map_measures.proofs.Falls.Copiers.Rows.{in_row, retires_back}
use Rattle.map_measures.proofs.Falls.Within.DisposalRows.{StaysInRow, stays_in_row, none_in_row}

module _ {K V Q : Type 0} (same : K → K → Bool) (hash : K → ℕ) (asks : Q → K → Bool) (p : KeyCall K V Q) (m m2 : Mem (Node K V)) (c : Chart K) (blocks : Blocks) where
  -- it is in the row still, and its number is what it was, or the row is over, and it is lower
  abbrev RowOn : Calling → KeyCall K V Q → Type 0
  RowOn stands p2 =
      ((IsRowOfCall p2.stands) × (number_of_call hash c blocks p2 ≡ number_at hash c blocks p stands))
      ⊎ ((IsRowOfCall p2.stands → ⊥) × IsBelow (number_of_call hash c blocks p2) (number_at hash c blocks p stands))

  abbrev Goal : Calling → KeyCall K V Q × Called (Node K V) → Type 0
  Goal stands end = GoesFurther end.1 → RowOn stands end.0

  disposed_on : (d : Dispose) (answer : KeyAnswer) → IsRowOf d.stands → (inner : Dispose × Settled (Node K V)) → StaysInRow m m2 d inner → Goal (at.Disposes d answer) (disposed p answer inner)
  disposed_on d answer row (next, settled.Goes) stays goes =
      inl (stays tt, ap (λ xs. ending hash c blocks p 3 (one_of_eight xs)) (none_in_row c blocks next (stays tt) ∙ sym (none_in_row c blocks d row)))
  disposed_on d answer row (next, settled.Waits) stays goes = absurd goes
  disposed_on d answer row (next, settled.Gave value) stays goes =
      inl (stays tt, ap (λ xs. ending hash c blocks p 3 (one_of_eight xs)) (none_in_row c blocks next (stays tt) ∙ sym (none_in_row c blocks d row)))
  disposed_on d answer row (next, settled.Done) stays goes = absurd goes

  -- a copier that retires a table: it does so still, or it goes on with the next one
  module _ (copier : Copier) (settle : Settle) (rest : ℕ) where
    helps_over : (goal : Table) → RowOn (at.Helps (standing copier (copies.Retires settle rest)) goal) (record p { stands = at.Helps (table_retired copier rest) goal })
    helps_over goal = by (rest == 0) refl
      where
        by : (b : Bool) → (rest == 0) ≡ b
            → RowOn (at.Helps (standing copier (copies.Retires settle rest)) goal) (record p { stands = at.Helps (if b then standing copier copies.Over else standing copier (copies.Succeeds rest)) goal })
        by true e = inr ((λ row. row), inr (refl, inr (refl, inr (refl, inr (refl, inr (refl, inr (refl, inl (omega arith))))))))
        by false e = inr ((λ row. row), inr (refl, inr (refl, inr (refl, inr (refl, inr (refl, inr (refl, inr (refl, inr (left e, inl (omega arith))))))))))
          where
            left : (rest == 0) ≡ false → copier.target.turn - turn_of blocks rest c.past ≡ cond (rest == 0) 0 (copier.target.turn - turn_of blocks rest c.past)
            left e = ap (λ q. cond q 0 (copier.target.turn - turn_of blocks rest c.past)) (sym e)

    copies_over : RowOn (at.Copies (standing copier (copies.Retires settle rest))) (record p { stands = at.Copies (table_retired copier rest) })
    copies_over = by (rest == 0) refl
      where
        by : (b : Bool) → (rest == 0) ≡ b
            → RowOn (at.Copies (standing copier (copies.Retires settle rest))) (record p { stands = at.Copies (if b then standing copier copies.Over else standing copier (copies.Succeeds rest)) })
        by true e = inr ((λ row. row), inr (refl, inr (refl, inr (refl, inr (refl, inr (refl, inr (refl, inr (refl, inl (omega arith)))))))))
        by false e = inr ((λ row. row), inr (refl, inr (refl, inr (refl, inr (refl, inr (refl, inr (refl, inr (refl, inr (refl, inr (left e, inl (omega arith)))))))))))
          where
            left : (rest == 0) ≡ false → copier.target.turn - turn_of blocks rest c.past ≡ cond (rest == 0) 0 (copier.target.turn - turn_of blocks rest c.past)
            left e = ap (λ q. cond q 0 (copier.target.turn - turn_of blocks rest c.past)) (sym e)

    helps_on : (goal : Table) (inner : Settle × Settled (Node K V)) → Goal (at.Helps (standing copier (copies.Retires settle rest)) goal) (helped p goal (retired copier rest inner))
    helps_on goal (next, settled.Goes) goes = inl (tt, refl)
    helps_on goal (next, settled.Waits) goes = absurd goes
    helps_on goal (next, settled.Gave value) goes = inl (tt, refl)
    helps_on goal (next, settled.Done) goes = helps_over goal

    copies_on : (inner : Settle × Settled (Node K V)) → Goal (at.Copies (standing copier (copies.Retires settle rest))) (copied p (retired copier rest inner))
    copies_on (next, settled.Goes) goes = inl (tt, refl)
    copies_on (next, settled.Waits) goes = absurd goes
    copies_on (next, settled.Gave value) goes = inl (tt, refl)
    copies_on (next, settled.Done) goes = copies_over

  on_at : (stands : Calling) → IsRowOfCall stands → (end : KeyCall K V Q × Called (Node K V)) → Steps Took value_at m (plan_at asks same hash p stands) m2 end → Goal stands end
  on_at (at.Disposes d answer) row end s =
      let b = steps_back (disposed p answer) m m2 (dispose_plan d) end s in
      subst (λ (x : KeyCall K V Q × Called (Node K V)). Goal (at.Disposes d answer) x) (sym b.2) (disposed_on d answer row b.0 (stays_in_row m m2 d row b.0 b.1))
  on_at (at.Helps copier goal) row end s =
      let b = steps_back (helped p goal) m m2 (copier_plan hash copier) end s in
      let r = in_row copier row in
      let inner = retires_back hash m m2 copier r.0 r.1 r.2 b.0 b.1 in
      subst (λ (x : KeyCall K V Q × Called (Node K V)). Goal (at.Helps copier goal) x) (sym (b.2 ∙ ap (helped p goal) inner.1))
      (subst (λ (x : Copier). Goal (at.Helps x goal) (helped p goal (retired copier r.1 inner.0))) (sym r.2) (helps_on copier r.0 r.1 goal inner.0))
  on_at (at.Copies copier) row end s =
      let b = steps_back (copied p) m m2 (copier_plan hash copier) end s in
      let r = in_row copier row in
      let inner = retires_back hash m m2 copier r.0 r.1 r.2 b.0 b.1 in
      subst (λ (x : KeyCall K V Q × Called (Node K V)). Goal (at.Copies copier) x) (sym (b.2 ∙ ap (copied p) inner.1))
      (subst (λ (x : Copier). Goal (at.Copies x) (copied p (retired copier r.1 inner.0))) (sym r.2) (copies_on copier r.0 r.1 inner.0))
  on_at at.Makes row end s = absurd row
  on_at (at.Looks lookup) row end s = absurd row
  on_at at.Roots row end s = absurd row
  on_at at.Probes row end s = absurd row
  on_at (at.Tries word new) row end s = absurd row
  on_at at.Nexts row end s = absurd row
  on_at (at.Firsts making) row end s = absurd row
  on_at (at.Allocs making) row end s = absurd row
  on_at (at.Counts removed) row end s = absurd row
  on_at (at.Asks asking) row end s = absurd row
  on_at (at.Drops over) row end s = absurd row
  on_at (at.Over over) row end s = absurd row

  pub row_on : IsRowOfCall p.stands → (end : KeyCall K V Q × Called (Node K V)) → Steps Took value_at m (call_plan asks same hash p) m2 end → GoesFurther end.1
      → ((IsRowOfCall end.0.stands) × (number_of_call hash c blocks end.0 ≡ number_of_call hash c blocks p))
      ⊎ ((IsRowOfCall end.0.stands → ⊥) × IsBelow (number_of_call hash c blocks end.0) (number_of_call hash c blocks p))
  row_on row end s goes = on_at p.stands row end s goes
