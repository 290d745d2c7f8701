-- A disposal whose row is under way stays in it while it goes on, and its number is zero.
use Rattle.std.proofs.Common.{◌≡◌, [], ◌∷◌, refl, sym, subst}
use Rattle.seize_words.specs.OneMemory.Mem.{Mem, Took, value_at}
use Rattle.seize_words.specs.OneMemory.Plan.{Steps}
use Rattle.seize_acts.proofs.Given.SeizeRuleRows.Leaving.{steps_back}
use Rattle.seize.specs.declared.advance.Advance.{Advance}
use Rattle.seize.specs.declared.advance.Advance.TheVariants as progress
use Rattle.seize.specs.declared.rows.defer.Defer.{Defer}
use Rattle.seize.specs.declared.rows.settle.Settle.{Settle}
use Rattle.seize.specs.declared.rows.settle.Settled.{Settled}
use Rattle.seize.specs.declared.rows.settle.Settled.TheVariants as settled
use Rattle.seize.specs.Settle.{settle_plan}
use Rattle.seize.specs.Defer.{defer_plan}
use Rattle.map_tables.specs.Nodes.{deferred_word}
use Rattle.map_tables.specs.declared.node.Node.{Node}
use Rattle.map_machines.specs.Dispose.{settled as settled_on, deferred as deferred_on, dispose_plan, plan_at}
use Rattle.map_machines.specs.declared.dispose.Dispose.{Dispose}
use Rattle.map_machines.specs.declared.dispose.Disposing.{Disposing}
use Rattle.map_machines.specs.declared.dispose.Disposing.TheVariants as at
use Rattle.many_calls.specs.Given.RuleChart.{Chart}
use Rattle.many_calls.specs.Given.RuleWords.{Blocks}
use Rattle.many_calls.specs.Given.PointsMeasuresDisposes.{number_at_disposing, number_of_dispose}
use Rattle.many_calls.specs.Given.PointsTold.{IsRowOf}

-- what a row tells that goes on, and may have handed out what it reclaimed
abbrev pub RowGoesFurther : {T : Type 0} → Settled T → Type 0
RowGoesFurther settled.Goes = Unit {0}
RowGoesFurther (settled.Gave value) = Unit {0}
RowGoesFurther _ = ⊥

module _ {K V : Type 0} (m m2 : Mem (Node K V)) (d : Dispose) where
  -- where it goes on, it is in the row
  abbrev pub StaysInRow : Dispose × Settled (Node K V) → Type 0
  StaysInRow end = RowGoesFurther end.1 → IsRowOf end.0.stands

  settles_on : (inner : Settle × Settled (Node K V)) → StaysInRow (settled_on d inner)
  settles_on (next, settled.Goes) goes = tt
  settles_on (next, settled.Waits) goes = absurd goes
  settles_on (next, settled.Gave value) goes = tt
  settles_on (next, settled.Done) goes = absurd goes

  defers_on : (inner : Defer × Advance Unit) → StaysInRow (deferred_on d inner)
  defers_on (next, progress.Goes) goes = tt
  defers_on (next, progress.Waits) goes = absurd goes
  defers_on (next, progress.Done end) goes = absurd goes
  defers_on (next, progress.Refused fault) goes = absurd goes

  stays_at : (stands : Disposing) → IsRowOf stands → (end : Dispose × Settled (Node K V)) → Steps Took value_at m (plan_at d stands) m2 end → StaysInRow end
  stays_at (at.Settles settle) row end s =
      let b = steps_back (settled_on d) m m2 (settle_plan deferred_word settle) end s in
      subst (λ (x : Dispose × Settled (Node K V)). StaysInRow x) (sym b.2) (settles_on b.0)
  stays_at (at.Defers defer) row end s =
      let b = steps_back (deferred_on d) m m2 (defer_plan defer) end s in subst (λ (x : Dispose × Settled (Node K V)). StaysInRow x) (sym b.2) (defers_on b.0)
  stays_at _ row end s = absurd row

  pub stays_in_row : IsRowOf d.stands → (end : Dispose × Settled (Node K V)) → Steps Took value_at m (dispose_plan d) m2 end → StaysInRow end
  stays_in_row row end s = stays_at d.stands row end s

pub none_in_row : {K : Type 0} (c : Chart K) (blocks : Blocks) (d : Dispose) → IsRowOf d.stands → number_of_dispose c blocks d ≡ 0 ∷ []
none_in_row c blocks d row = by d.stands row
  where
    by : (stands : Disposing) → IsRowOf stands → number_at_disposing c blocks d.table.turn stands ≡ 0 ∷ []
    by (at.Settles settle) row = refl
    by (at.Defers defer) row = refl
    by at.Reads row = absurd row
    by (at.Walks link) row = absurd row
    by at.Over row = absurd row
