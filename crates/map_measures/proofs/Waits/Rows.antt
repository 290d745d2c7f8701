-- A row of the collector within a call waits only while another row has the batch of its slot in hand.
use Rattle.std.proofs.Common.{◌≡◌, ℕ, ◌⊎◌, refl, ap, sym, ◌∙◌}
use Rattle.seize_words.specs.OneMemory.Mem.{Mem, Took, value_at}
use Rattle.seize_words.specs.OneMemory.Plan.{Steps}
use Rattle.seize_acts.proofs.Given.SeizeRuleRows.Leaving.{steps_back}
use Rattle.seize.specs.Defer.{defer_plan}
use Rattle.seize.specs.Settle.{settle_plan}
use Rattle.seize.specs.World.{World, Row, Rests, Settles}
use Rattle.seize.specs.declared.advance.Advance.{Advance}
use Rattle.seize.specs.declared.advance.Advance.TheVariants as progress
use Rattle.seize.specs.declared.rows.defer.Defer.{Defer}
use Rattle.seize.specs.declared.rows.settle.Settle.{Settle}
use Rattle.seize.specs.declared.rows.settle.Settled.{Settled}
use Rattle.seize.specs.declared.rows.settle.Settled.TheVariants as settled
use Rattle.seize_acts.proofs.Acts.Waits.{settling_waits_for_a_holder, deferring_never_waits}
use Rattle.map_tables.specs.Nodes.{deferred_word}
use Rattle.map_tables.specs.declared.node.Node.{Node}
use Rattle.map_tables.specs.declared.table.Table.{Table}
use Rattle.map_machines.specs.Copier.{copier_plan, plan_at as copier_at}
use Rattle.map_machines.specs.CopierPromotes.{retired}
use Rattle.map_machines.specs.Dispose.{dispose_plan, plan_at as dispose_at, settled as settled_on, deferred as deferred_on}
use Rattle.map_machines.specs.declared.copier.Copier.{Copier}
use Rattle.map_machines.specs.declared.copier.Copying.{Copying as Point}
use Rattle.map_machines.specs.declared.copier.Copying.TheVariants as copies
use Rattle.map_machines.specs.declared.dispose.Dispose.{Dispose}
use Rattle.map_machines.specs.declared.dispose.Disposing.{Disposing}
use Rattle.map_machines.specs.declared.dispose.Disposing.TheVariants as disposes
use Rattle.map_machines.specs.declared.yielding.Yielding.{Yielding}
use Rattle.map_machines.specs.declared.yielding.Yielding.TheVariants as outcome
use Rattle.many_calls.specs.Given.PointsTold.{IsRowOf, IsRowOfCopier}
use Rattle.many_calls.specs.Rows.{row_of_disposal, row_of_copier}
use Rattle.many_calls.specs.Together.{CameAbout}
use Rattle.map_measures.specs.Waits.Waits.{AnotherHolds}

module _ {K V : Type 0} (hash : K → ℕ) (batch_size : ℕ) (w : World (Node K V)) (came : CameAbout batch_size w) (i slot : ℕ) (m2 : Mem (Node K V)) where
  -- this row is under way, or about to begin
  abbrev pub IsAt : Row → Type 0
  IsAt row = (w.row i ≡ Rests) ⊎ (w.row i ≡ row)

  -- a row that retires a block
  settling : (settle : Settle) (to : Settle × Settled (Node K V)) → IsAt (Settles settle)
      → Steps Took value_at w.memory (settle_plan deferred_word settle) m2 to → to.1 ≡ settled.Waits
      → AnotherHolds w i (Settles settle)
  settling settle (next, settled.Waits) row s e =
      (settle.slot, refl, settling_waits_for_a_holder deferred_word batch_size came.0 came.1 w came.2 i settle next m2 row s)
  settling settle (next, settled.Goes) row s e = absurd (cc e)
  settling settle (next, settled.Gave value) row s e = absurd (cc e)
  settling settle (next, settled.Done) row s e = absurd (cc e)

  -- a disposal
  module _ (d : Dispose) where
    settled_waits : (settle : Settle) (to : Settle × Settled (Node K V)) → (settled_on {T = Node K V} d to).1 ≡ settled.Waits → to.1 ≡ settled.Waits
    settled_waits settle (next, settled.Goes) e = absurd (cc e)
    settled_waits settle (next, settled.Waits) e = refl
    settled_waits settle (next, settled.Gave value) e = absurd (cc e)
    settled_waits settle (next, settled.Done) e = absurd (cc e)

    never_defers : (defer : Defer) (to : Defer × Advance Unit) → Steps Took value_at w.memory (defer_plan defer) m2 to
        → (deferred_on {T = Node K V} d to).1 ≡ settled.Waits → ⊥
    never_defers defer (next, progress.Goes) s e = cc e
    never_defers defer (next, progress.Waits) s e = deferring_never_waits deferred_word defer next w.memory m2 s
    never_defers defer (next, progress.Done end) s e = cc e
    never_defers defer (next, progress.Refused fault) s e = cc e

    dispose_waits : (stands : Disposing) → IsRowOf stands → IsAt (row_of_disposal slot stands) → (end : Dispose × Settled (Node K V))
        → Steps Took value_at w.memory (dispose_at d stands) m2 end → end.1 ≡ settled.Waits → AnotherHolds w i (row_of_disposal slot stands)
    dispose_waits (disposes.Settles settle) row at_row end s e =
        let b = steps_back (settled_on d) w.memory m2 (settle_plan deferred_word settle) end s in
        settling settle b.0 at_row b.1 (settled_waits settle b.0 (ap (λ (x : Dispose × Settled (Node K V)). x.1) (sym b.2) ∙ e))
    dispose_waits (disposes.Defers defer) row at_row end s e =
        let b = steps_back (deferred_on d) w.memory m2 (defer_plan defer) end s in
        absurd (never_defers defer b.0 b.1 (ap (λ (x : Dispose × Settled (Node K V)). x.1) (sym b.2) ∙ e))
    dispose_waits _ row at_row end s e = absurd row

    pub disposal_waits : IsRowOf d.stands → IsAt (row_of_disposal slot d.stands) → (end : Dispose × Settled (Node K V))
        → Steps Took value_at w.memory (dispose_plan d) m2 end → end.1 ≡ settled.Waits
        → AnotherHolds w i (row_of_disposal slot d.stands)
    disposal_waits row at_row end s e = dispose_waits d.stands row at_row end s e

  -- a copier that retires a table
  module _ (p : Copier) where
    retired_waits : (rest : ℕ) (to : Settle × Settled (Node K V)) → (retired p rest to).1 ≡ outcome.Waits → to.1 ≡ settled.Waits
    retired_waits rest (next, settled.Goes) e = absurd (cc e)
    retired_waits rest (next, settled.Waits) e = refl
    retired_waits rest (next, settled.Gave value) e = absurd (cc e)
    retired_waits rest (next, settled.Done) e = absurd (cc e)

    copier_at_waits : (stands : Point) → IsRowOfCopier stands → IsAt (row_of_copier stands) → (end : Copier × Yielding (Node K V) Table)
        → Steps Took value_at w.memory (copier_at hash p stands) m2 end
        → end.1 ≡ outcome.Waits → AnotherHolds w i (row_of_copier stands)
    copier_at_waits (copies.Retires settle rest) row at_row end s e =
        let b = steps_back (retired p rest) w.memory m2 (settle_plan deferred_word settle) end s in
        settling settle b.0 at_row b.1 (retired_waits rest b.0 (ap (λ (x : Copier × Yielding (Node K V) Table). x.1) (sym b.2) ∙ e))
    copier_at_waits _ row at_row end s e = absurd row

    pub copier_row_waits : IsRowOfCopier p.stands → IsAt (row_of_copier p.stands) → (end : Copier × Yielding (Node K V) Table)
        → Steps Took value_at w.memory (copier_plan hash p) m2 end
        → end.1 ≡ outcome.Waits → AnotherHolds w i (row_of_copier p.stands)
    copier_row_waits row at_row end s e = copier_at_waits p.stands row at_row end s e
