-- A copier that retires a table is in a row of the collector, and its step is one of that row.
use Rattle.std.proofs.Common.{◌≡◌, ℕ, refl, ap, subst}
use Rattle.seize_words.specs.OneMemory.Mem.{Mem, Took, value_at}
use Rattle.seize_words.specs.OneMemory.Plan.{Steps}
use Rattle.seize_acts.proofs.Given.SeizeRuleRows.Leaving.{steps_back}
use Rattle.seize.specs.declared.rows.settle.Settle.{Settle}
use Rattle.seize.specs.declared.rows.settle.Settled.{Settled}
use Rattle.seize.specs.Settle.{settle_plan}
use Rattle.map_tables.specs.Nodes.{deferred_word}
use Rattle.map_tables.specs.declared.node.Node.{Node}
use Rattle.map_tables.specs.declared.table.Table.{Table}
use Rattle.map_machines.specs.Copier.{copier_plan, plan_at as copier_at}
use Rattle.map_machines.specs.CopierPromotes.{retired}
use Rattle.map_machines.specs.CopierStates.{standing}
use Rattle.map_machines.specs.declared.copier.Copier.{Copier}
use Rattle.map_machines.specs.declared.copier.Copying.{Copying}
use Rattle.map_machines.specs.declared.copier.Copying.TheVariants as copies
use Rattle.map_machines.specs.declared.yielding.Yielding.{Yielding}
use Rattle.many_calls.specs.Given.PointsTold.{IsRowOfCopier}

-- the row that it is in
pub in_row : (copier : Copier) → IsRowOfCopier copier.stands → (settle : Settle) × (rest : ℕ) × (copier ≡ standing copier (copies.Retires settle rest))
in_row copier row = by copier.stands refl row
  where
    by : (stands : Copying) → copier.stands ≡ stands → IsRowOfCopier stands → (settle : Settle) × (rest : ℕ) × (copier ≡ standing copier (copies.Retires settle rest))
    by (copies.Retires settle rest) e row = (settle, rest, ap (λ x. standing copier x) e)
    by _ e row = absurd row

pub retires_back : {K V : Type 0} (hash : K → ℕ) (m m2 : Mem (Node K V)) (copier : Copier) (settle : Settle) (rest : ℕ) → copier ≡ standing copier (copies.Retires settle rest)
    → (end : Copier × Yielding (Node K V) Table) → Steps Took value_at m (copier_plan hash copier) m2 end → (inner : Settle × Settled (Node K V)) × (end ≡ retired copier rest inner)
retires_back hash m m2 copier settle rest is end s =
    let t : Steps Took value_at m (copier_at hash copier (copies.Retires settle rest)) m2 end =
    subst (λ (x : Copying). Steps Took value_at m (copier_at hash copier x) m2 end) (ap (λ (x : Copier). x.stands) is) s in
    let b = steps_back (retired copier rest) m m2 (settle_plan deferred_word settle) end t in (b.0, b.2)
