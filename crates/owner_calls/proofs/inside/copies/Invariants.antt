-- The steps so far have led to the present one.
use Rattle.std.proofs.Common.{◌≡◌}
use Rattle.map_tables.specs.declared.table.Table.{Table}
use Rattle.owner_whole.specs.Strides.Ending.{Leads}
use Rattle.owner_calls.specs.Owned.Inside.{helping}
use Rattle.owner_calls.specs.Owned.Machines.{on_key_plan}
use Rattle.owner_calls.specs.declared.machines.OnKey.{OnKey}
use Rattle.owner_calls.proofs.inside.copies.Given as goal

abbrev pub invariant-loop : goal.invariant-loop
invariant-loop g l = record {
  leads : (u : OnKey g.row.K.Denot g.row.V.Denot g.row.Q.Denot g.row.S.Denot) (goal : Table) → u.hasher.now ≡ l.hasher
      → Leads (on_key_plan g.Q.Equivalent.equivalent g.K.PartialEq.eq g.S.Hashes.hash) (helping u goal l.fn.copier) l.fn.memory (helping u goal l.copier) l.memory;
}
