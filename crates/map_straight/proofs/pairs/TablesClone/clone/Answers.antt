-- How many tables are left is no further fact: there is one number of them.
use Rattle.std.proofs.Common.{ap}
use Rattle.map_straight.specs.Shown.Chain.{CountsTables, counts_tables_prop}
use Rattle.map_straight.specs.declared.pairs.Tables.{Tables}
use Rattle.map_straight.proofs.pairs.TablesClone.clone.Goals as goal

pub returns : goal.returns
returns g c =
    let tables = c.args.self.now in
    record {
      cases = ap {B = Tables g.row.K.Denot g.row.V.Denot} (λ (n : CountsTables tables.memory.now tables.link). record { memory = tables.memory; link = tables.link; count = n })
          (counts_tables_prop tables.memory.now tables.link _ tables.count);
    }
