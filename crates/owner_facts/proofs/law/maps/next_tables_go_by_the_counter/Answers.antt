-- The table after the last one has the length by the counter.
use Rattle.owner_facts.proofs.Maps.NextTables.{next_tables_go_by_the_counter}
use Rattle.owner_facts.proofs.law.maps.next_tables_go_by_the_counter.Goals as goal

pub returns : goal.returns
returns c d = record { steps = next_tables_go_by_the_counter _ }
