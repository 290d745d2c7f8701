-- Where no table can follow another one, that one is the last.
use Rattle.map_tables.proofs.Ends.{only_the_last_ends}
use Rattle.map_tables.proofs.lengths.only_the_last_tables_end_a_chain.Goals as goal

pub returns : goal.returns
returns c = only_the_last_ends
