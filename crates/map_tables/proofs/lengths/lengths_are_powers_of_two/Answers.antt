-- Lengths of tables are powers of two within their bounds.
use Rattle.map_tables.proofs.TableLens.{have_table_lens}
use Rattle.map_tables.proofs.lengths.lengths_are_powers_of_two.Goals as goal

pub returns : goal.returns
returns c = have_table_lens
