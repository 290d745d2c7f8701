-- What a probe met changes nothing where the counter says no less.
use Rattle.map_tables.proofs.TableLens.{go_by_the_counter}
use Rattle.map_tables.proofs.lengths.lengths_go_by_the_counter.Goals as goal

pub returns : goal.returns
returns c = go_by_the_counter
