-- A number is computed from those at lower places.
use Rattle.seq_examples.proofs.memo_table.+fibonacci.Given as goal

abbrev pub decreases-fibonacci : goal.decreases-fibonacci
decreases-fibonacci l = l.n
