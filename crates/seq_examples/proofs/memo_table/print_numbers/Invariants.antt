-- The memo is right before each line.
use Rattle.seq_examples.specs.Fibonacci.{AreRight}
use Rattle.seq_examples.proofs.memo_table.print_numbers.Given as goal

abbrev pub invariant-loop-line : goal.invariant-loop-line
invariant-loop-line g l = AreRight l.memo.pairs
