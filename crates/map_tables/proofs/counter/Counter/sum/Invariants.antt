-- The words added so far.
use Rattle.std.proofs.Common.{◌≡◌, ◌%◌, ◌^◌, take, sum}
use Rattle.map_tables.proofs.counter.Counter.sum.Given as goal

abbrev pub invariant-loop-word : goal.invariant-loop-word
invariant-loop-word l = l.total ≡ sum (take l.word-index l.words) % 2 ^ 64
