use Rattle.std.proofs.Common.{◌≡◌, ◌++◌, length}
use Rattle.std.specs.Vec.Iter.{into_iter_items, into_iter_len}
use Rattle.seize_words.specs.OneMemory.Mem.{values_in}
use Rattle.seize_words.proofs.bucket.Bucket.move_values.Given as goal

-- the values so far, and the others are left
abbrev pub invariant-loop-piece : goal.invariant-loop-piece
invariant-loop-piece g l = record {
  values_are : l.values.items ≡ l.initial.values.items ++ values_in l.yielded;
  all : l.yielded ++ into_iter_items l.piece-iterator ≡ l.fn.self;
  counted : length (into_iter_items l.piece-iterator) ≡ into_iter_len l.piece-iterator;
}
