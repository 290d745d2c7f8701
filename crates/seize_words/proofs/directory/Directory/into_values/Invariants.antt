use Rattle.std.proofs.Common.{◌≡◌, ◌++◌, length}
use Rattle.std.specs.Vec.Iter.{into_iter_items, into_iter_len}
use Rattle.seize_words.specs.OneMemory.Buckets.{all_in}
use Rattle.seize_words.specs.OneMemory.Mem.{values_in}
use Rattle.seize_words.proofs.directory.Directory.into_values.Given as goal

-- the values so far, and the other buckets are left
abbrev pub invariant-loop-bucket : goal.invariant-loop-bucket
invariant-loop-bucket g l = record {
  values_are : l.values.items ≡ values_in (all_in l.yielded);
  all : l.yielded ++ into_iter_items l.bucket-iterator ≡ l.self-inside.buckets.items;
  counted : length (into_iter_items l.bucket-iterator) ≡ into_iter_len l.bucket-iterator;
}
