use Rattle.std.proofs.Math.Nat.{mod-eq_of_lt}
use Rattle.seize_words.proofs.OneMemory.Places.Buckets.{capacity_fits}
use Rattle.seize_words.proofs.slots.bucket_capacity.Goals as goal

pub returns : goal.returns
returns c = mod-eq_of_lt (capacity_fits c.args.bucket c.requires)
