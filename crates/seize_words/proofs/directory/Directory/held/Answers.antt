use Rattle.std.proofs.Common.{length, ap, arith}
use Rattle.seize_words.specs.OneMemory.Buckets.{all_in}
use Rattle.seize_words.proofs.OneMemory.DirectoryKept.{free_or_held}
use Rattle.seize_words.proofs.directory.Directory.held.Goals as goal

pub overflow_sub-result : goal.overflow_sub-result
overflow_sub-result g c =
    omega (arith, c.len.ensures, ap length c.self.invariant.kept.are_free, c.self.invariant.counted, free_or_held 1 (all_in c.self.inside.buckets.items))

pub returns : goal.returns
returns g c =
    rw (← c.self.view_is)
    (omega (arith, c.len.ensures, ap length c.self.invariant.kept.are_free, c.self.invariant.counted, free_or_held 1 (all_in c.self.inside.buckets.items)))
