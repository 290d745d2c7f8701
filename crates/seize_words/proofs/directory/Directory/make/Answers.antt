use Rattle.std.proofs.Common.{◌≡◌, ◌<◌, ◌+◌, ◌^◌, length, ap, ◌∙◌, arith}
use Rattle.std.specs.Prelude.{◌%◌, slice_index_or}
use Rattle.seize_words.specs.OneMemory.Mem.{free_from}
use Rattle.seize_words.specs.OneMemory.Buckets.{all_in}
use Rattle.seize_words.proofs.OneMemory.FreeKept.{free_few, reuse_gives}
use Rattle.seize_words.proofs.directory.Directory.make.Goals as goal

pub returns-then-before-count-clause-ok : goal.returns-then-before-count-clause-ok
returns-then-before-count-clause-ok g c =
    let count_is : c.len-count.result ≡ length (free_from 1 c.args.self.now) =
    c.len-count.ensures ∙ ap length c.self.invariant.kept.are_free ∙ ap (λ blocks. length (free_from 1 blocks)) c.self.view_is in
    let few : length c.args.self.now < 2 ^ 53 = rw (← c.self.view_is) c.self.invariant.kept.few in
    let within : c.args.choice % (c.len-count.result + 1) < c.len-count.result = rw c.rank_of-before.ensures at c.if-before-count.true in
    let number : c.reuse.result ≡ slice_index_or (free_from 1 c.args.self.now) (c.args.choice % (c.len-count.result + 1)) c.reuse.result =
    rw c.rank_of-before.ensures at c.reuse.ensures.number in
    let r = reuse_gives c.args.self.now c.args.choice c.len-count.result c.reuse.result c.args.made few count_is within number in
    (r.0, r.1, c.reuse.ensures.after ∙ r.2)

pub rank_of-before-requires : goal.rank_of-before-requires
rank_of-before-requires g c =
    omega (arith, c.len-count.ensures, free_few (all_in c.self.inside.buckets.items) c.self.inside.free c.self.invariant.kept)
