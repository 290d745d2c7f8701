use Rattle.std.proofs.Common.{rules, ◌<◌, ◌≤◌, ◌^◌}
use Rattle.std.specs.Int.{bit_at}
use Rattle.std.proofs.lemmas.Nat.Bits.{shr_and_one}
use Rattle.seize_words.proofs.OneMemory.FreeTrees.{sought-more}
use Rattle.seize_words.proofs.free_numbers.bit_behind.Goals as goal

pub loop-bit-preserved : goal.loop-bit-preserved
loop-bit-preserved c =
    let fits : c.args.word < 2 ^ 64 = search rules in
    let many : bit_at c.args.word c.loop-bit.bit ≤ c.loop-bit.left = rw (shr_and_one c.args.word c.loop-bit.bit) at c.loop-bit-test.true in
    rw (shr_and_one c.args.word c.loop-bit.bit)
    (sought-more c.args.word c.args.before fits c.requires c.loop-bit.bit c.loop-bit.left c.loop-bit.invariant many)
