use Rattle.std.proofs.Common.{◌+◌, arith}
use Rattle.seize_words.proofs.OneMemory.Places.Buckets.{five_le_digits, is_place}
use Rattle.seize_words.proofs.slots.place_of.Goals as goal

pub overflow_sub-result : goal.overflow_sub-result
overflow_sub-result c =
    let five = five_le_digits c.ilog2-digits.result (c.args.slot + 32) (omega arith) c.ilog2-digits.ensures.next_power_gt in
    omega (arith, five)

pub returns-clause-place : goal.returns-clause-place
returns-clause-place c =
    is_place c.args.slot c.ilog2-digits.result c.from.result c.ilog2-digits.ensures.bound c.ilog2-digits.ensures.power_le
    c.ilog2-digits.ensures.next_power_gt c.from.ensures
