-- The mask of a power of two is a remainder.
use Rattle.std.proofs.Common.{◌≡◌, ◌-◌, ◌^◌, bit_and, arith, ap, ◌∙◌}
use Rattle.std.proofs.lemmas.Nat.{and_mask}
use Rattle.map_tables.proofs.counter.Counter.get.Goals as goal

pub returns-clause-in_words : goal.returns-clause-in_words
returns-clause-in_words c bits is_power =
    let is_mask : c.args.self.mask ≡ 2 ^ bits - 1 = omega (arith, is_power) in
    ap (λ m. bit_and c.args.slot m) is_mask ∙ and_mask c.args.slot bits
