-- The next power of two stays within the bound.
use Rattle.std.proofs.Common.{◌≡◌, ◌/◌, arith, ap}
use Rattle.map_tables.specs.Lengths.{places_for}
use Rattle.map_tables.proofs.Logarithms.{next-power-few, next-power-unique}
use Rattle.map_tables.proofs.lengths.entries_for.Goals as goal

pub returns-in-Some-clause-formula : goal.returns-in-Some-clause-formula
returns-in-Some-clause-formula c =
    let product = c.in-Some.ensures in
    let same : c.in-Some.eighths / 6 ≡ places_for c.args.pairs = ap (λ n. n / 6) product.1 in
    let power = next-power-unique (places_for c.args.pairs) c.next_power_of_two.result c.next_power_of_two.ensures.power.0 (omega (arith, same))
    c.next_power_of_two.ensures.power.1 (omega (arith, same)) (rw same at c.next_power_of_two.ensures.upper_bound) in
    let few = c.if-eighths-le-MOST_LEN.true in
    grind (arith, power, same, few)

pub returns-in-Some-clause-in_words : goal.returns-in-Some-clause-in_words
returns-in-Some-clause-in_words c =
    let product = c.in-Some.ensures in
    let same : c.in-Some.eighths / 6 ≡ places_for c.args.pairs = ap (λ n. n / 6) product.1 in
    let least = rw same at c.next_power_of_two.ensures.upper_bound in
    let few = next-power-few (places_for c.args.pairs) c.next_power_of_two.result c.next_power_of_two.ensures.power.0 (omega (arith, same))
    c.next_power_of_two.ensures.power.1 least in
    ((c.next_power_of_two.ensures.power, omega (arith, same), least), few)
