-- The logarithm that the limit is five times.
use Rattle.std.proofs.Common.{◌-◌, ◌*◌, arith, ap, ◌∙◌, min, sym}
use Rattle.map_tables.proofs.Logarithms.{log-unique}
use Rattle.map_tables.proofs.probe.limit.Goals as goal

pub returns-clause-formula : goal.returns-clause-formula
returns-clause-formula c =
    let bits = log-unique c.args.len c.ilog2.result (omega arith) c.ilog2.ensures.power_le c.ilog2.ensures.next_power_gt in
    c.min.ensures ∙ ap (λ n. min (5 * n) (c.args.len - 1)) (c.from.ensures ∙ sym bits)

pub returns-clause-in_words : goal.returns-clause-in_words
returns-clause-in_words c bits least below =
    let one = log-unique c.args.len c.ilog2.result (omega arith) c.ilog2.ensures.power_le c.ilog2.ensures.next_power_gt in
    let other = log-unique c.args.len bits (omega arith) least below in
    c.min.ensures ∙ ap (λ n. min (5 * n) (c.args.len - 1)) (c.from.ensures ∙ sym one ∙ other)
