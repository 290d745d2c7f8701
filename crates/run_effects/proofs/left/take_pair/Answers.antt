-- A pair is taken out of its block.
use Rattle.std.proofs.Common.{◌∙◌, ap, sym}
use Rattle.run_schedules.specs.Given.SeizeWordsMem.{value_at}
use Rattle.run_effects.proofs.Tallies.Taken.{may_take, others_stay, pair_taken}
use Rattle.run_effects.proofs.left.take_pair.Goals as goal

pub take-requires : goal.take-requires
take-requires g c = let r = c.requires in may_take c.args.memory.now c.args.block r.0 r.1 r.2

pub unreachable-requires : goal.unreachable-requires
unreachable-requires g c = let r = c.requires in c.in_default.not-Pair r.0 r.1 (pair_taken c.args.memory.now c.take.new.self c.args.block r.0 r.1 r.2 c.take.result c.take.ensures)

pub returns-clause-pair : goal.returns-clause-pair
returns-clause-pair g c = λ k v is. let same = sym c.in-Pair.is ∙ pair_taken c.args.memory.now c.take.new.self c.args.block k v is c.take.result c.take.ensures in cc same

pub returns-clause-others : goal.returns-clause-others
returns-clause-others g c = λ b other. let r = c.requires in
    ap (λ x. value_at x b) c.take.ensures.1 ∙ others_stay c.args.memory.now c.args.block (may_take c.args.memory.now c.args.block r.0 r.1 r.2) b other
