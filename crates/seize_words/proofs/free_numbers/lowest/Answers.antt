use Rattle.std.proofs.Common.{rules, ◌+◌, ◌*◌, ◌<◌, ◌^◌, length, arith}
use Rattle.std.specs.Prelude.{slice_index_or}
use Rattle.seize_words.proofs.OneMemory.FreeTrees.{way-begins, way-ends, way-fits, way-next}
use Rattle.seize_words.proofs.free_numbers.lowest.Goals as goal

pub loop-node-init : goal.loop-node-init
loop-node-init c = (0, way-begins c.args.first c.args.nodes.now c.requires.tree c.requires.some)

pub overflow_mul-node : goal.overflow_mul-node
overflow_mul-node c =
    let word : slice_index_or c.args.nodes.now c.loop-node.node 0 < 2 ^ 64 = search (rules, c.type_inv.nodes c.loop-node.node) in
    let long : length c.args.nodes.now < 2 ^ 64 = search rules in
    let fits = way-fits c.args.first c.args.nodes.now c.requires.tree c.loop-node.invariant.0 c.loop-node.node c.loop-node.invariant.1
    c.loop-node-test.true word in
    record { fits = omega (arith, long, fits) }

pub overflow_add-node : goal.overflow_add-node
overflow_add-node c =
    let word : slice_index_or c.args.nodes.now c.loop-node.node 0 < 2 ^ 64 = search (rules, c.type_inv.nodes c.loop-node.node) in
    let long : length c.args.nodes.now < 2 ^ 64 = search rules in
    let fits = way-fits c.args.first c.args.nodes.now c.requires.tree c.loop-node.invariant.0 c.loop-node.node c.loop-node.invariant.1
    c.loop-node-test.true word in
    record { fits = omega (arith, long, fits) }

pub overflow_add-node-in-loop-node : goal.overflow_add-node-in-loop-node
overflow_add-node-in-loop-node c =
    let word : slice_index_or c.args.nodes.now c.loop-node.node 0 < 2 ^ 64 = search (rules, c.type_inv.nodes c.loop-node.node) in
    let long : length c.args.nodes.now < 2 ^ 64 = search rules in
    let fits = way-fits c.args.first c.args.nodes.now c.requires.tree c.loop-node.invariant.0 c.loop-node.node c.loop-node.invariant.1
    c.loop-node-test.true word in
    record { fits = omega (arith, long, fits) }

pub loop-node-preserved : goal.loop-node-preserved
loop-node-preserved c =
    let word : slice_index_or c.args.nodes.now c.loop-node.node 0 < 2 ^ 64 = search (rules, c.type_inv.nodes c.loop-node.node) in (
      64 * c.loop-node.invariant.0 + 1,
      way-next c.args.first c.args.nodes.now c.requires.tree c.loop-node.invariant.0 c.loop-node.node
          c.loop-node.invariant.1 c.loop-node-test.true word,
    )

pub returns-clause-none : goal.returns-clause-none
returns-clause-none c k past less =
    let row = way-ends c.args.first c.args.nodes.now c.requires.tree c.loop-node.invariant.0 c.loop-node.node c.loop-node.invariant.1 c.loop-node-test.false in
    c.loop-node.invariant.1.none k (omega (arith, past, row)) less
