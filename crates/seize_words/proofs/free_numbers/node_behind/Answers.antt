use Rattle.std.proofs.Common.{rules, ◌<◌, ◌≤◌, ◌^◌, count_ones, arith}
use Rattle.std.specs.Prelude.{slice_index_or}
use Rattle.seize_words.proofs.OneMemory.FreeTrees.{scanned-begins, scanned-more}
use Rattle.seize_words.proofs.free_numbers.node_behind.Goals as goal

pub loop-left-init : goal.loop-left-init
loop-left-init c = scanned-begins c.args.first c.args.nodes.now c.args.before c.requires.few

pub loop-left-preserved : goal.loop-left-preserved
loop-left-preserved c =
    let word : slice_index_or c.args.nodes.now c.loop-left.node 0 < 2 ^ 64 = search (rules, c.type_inv.nodes c.loop-left.node) in
    let many : count_ones (slice_index_or c.args.nodes.now c.loop-left.node 0) ≤ c.loop-left.left = omega (arith, c.loop-left-test.true, c.from.ensures) in
    rw c.from-left.ensures
    (scanned-more c.args.first c.args.nodes.now c.args.before c.requires.few c.loop-left.node c.loop-left.left c.loop-left.invariant word many)
