use Rattle.std.proofs.Common.{rules, ◌<◌, ◌^◌, w64}
use Rattle.std.specs.Prelude.{slice_index_or}
use Rattle.std.specs.Int.{trailing_zeros}
use Rattle.std.proofs.lemmas.Nat.Bits.{bit_at-trailing_zeros}
use Rattle.seize_words.proofs.OneMemory.FreeTrees.{first-behind, node-behind}
use Rattle.seize_words.proofs.free_numbers.flag_behind.Goals as goal

pub returns-then-before-eq0 : goal.returns-then-before-eq0
returns-then-before-eq0 c =
    let word : slice_index_or c.args.nodes.now c.lowest-node.result 0 < 2 ^ 64 = search (rules, c.type_inv.nodes c.lowest-node.result) in
    let z = bit_at-trailing_zeros w64 (slice_index_or c.args.nodes.now c.lowest-node.result 0) c.lowest-node.ensures.some word in
    rw c.if-before-eq0.true
    (first-behind c.args.first c.args.nodes.now c.requires.tree c.lowest-node.result
    (trailing_zeros w64 (slice_index_or c.args.nodes.now c.lowest-node.result 0))
    c.lowest-node.ensures.low c.lowest-node.ensures.within z.0 z.1 z.2 c.lowest-node.ensures.none)

pub returns : goal.returns
returns c =
    node-behind c.args.first c.args.nodes.now c.args.before c.node_behind-node.result.0 c.node_behind-node.result.1 c.bit_behind.result
    c.node_behind-node.ensures.low c.node_behind-node.ensures.within c.bit_behind.ensures.small c.node_behind-node.ensures.rank c.bit_behind.ensures.set
    c.bit_behind.ensures.rank
