use Rattle.std.proofs.Common.{◌-◌, ◌/◌, ◌%◌, refl, arith}
use Rattle.std.specs.Prelude.{◌≢◌, slice_index_or}
use Rattle.seize_words.specs.OneMemory.FreeNumbers.{flag_of}
use Rattle.seize_words.proofs.OneMemory.FreeTrees.{flag_of-unlike, mended-more}
use Rattle.seize_words.proofs.free_numbers.mend.Goals as goal

pub loop-node-preserved : goal.loop-node-preserved
loop-node-preserved c =
    let differ : flag_of c.loop-node.was ≢ flag_of (slice_index_or c.loop-node.nodes c.loop-node.node 0) =
    flag_of-unlike c.loop-node.was (slice_index_or c.loop-node.nodes c.loop-node.node 0) c.if-was-nodes.false in
    mended-more c.args.first c.args.nodes.now c.loop-node.nodes c.loop-node.node c.loop-node.was c.loop-node.invariant ((c.loop-node.node - 1) / 64)
    ((c.loop-node.node - 1) % 64) c.requires.high (omega (arith, c.loop-node-test.true)) refl refl differ
