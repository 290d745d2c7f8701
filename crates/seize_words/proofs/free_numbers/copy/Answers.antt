use Rattle.std.proofs.Common.{◌≡◌, length, refl, arith}
use Rattle.seize_words.proofs.OneMemory.FreeGrown.{IsCopied, copied-begins, copied-ends, copied-flags, copied-more}
use Rattle.seize_words.proofs.free_numbers.copy.Goals as goal

pub loop-place-init : goal.loop-place-init
loop-place-init c =
    rw c.requires.empty (copied-begins c.args.first c.args.nodes.now c.requires.tree (length c.args.nodes.now) refl c.requires.full)

pub mend-requires-clause-flags : goal.mend-requires-clause-flags
mend-requires-clause-flags c =
    copied-flags c.args.first c.args.nodes.now c.requires.tree (length c.args.nodes.now) refl c.requires.full c.loop-place.place c.loop-place.more
    c.loop-place.invariant (omega (arith, c.loop-place.auto.place)) (omega (arith, c.loop-place-test.true))

pub loop-place-preserved : goal.loop-place-preserved
loop-place-preserved c =
    copied-more c.args.first c.args.nodes.now c.requires.tree (length c.args.nodes.now) refl c.requires.full c.loop-place.place c.loop-place.more
    c.loop-place.invariant (omega (arith, c.loop-place.auto.place)) (omega (arith, c.loop-place-test.true)) c.mend.new.nodes c.mend.ensures.flags
    c.mend.ensures.length c.mend.ensures.lowest

pub returns-clause-same : goal.returns-clause-same
returns-clause-same c =
    let all : c.loop-place.place ≡ length c.args.nodes.now =
    omega (arith, c.loop-place-test.false, c.loop-place.auto.place-end, c.requires.tree.some) in
    let copied : IsCopied c.args.first (length c.args.nodes.now) c.args.nodes.now (length c.args.nodes.now) c.loop-place.more =
    rw all at c.loop-place.invariant in
    copied-ends c.args.first c.args.nodes.now c.requires.tree (length c.args.nodes.now) refl c.requires.full c.loop-place.more copied
