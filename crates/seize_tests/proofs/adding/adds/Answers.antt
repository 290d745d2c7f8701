use Rattle.std.proofs.Common.{lit<, ◌∙◌}
use Rattle.seize_tests.proofs.BlocksTests.Threes.{adds}
use Rattle.seize_tests.proofs.adding.adds.Goals as goal

pub add-requires-clause-may : goal.add-requires-clause-may
add-requires-clause-may c = adds c.loop.seat.id c.loop.seat.view c.args.block 0 c.loop.invariant.1 c.requires.2 (lit< tt) 1

pub add-requires-in-loop-clause-may : goal.add-requires-in-loop-clause-may
add-requires-in-loop-clause-may c = let s = c.add.new.seat in
    adds s.id s.view c.args.block 1 (c.add.ensures.goes ∙ c.loop.invariant.1) c.requires.2 (lit< tt) 2

pub add-requires-in-loop-2-clause-may : goal.add-requires-in-loop-2-clause-may
add-requires-in-loop-2-clause-may c = let s = c.add-in-loop.new.seat in
    adds s.id s.view c.args.block 2 (c.add-in-loop.ensures.goes ∙ c.add.ensures.goes ∙ c.loop.invariant.1) c.requires.2 (lit< tt) 3
