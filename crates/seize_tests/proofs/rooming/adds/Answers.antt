use Rattle.std.proofs.Common.{lit<, arith}
use Rattle.seize_tests.proofs.BlocksTests.Roomy.{adds}
use Rattle.seize_tests.proofs.rooming.adds.Goals as goal

pub add-requires-clause-may : goal.add-requires-clause-may
add-requires-clause-may c = let k = c.loop.invariant.1 in adds c.loop.seat.id c.loop.seat.view 31 0 (omega (arith, k)) (lit< tt) 1

pub add-requires-in-loop-clause-may : goal.add-requires-in-loop-clause-may
add-requires-in-loop-clause-may c = let s = c.add.new.seat in let k = c.loop.invariant.1 in let g = c.add.ensures.goes in
    adds s.id s.view 32 0 (omega (arith, k, g)) (lit< tt) 2

pub add-requires-in-loop-2-clause-may : goal.add-requires-in-loop-2-clause-may
add-requires-in-loop-2-clause-may c = let s = c.add-in-loop.new.seat in let k = c.loop.invariant.1 in let g = c.add.ensures.goes in let h = c.add-in-loop.ensures.goes in
    adds s.id s.view 100 1 (omega (arith, k, g, h)) (lit< tt) 3
