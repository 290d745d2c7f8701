use Rattle.std.proofs.Common.{lit<, arith}
use Rattle.seize_tests.proofs.BlocksTests.Roomy.{loads}
use Rattle.seize_tests.proofs.rooming.found.Goals as goal

pub load-first-requires-clause-may : goal.load-first-requires-clause-may
load-first-requires-clause-may c = let k = c.requires.1 in loads c.args.seat.now.id c.args.seat.now.view 31 0 (omega (arith, k)) (lit< tt)

pub load-second-requires-clause-may : goal.load-second-requires-clause-may
load-second-requires-clause-may c = let s = c.load-first.new.seat in let k = c.requires.1 in let g = c.load-first.ensures.goes in
    loads s.id s.view 32 0 (omega (arith, k, g)) (lit< tt)

pub load-requires-clause-may : goal.load-requires-clause-may
load-requires-clause-may c = let s = c.load-second.new.seat in let k = c.requires.1 in let g = c.load-first.ensures.goes in let h = c.load-second.ensures.goes in
    loads s.id s.view 100 1 (omega (arith, k, g, h)) (lit< tt)
