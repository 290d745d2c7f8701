use Rattle.std.proofs.Common.{lit<, ◌∙◌}
use Rattle.seize_tests.proofs.BlocksTests.Threes.{loads}
use Rattle.seize_tests.proofs.adding.found.Goals as goal

pub load-first-requires-clause-may : goal.load-first-requires-clause-may
load-first-requires-clause-may c = loads c.args.seat.now.id c.args.seat.now.view c.args.block 0 c.requires.1 c.requires.2 (lit< tt)

pub load-second-requires-clause-may : goal.load-second-requires-clause-may
load-second-requires-clause-may c = let s = c.load-first.new.seat in
    loads s.id s.view c.args.block 1 (c.load-first.ensures.goes ∙ c.requires.1) c.requires.2 (lit< tt)

pub load-requires-clause-may : goal.load-requires-clause-may
load-requires-clause-may c = let s = c.load-second.new.seat in
    loads s.id s.view c.args.block 2 (c.load-second.ensures.goes ∙ c.load-first.ensures.goes ∙ c.requires.1) c.requires.2 (lit< tt)
