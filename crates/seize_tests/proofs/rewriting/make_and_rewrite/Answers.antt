use Rattle.std.proofs.Common.{◌+◌, ◌%◌, ◌^◌}
use Rattle.seize_tests.proofs.BlocksTests.Owners.{makes, owns, rewrites, shows, takes}
use Rattle.seize_tests.proofs.rewriting.make_and_rewrite.Goals as goal

pub make-requires-clause-may : goal.make-requires-clause-may
make-requires-clause-may c = makes c.loop-turn.seat.id ((c.args.from + c.loop-turn.turn) % 2 ^ 64) (c.loop-turn.turn % 4) c.loop-turn.seat.view

pub rewrite-requires-clause-alone : goal.rewrite-requires-clause-alone
rewrite-requires-clause-alone c = owns c.make.new.seat.id c.in-Ok.number ((c.args.from + c.loop-turn.turn) % 2 ^ 64) c.make.new.seat.view c.in-Ok.ensures.goes

pub rewrite-requires-clause-may : goal.rewrite-requires-clause-may
rewrite-requires-clause-may c =
    rewrites c.make.new.seat.id c.in-Ok.number ((c.args.from + c.loop-turn.turn) % 2 ^ 64) ((((c.args.from + c.loop-turn.turn) % 2 ^ 64) + 500000) % 2 ^ 64) c.make.new.seat.view c.in-Ok.ensures.goes

pub value-seen-requires-clause-shown : goal.value-seen-requires-clause-shown
value-seen-requires-clause-shown c = shows c.rewrite.new.seat.id c.in-Ok.number ((((c.args.from + c.loop-turn.turn) % 2 ^ 64) + 500000) % 2 ^ 64) c.rewrite.new.seat.view c.rewrite.ensures.goes.0

pub take-requires-clause-may : goal.take-requires-clause-may
take-requires-clause-may c = takes c.rewrite.new.seat.id c.in-Ok.number ((((c.args.from + c.loop-turn.turn) % 2 ^ 64) + 500000) % 2 ^ 64) c.rewrite.new.seat.view c.rewrite.ensures.goes.0
