use Rattle.std.proofs.Common.{◌+◌, ◌%◌, ◌^◌}
use Rattle.seize_tests.proofs.BlocksTests.Owners.{makes, takes, shows}
use Rattle.seize_tests.proofs.owning.make_and_take.Goals as goal

pub make-requires-clause-may : goal.make-requires-clause-may
make-requires-clause-may c = makes c.loop-turn.seat.id ((c.args.from + c.loop-turn.turn) % 2 ^ 64) (c.loop-turn.turn % 4) c.loop-turn.seat.view

pub take-requires-clause-may : goal.take-requires-clause-may
take-requires-clause-may c =
    takes c.make.new.seat.id c.in-Ok.number ((c.args.from + c.loop-turn.turn) % 2 ^ 64) c.make.new.seat.view c.in-Ok.ensures.goes

pub value-once-requires-clause-shown : goal.value-once-requires-clause-shown
value-once-requires-clause-shown c =
    shows c.make.new.seat.id c.in-Ok.number ((c.args.from + c.loop-turn.turn) % 2 ^ 64) c.make.new.seat.view c.in-Ok.ensures.goes

pub value-again-requires-clause-shown : goal.value-again-requires-clause-shown
value-again-requires-clause-shown c =
    shows c.make.new.seat.id c.in-Ok.number ((c.args.from + c.loop-turn.turn) % 2 ^ 64) c.make.new.seat.view c.in-Ok.ensures.goes
