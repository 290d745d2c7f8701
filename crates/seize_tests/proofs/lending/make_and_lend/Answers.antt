use Rattle.std.proofs.Common.{◌+◌, ◌%◌, ◌^◌}
use Rattle.seize_tests.proofs.BlocksTests.Owners.{makes, shows_to_both, shows_kept, are_there, comes, takes}
use Rattle.seize_tests.proofs.lending.make_and_lend.Goals as goal

pub make-requires-clause-may : goal.make-requires-clause-may
make-requires-clause-may c = makes c.loop-turn.owner.id ((c.args.from + c.loop-turn.turn) % 2 ^ 64) 0 c.loop-turn.owner.view

pub value_for-seen-requires-clause-shown : goal.value_for-seen-requires-clause-shown
value_for-seen-requires-clause-shown c =
    shows_to_both _ _ c.make.new.seat.id c.in-Ok.number ((c.args.from + c.loop-turn.turn) % 2 ^ 64) c.make.new.seat.view c.in-Ok.ensures.goes

pub value_by-shown-requires-clause-kept : goal.value_by-shown-requires-clause-kept
value_by-shown-requires-clause-kept c =
    shows_kept _ _ _ _ c.make.new.seat.id c.in-Ok.number ((c.args.from + c.loop-turn.turn) % 2 ^ 64) c.make.new.seat.view c.in-Ok.ensures.goes

pub value_by-shown-requires-clause-there : goal.value_by-shown-requires-clause-there
value_by-shown-requires-clause-there c = are_there

pub value_by-shown-requires-clause-comes : goal.value_by-shown-requires-clause-comes
value_by-shown-requires-clause-comes c = comes

pub take-requires-clause-may : goal.take-requires-clause-may
take-requires-clause-may c = takes c.make.new.seat.id c.in-Ok.number ((c.args.from + c.loop-turn.turn) % 2 ^ 64) c.make.new.seat.view c.in-Ok.ensures.goes
