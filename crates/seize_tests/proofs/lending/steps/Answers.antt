use Rattle.seize_tests.proofs.BlocksTests.Owners.{makes, takes}
use Rattle.seize_tests.proofs.lending.steps.Goals as goal

pub make-requires-clause-may : goal.make-requires-clause-may
make-requires-clause-may c = makes c.args.seat.now.id c.args.value 0 c.args.seat.now.view

pub take-requires-clause-may : goal.take-requires-clause-may
take-requires-clause-may c = takes c.make.new.seat.id c.in-Ok.number c.args.value c.make.new.seat.view c.in-Ok.ensures.goes
