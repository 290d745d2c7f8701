use Rattle.seize_tests.proofs.BlocksTests.Owners.{makes}
use Rattle.seize_tests.proofs.looking.Kept.make.Goals as goal

pub make-requires-clause-may : goal.make-requires-clause-may
make-requires-clause-may c = makes c.seat-seat.result.id c.args.value 0 c.seat-seat.result.view
