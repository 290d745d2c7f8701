use Rattle.seize_tests.proofs.BlocksTests.Owners.{shows}
use Rattle.seize_tests.proofs.looking.Kept.looks.Goals as goal

pub value-requires-clause-shown : goal.value-requires-clause-shown
value-requires-clause-shown c = shows c.args.self.now.seat.id c.args.self.now.number c.args.self.now.value c.args.self.now.seat.view c.args.self.now.has
