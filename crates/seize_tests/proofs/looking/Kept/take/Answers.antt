use Rattle.seize_tests.proofs.BlocksTests.Owners.{takes, taken_is}
use Rattle.seize_tests.proofs.looking.Kept.take.Goals as goal

pub take-requires-clause-may : goal.take-requires-clause-may
take-requires-clause-may c = takes c.args.self.seat.id c.args.self.number c.args.self.value c.args.self.seat.view c.args.self.has

pub returns : goal.returns
returns c = taken_is c.args.self.number c.args.self.value c.take.result c.args.self.seat.view c.take.new.seat.view c.args.self.has c.take.ensures.goes
