use Rattle.std.proofs.Common.{arith}
use Rattle.seize_tests.proofs.BlocksTests.Growing.{loads, raises}
use Rattle.seize_tests.proofs.meeting.raises.Goals as goal

pub load-found-requires-clause-may : goal.load-found-requires-clause-may
load-found-requires-clause-may c = loads c.loop-turn.seat.id c.loop-turn.seat.view

pub exchange-requires-clause-may : goal.exchange-requires-clause-may
exchange-requires-clause-may c = raises c.load-found.new.seat.id c.load-found.new.seat.view c.load-found.result _ (omega arith)
