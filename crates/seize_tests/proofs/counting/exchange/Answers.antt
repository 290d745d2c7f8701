use Rattle.seize_tests.proofs.BlocksTests.Roots.{exchanges}
use Rattle.seize_tests.proofs.counting.exchange.Goals as goal

pub exchange-requires-clause-may : goal.exchange-requires-clause-may
exchange-requires-clause-may c = exchanges c.load-found.new.seat.id c.load-found.result _ c.load-found.new.seat.view
