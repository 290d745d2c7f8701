use Rattle.seize_tests.proofs.BlocksTests.Roots.{adds}
use Rattle.seize_tests.proofs.counting.add.Goals as goal

pub add-requires-clause-may : goal.add-requires-clause-may
add-requires-clause-may c = adds c.loop.seat.id 1 c.loop.seat.view
