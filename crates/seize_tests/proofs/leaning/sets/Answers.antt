use Rattle.seize_tests.proofs.BlocksTests.Leaners.{comes}
use Rattle.seize_tests.proofs.leaning.sets.Goals as goal

pub seat-keeper-requires : goal.seat-keeper-requires
seat-keeper-requires g c = comes
