use Rattle.std.proofs.Common.{arith}
use Rattle.seize_tests.proofs.BlocksTests.Roomy.{rooms}
use Rattle.seize_tests.proofs.rooming.makes_room.Goals as goal

pub room-requires-clause-may : goal.room-requires-clause-may
room-requires-clause-may c = let l = c.loop-bucket in let lt = c.loop-bucket-test.true in rooms l.seat.id l.seat.view l.bucket (omega (arith, lt)) l.invariant.1
