-- Reservations among the calls of many callers on one map.
use Rattle.many_calls.proofs.Together.RoomRows.{room_rows_stand_together}
use Rattle.many_calls.proofs.Together.Rooms.{rooms_begin_together, rooms_stand_together}
use Rattle.many_calls.proofs.law.reservations_stand_together.Goals as goal

pub returns : goal.returns
returns c d = record { begins = rooms_begin_together; steps = rooms_stand_together; rows = room_rows_stand_together }
