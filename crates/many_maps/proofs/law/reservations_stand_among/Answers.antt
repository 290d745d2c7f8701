-- Reservations among calls, makings and ends of maps.
use Rattle.many_maps.proofs.Among.Rooms.{rooms_begin_among, rooms_stand_among, room_rows_stand_among}
use Rattle.many_maps.proofs.law.reservations_stand_among.Goals as goal

pub returns : goal.returns
returns c d = record { begins = rooms_begin_among _; steps = rooms_stand_among _; rows = room_rows_stand_among _ }
