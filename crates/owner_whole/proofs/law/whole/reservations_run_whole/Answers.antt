-- Whole reservations for one owner.
use Rattle.owner_whole.proofs.Whole.Rooms.Whole.{rooms_begin_alone, rooms_go_on_alone, rooms_come_to_an_end}
use Rattle.owner_whole.proofs.law.whole.reservations_run_whole.Goals as goal

pub returns : goal.returns
returns c d = record { begins = rooms_begin_alone; steps = rooms_go_on_alone; ends = rooms_come_to_an_end }
