-- Whole countings for one owner.
use Rattle.owner_whole.proofs.Whole.Rooms.Countings.{countings_begin_alone, countings_go_on_alone}
use Rattle.owner_whole.proofs.Whole.Contents.Length.{countings_come_to}
use Rattle.owner_whole.proofs.law.whole.countings_run_whole.Goals as goal

pub returns : goal.returns
returns c d = record { begins = countings_begin_alone; steps = countings_go_on_alone; counts = countings_come_to }
