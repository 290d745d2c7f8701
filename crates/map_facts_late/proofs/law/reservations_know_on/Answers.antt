-- What a reservation knows while others step, and each of its steps once the root has left its table.
use Rattle.map_facts_late.proofs.Rooms.Laws.{late_reserves_keep_the_map, reserves_know_on}
use Rattle.map_facts_late.proofs.law.reservations_know_on.Goals as goal

pub returns : goal.returns
returns c d = record { late = late_reserves_keep_the_map _; known = reserves_know_on _ }
