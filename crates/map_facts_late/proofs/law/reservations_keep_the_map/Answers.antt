-- Each step of a reservation, and its first point.
use Rattle.map_facts_late.proofs.Rooms.Laws.{reserves_begin, reserves_keep_the_map}
use Rattle.map_facts_late.proofs.law.reservations_keep_the_map.Goals as goal

pub returns : goal.returns
returns c d = record { begins = reserves_begin _; steps = reserves_keep_the_map _ }
