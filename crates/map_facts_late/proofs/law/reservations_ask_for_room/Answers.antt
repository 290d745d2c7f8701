-- What a reservation asks for, and for what it is refused.
use Rattle.map_facts_late.proofs.KindsKept.Laws.{reserves_refuse_room, reserves_ask_on}
use Rattle.map_facts_late.proofs.law.reservations_ask_for_room.Goals as goal

pub returns : goal.returns
returns c d = record { refused = reserves_refuse_room; asks = reserves_ask_on }
