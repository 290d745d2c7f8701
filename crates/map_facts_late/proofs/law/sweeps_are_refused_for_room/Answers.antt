-- For what a sweep is refused.
use Rattle.map_facts_late.proofs.KindsKept.Laws.{sweeps_refuse_room, told_sweeps_refuse_room}
use Rattle.map_facts_late.proofs.law.sweeps_are_refused_for_room.Goals as goal

pub returns : goal.returns
returns c d = record { refused = sweeps_refuse_room; told = told_sweeps_refuse_room }
