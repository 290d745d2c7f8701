use Rattle.seize_acts.proofs.Acts.Refused.{used_up_if_had, no_memory_if_no_room, only_two_faults}
use Rattle.seize_acts.proofs.law.acts.registrations_are_refused_for_a_reason.Goals as goal

pub returns-clause-faults : goal.returns-clause-faults
returns-clause-faults c d = only_two_faults

pub returns-clause-used_up : goal.returns-clause-used_up
returns-clause-used_up c d = used_up_if_had

pub returns-clause-no_memory : goal.returns-clause-no_memory
returns-clause-no_memory c d = no_memory_if_no_room
