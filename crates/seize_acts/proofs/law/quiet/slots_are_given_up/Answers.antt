use Rattle.seize_acts.proofs.Quiet.Ends.Counted.{slots_end}
use Rattle.seize_acts.proofs.Quiet.Promised.{slots_begin, slots_lead, nothing_waits}
use Rattle.seize_acts.proofs.law.quiet.slots_are_given_up.Goals as goal

pub returns-clause-begins : goal.returns-clause-begins
returns-clause-begins g c defers = slots_begin defers

pub returns-clause-leads : goal.returns-clause-leads
returns-clause-leads g c defers left_over = slots_lead defers left_over

pub returns-clause-nothing : goal.returns-clause-nothing
returns-clause-nothing g c defers = nothing_waits defers

pub returns-clause-ends : goal.returns-clause-ends
returns-clause-ends g c defers left_over = slots_end defers left_over
