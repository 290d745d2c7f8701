use Rattle.seize_model.proofs.Sets.Turns.All.{rows_follow}
use Rattle.seize_model.proofs.Sets.Slots.Least.{new_slots_least}
use Rattle.seize_model.proofs.Sets.Turns.Weights.{further_weigh_less}
use Rattle.seize_model.proofs.law.sets.rows_follow_the_sets.Goals as goal

pub returns-clause-order : goal.returns-clause-order
returns-clause-order c d = rows_follow

pub returns-clause-slots : goal.returns-clause-slots
returns-clause-slots c d = new_slots_least

pub returns-clause-weights : goal.returns-clause-weights
returns-clause-weights c d = further_weigh_less
