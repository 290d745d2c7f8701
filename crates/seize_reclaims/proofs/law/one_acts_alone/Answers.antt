use Rattle.seize_reclaims.proofs.Renews.One.{one_begins, one_goes_on, one_turns, one_is_shown, one_ends}
use Rattle.seize_reclaims.proofs.Renews.Emptied.{one_empties}
use Rattle.seize_reclaims.proofs.law.one_acts_alone.Goals as goal

pub returns-clause-begins : goal.returns-clause-begins
returns-clause-begins g c defers left_over = one_begins defers left_over

pub returns-clause-goes : goal.returns-clause-goes
returns-clause-goes g c defers left_over = one_goes_on defers left_over

pub returns-clause-turns : goal.returns-clause-turns
returns-clause-turns g c defers left_over = one_turns defers left_over

pub returns-clause-shown : goal.returns-clause-shown
returns-clause-shown g c defers left_over = one_is_shown defers left_over

pub returns-clause-ends : goal.returns-clause-ends
returns-clause-ends g c defers left_over = one_ends defers left_over

pub returns-clause-empties : goal.returns-clause-empties
returns-clause-empties g c defers left_over = one_empties defers left_over
