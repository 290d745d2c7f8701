use Rattle.threads_reclaims.proofs.Reclaims.Laws.{one_begins, one_ends, one_empties}
use Rattle.threads_reclaims.proofs.law.one_reclaims_maps.Goals as goal

pub returns-clause-begins : goal.returns-clause-begins
returns-clause-begins g c = one_begins _

pub returns-clause-ends : goal.returns-clause-ends
returns-clause-ends g c = one_ends _

pub returns-clause-empties : goal.returns-clause-empties
returns-clause-empties g c = one_empties _
