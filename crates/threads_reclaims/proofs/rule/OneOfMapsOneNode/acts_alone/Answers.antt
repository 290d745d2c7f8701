use Rattle.threads_reclaims.proofs.Reclaims.Laws.{one_tells, one_goes_on, one_turns, one_is_shown}
use Rattle.threads_reclaims.proofs.rule.OneOfMapsOneNode.acts_alone.Goals as goal

pub returns-clause-tells : goal.returns-clause-tells
returns-clause-tells g c = one_tells

pub returns-clause-goes : goal.returns-clause-goes
returns-clause-goes g c = one_goes_on _ _

pub returns-clause-turns : goal.returns-clause-turns
returns-clause-turns g c = one_turns _ _

pub returns-clause-shown : goal.returns-clause-shown
returns-clause-shown g c = one_is_shown _ _
