use Rattle.seize_model.proofs.Sets.Reclaims.Calls.{reclaims_by_calls, reclaims_as_sets}
use Rattle.seize_model.proofs.law.sets.everything_is_reclaimed_by_rows.Goals as goal

pub returns-clause-calls : goal.returns-clause-calls
returns-clause-calls c d = reclaims_by_calls

pub returns-clause-sets : goal.returns-clause-sets
returns-clause-sets c d = reclaims_as_sets
