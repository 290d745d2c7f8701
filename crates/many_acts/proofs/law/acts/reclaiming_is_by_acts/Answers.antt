-- The steps of a caller that reclaims all.
use Rattle.many_acts.proofs.Acts.Reclaiming.{reclaiming_is_by_acts}
use Rattle.many_acts.proofs.law.acts.reclaiming_is_by_acts.Goals as goal

pub returns : goal.returns
returns c d = record { acts = reclaiming_is_by_acts _ }
