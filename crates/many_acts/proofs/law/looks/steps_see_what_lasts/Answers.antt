-- What each step sees, once its operation is answered.
use Rattle.many_acts.proofs.Looks.Sees.Made.{own_pairs_made}
use Rattle.many_acts.proofs.Looks.Sees.Promised.{steps_see}
use Rattle.many_acts.proofs.law.looks.steps_see_what_lasts.Goals as goal

pub returns : goal.returns
returns c d = record { lasts = steps_see _; own = own_pairs_made _ }
