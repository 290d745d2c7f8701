-- Each step of the end of a map leaves less to be done.
use Rattle.many_acts.proofs.Lefts.{ends_get_on}
use Rattle.many_acts.proofs.law.lefts.ends_get_on.Goals as goal

pub returns : goal.returns
returns c d = ends_get_on _
