-- What was met is no more than the tries.
use Rattle.map_tables.proofs.Tries.{tries_meet_few}
use Rattle.map_tables.proofs.trial.tries_meet_few.Goals as goal

pub returns : goal.returns
returns c = tries_meet_few
