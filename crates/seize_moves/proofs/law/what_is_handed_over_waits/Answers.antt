use Rattle.seize_moves.proofs.law.what_is_handed_over_waits.Goals as goal
use Rattle.seize_moves.proofs.Waiting.Handed.{handed_waits}

pub returns : goal.returns
returns c = record { waits = handed_waits }
