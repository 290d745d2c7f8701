use Rattle.seize_acts.proofs.Acts.Lost.{nothing_lost}
use Rattle.seize_acts.proofs.law.acts.nothing_is_lost.Goals as goal

pub returns : goal.returns
returns c d = record { at_rest = nothing_lost }
