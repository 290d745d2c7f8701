use Rattle.seize_acts.proofs.Acts.Reclaimed.All.{everything_can_be_reclaimed}
use Rattle.seize_acts.proofs.law.acts.everything_can_be_reclaimed.Goals as goal

pub returns : goal.returns
returns c d = record { ends = everything_can_be_reclaimed }
