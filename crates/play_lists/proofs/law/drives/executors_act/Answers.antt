-- What executors do are acts.
use Rattle.play_lists.proofs.Drives.Executors.{executors_act}
use Rattle.play_lists.proofs.law.drives.executors_act.Goals as goal

pub returns : goal.returns
returns c d = record { acts = executors_act _ }
