use Rattle.seize_acts.proofs.Bounds.Settles.Within.{batches_are_tried}
use Rattle.seize_acts.proofs.law.bounds.batches_are_tried.Goals as goal

pub returns : goal.returns
returns g c = record { tried = batches_are_tried g.T.Defers.defers }
