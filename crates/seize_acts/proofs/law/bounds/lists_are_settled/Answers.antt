use Rattle.seize_acts.proofs.Bounds.Settles.Within.{lists_are_settled}
use Rattle.seize_acts.proofs.law.bounds.lists_are_settled.Goals as goal

pub returns : goal.returns
returns g c = record { settled = lists_are_settled g.T.Defers.defers }
