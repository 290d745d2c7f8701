use Rattle.seize_acts.proofs.Bounds.Bounds.Within.{lists_are_counted}
use Rattle.seize_acts.proofs.law.bounds.lists_are_counted.Goals as goal

pub returns : goal.returns
returns g c = record { counted = lists_are_counted g.T.Defers.defers }
