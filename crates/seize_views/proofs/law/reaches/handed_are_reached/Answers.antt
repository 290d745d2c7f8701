use Rattle.seize_views.proofs.Reaches.Reached.{handed_are_reached}
use Rattle.seize_views.proofs.law.reaches.handed_are_reached.Goals as goal

pub returns : goal.returns
returns g c = record { reached = handed_are_reached g.T.Defers.defers }
