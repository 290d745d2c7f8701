use Rattle.seize_views.specs.contracts.law.views.values_are_found.{T-type}
use Rattle.seize_views.proofs.Views.Values.{values_are_found}
use Rattle.seize_views.proofs.law.views.values_are_found.Goals as goal

pub returns : goal.returns
returns g c = record { found = values_are_found (T-type g.row.T) g.T.Defers.defers }
