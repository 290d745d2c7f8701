-- Each step of a lookup.
use Rattle.owner_whole.proofs.Lowers.Looks.{lookups_step_by_loads}
use Rattle.owner_whole.proofs.law.lowers.lookups_step_by_loads.Goals as goal

pub returns : goal.returns
returns c d = record { loads = lookups_step_by_loads _ }
