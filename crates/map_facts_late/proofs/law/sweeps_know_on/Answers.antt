-- What a sweep knows lasts.
use Rattle.map_facts_late.proofs.Swept.Lasts.Sweeps.{sweeps_know_on}
use Rattle.map_facts_late.proofs.law.sweeps_know_on.Goals as goal

pub returns : goal.returns
returns c d = record { known = sweeps_know_on _ }
