-- A sweep while a row of the collector is under way, and after it.
use Rattle.map_facts_late.proofs.Swept.Rows.Rests.{sweeps_go_on, sweeps_rest_on}
use Rattle.map_facts_late.proofs.law.sweeps_go_on.Goals as goal

pub returns : goal.returns
returns c d = record { after = sweeps_go_on _; rests = sweeps_rest_on _ }
