-- What a sweep comes to.
use Rattle.map_facts_late.proofs.Swept.Covers.Kept.{sweeps_stay_covered}
use Rattle.map_facts_late.proofs.Swept.Covers.Promised.{sweeps_cover}
use Rattle.map_facts_late.proofs.Swept.Covers.Told.{sweeps_are_told_on}
use Rattle.map_facts_late.proofs.law.sweeps_cover.Goals as goal

pub returns : goal.returns
returns c d = record { steps = sweeps_cover _; others = sweeps_stay_covered _; told = sweeps_are_told_on _ }
