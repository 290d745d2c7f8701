-- Each step of a sweep, its first point, and what it is told.
use Rattle.map_facts_late.proofs.Swept.Sweeps.Promised.{sweeps_begin, sweeps_are_told, sweeps_keep_the_map}
use Rattle.map_facts_late.proofs.law.sweeps_keep_the_map.Goals as goal

pub returns : goal.returns
returns c d = record { begins = sweeps_begin _; told = sweeps_are_told _; steps = sweeps_keep_the_map _ }
