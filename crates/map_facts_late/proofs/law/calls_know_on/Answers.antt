-- What calls know while others step.
use Rattle.map_facts_late.proofs.Lasts.Promised as lasts
use Rattle.map_facts_late.proofs.law.calls_know_on.Goals as goal

pub returns : goal.returns
returns c d = record { others = lasts.steps_are_of_others _; known = lasts.calls_know_on _ }
