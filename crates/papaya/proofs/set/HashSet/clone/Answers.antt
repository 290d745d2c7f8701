use Rattle.papaya.proofs.set.HashSet.clone.Goals as goal

pub returns-in-Ok-clause-cloned : goal.returns-in-Ok-clause-cloned
returns-in-Ok-clause-cloned g c = c.in-Ok.ensures.cloned
