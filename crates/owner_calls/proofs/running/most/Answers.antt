-- There is a least bound.
use Rattle.owner_whole.proofs.Strides.Runs.Steps.{lowest_at}
use Rattle.owner_calls.proofs.running.most.Goals as goal

-- src/running.rt:16:5
pub invariant_of-result : goal.invariant_of-result
invariant_of-result g c = record { least = lowest_at g.M.StepMachine.plan _ _ _ _ c.of-machine.ensures c.of-memory.ensures c.requires }
