-- A step of a machine in a memory that tells.
use Rattle.run_executor.proofs.telling.step_telling.Goals as goal
use Rattle.run_executor.proofs.Executing.Forgotten.{may_forgotten, steps_forgotten}

pub step-requires : goal.step-requires
step-requires g c = may_forgotten _ _ _ c.args.memory.now _ c.forget.ensures _ c.requires

pub returns : goal.returns
returns g c = steps_forgotten _ _ _ c.args.memory.now _ c.forget.ensures _ _ _ c.step.ensures
