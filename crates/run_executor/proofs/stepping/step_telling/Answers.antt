-- A step of a machine in a memory that tells, and may refuse blocks.
use Rattle.run_executor.proofs.stepping.step_telling.Goals as goal
use Rattle.run_executor.proofs.Executing.Forgotten.{may_forgotten, none_made, steps_forgotten}

pub step-progress-requires : goal.step-progress-requires
step-progress-requires g c = may_forgotten _ _ _ (record c.args.memory.now { refuses = c.args.refuse }) _ c.forget.ensures _ c.requires

pub returns-clause-told : goal.returns-clause-told
returns-clause-told g c = steps_forgotten _ _ _ (record c.args.memory.now { refuses = c.args.refuse }) _ c.forget.ensures _ _ _ c.step-progress.ensures

pub returns-clause-refused : goal.returns-clause-refused
returns-clause-refused g c = λ refuse. none_made _ _ _ (record c.args.memory.now { refuses = c.args.refuse }) _ c.forget.ensures _ refuse _ _ c.step-progress.ensures
