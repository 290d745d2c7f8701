-- A step of a call that was taken out of its place.
use Rattle.run_executor.proofs.executor.Executor.step_out.Goals as goal

pub returns-clause-refused : goal.returns-clause-refused
returns-clause-refused g c = c.step_telling-progress.ensures.refused
