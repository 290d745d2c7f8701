-- Each pair of a run is somewhere once.
use Rattle.run_sweeps.proofs.Sizes.Once.{runs_have_each_once}
use Rattle.run_sweeps.proofs.law.runs_have_each_pair_once.Goals as goal

pub returns : goal.returns
returns c d = record { once = runs_have_each_once _ _ }
