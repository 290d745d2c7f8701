-- Removals are done, where the map has one table at most.
use Rattle.owner_asks.proofs.Steady.Calls.Runs.{removals_are_steady}
use Rattle.owner_asks.proofs.Steady.Refreshes.{refreshes_keep_one_table}
use Rattle.owner_asks.proofs.Steady.Sweeps.Runs.{sweeps_are_steady}
use Rattle.owner_asks.proofs.law.steady.removals_are_steady.Goals as goal

pub returns : goal.returns
returns c d = record { calls = removals_are_steady _ _ _ _; sweeps = sweeps_are_steady _ _ _; refreshes = refreshes_keep_one_table _ _ }
