-- Walks, clearings and retainings among the calls of many callers on one map.
use Rattle.many_calls.proofs.Together.SweepStepped.{sweep_rows_stand_together}
use Rattle.many_calls.proofs.Together.Sweeps.{sweeps_begin_together, sweeps_stand_together}
use Rattle.many_calls.proofs.Together.SweepsTold.{sweeps_told_together, walks_stop_together}
use Rattle.many_calls.proofs.law.sweeps_stand_together.Goals as goal

pub returns : goal.returns
returns c d = record { begins = sweeps_begin_together; steps = sweeps_stand_together; told = sweeps_told_together; rows = sweep_rows_stand_together; stops = walks_stop_together }
