-- Walks, clearings and retainings among calls, makings and ends of maps.
use Rattle.many_maps.proofs.Among.Sweeps.{sweeps_begin_among, sweeps_stand_among, sweeps_told_among, sweep_rows_stand_among, walks_stop_among}
use Rattle.many_maps.proofs.law.sweeps_stand_among.Goals as goal

pub returns : goal.returns
returns c d = record { begins = sweeps_begin_among _; steps = sweeps_stand_among _; told = sweeps_told_among _; rows = sweep_rows_stand_among _; stops = walks_stop_among _ }
