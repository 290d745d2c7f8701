-- Whole sweeps for one owner.
use Rattle.owner_whole.proofs.Whole.Sweeps.Begins.{sweeps_begin_alone}
use Rattle.owner_whole.proofs.Whole.Sweeps.Counting.{telling_counts_nothing, telling_keeps_the_purpose, swept_pairs_counted}
use Rattle.owner_whole.proofs.Whole.Sweeps.Ends.{sweeps_come_to_an_end}
use Rattle.owner_whole.proofs.Whole.Sweeps.Leads.{sweeps_go_on_alone}
use Rattle.owner_whole.proofs.Whole.Sweeps.ToldOn.{sweeps_told_alone}
use Rattle.owner_whole.proofs.law.whole.sweeps_run_whole.Goals as goal

pub returns : goal.returns
returns c d = record { begins = sweeps_begin_alone; steps = sweeps_go_on_alone; told = sweeps_told_alone; ends = sweeps_come_to_an_end; telling_counts = telling_counts_nothing; telling_keeps = telling_keeps_the_purpose; counted = swept_pairs_counted }
