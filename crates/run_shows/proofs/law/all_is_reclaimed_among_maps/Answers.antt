-- How a caller begins to reclaim all, each of its steps, and its end.
use Rattle.run_shows.proofs.Reclaims.Behind.Deferred.{waits_on_tables}
use Rattle.run_shows.proofs.Reclaims.Promised.{reclaiming_begins, reclaiming_stands}
use Rattle.run_shows.proofs.Reclaims.Ends.All.{reclaiming_ends}
use Rattle.run_shows.proofs.law.all_is_reclaimed_among_maps.Goals as goal

pub returns : goal.returns
returns c d = record { begins = reclaiming_begins _; steps = reclaiming_stands _; ends = reclaiming_ends _; waits = waits_on_tables _ _ }
