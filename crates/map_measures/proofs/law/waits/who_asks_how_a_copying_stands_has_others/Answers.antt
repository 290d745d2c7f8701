-- Who else is by a copying that a caller asks about, and that each has who ends it on.
use Rattle.map_measures.proofs.Waits.Askers as askers
use Rattle.map_measures.proofs.Waits.CallsEnd as ending
use Rattle.map_measures.proofs.Waits.RoomsEnd.{rooms_keep_ends, sweeps_keep_ends}
use Rattle.map_measures.proofs.law.waits.who_asks_how_a_copying_stands_has_others.Goals as goal

pub returns : goal.returns
returns c d = record { asked = askers.askers_have_others _; calls = ending.calls_keep_ends _; rooms = rooms_keep_ends _; sweeps = sweeps_keep_ends _ }
