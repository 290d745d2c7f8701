-- Who waits for a copying has another caller by it; and each copying that is not over has who ends it on.
use Rattle.map_measures.proofs.Waiters.Askers as askers
use Rattle.map_measures.proofs.Waiters.Calls as calls
use Rattle.map_measures.proofs.law.waiters.who_waits_for_a_copying_at_once_has_others.Goals as goal

pub returns : goal.returns
returns c d = record {
  asked = askers.askers_have_others_blocking _;
  calls = calls.calls_keep_ends_blocking _;
  rooms = calls.rooms_keep_ends_blocking _;
  sweeps = calls.sweeps_keep_ends_blocking _;
}
