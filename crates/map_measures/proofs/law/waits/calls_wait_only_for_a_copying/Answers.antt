-- Each step of a call, a reservation and a sweep that waits.
use Rattle.map_measures.proofs.Waits.Promised.{calls_wait_for_a_copying, rooms_wait_for_a_copying, sweeps_wait_for_a_copying, lookups_never_wait}
use Rattle.map_measures.proofs.law.waits.calls_wait_only_for_a_copying.Goals as goal

pub returns : goal.returns
returns c d = record { calls = calls_wait_for_a_copying _; rooms = rooms_wait_for_a_copying _; sweeps = sweeps_wait_for_a_copying _; lookups = lookups_never_wait _ }
