-- Each pair that the map had as a change began stands still in its block.
use Rattle.owner_calls.proofs.Holds.Calls.Held.{calls_take_none_away}
use Rattle.owner_calls.proofs.Holds.Sweeps.Held.{sweeps_take_none_away}
use Rattle.owner_calls.proofs.law.holds.changes_take_nothing_away.Goals as goal

pub returns : goal.returns
returns c d = record { calls = calls_take_none_away _ _ _ _; sweeps = sweeps_take_none_away _ _ _ }
