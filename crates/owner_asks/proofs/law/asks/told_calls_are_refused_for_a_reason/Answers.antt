-- For what a call is refused once it was told what to do.
use Rattle.owner_asks.proofs.Asks.Asks.Refusals.{told_calls_refuse}
use Rattle.owner_asks.proofs.law.asks.told_calls_are_refused_for_a_reason.Goals as goal

pub returns : goal.returns
returns c d = told_calls_refuse _ _ _ _
