use Rattle.std.proofs.Common.{sym, subst}
use Rattle.seize_views.specs.Views.Promises.{IsTaker}
use Rattle.seize_callers.proofs.caller.pass.PassSeat.retires.Goals as goal

-- who has taken a slot has no block in its hand
pub hands_on-requires-clause-takes : goal.hands_on-requires-clause-takes
hands_on-requires-clause-takes g c = subst IsTaker (sym c.in_ok-slot.ensures.taken) tt
