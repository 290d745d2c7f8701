use Rattle.seize_callers.proofs.Resting.{registered}
use Rattle.seize_callers.proofs.caller.Caller.register.Goals as goal

pub sends-requires-clause-ends : goal.sends-requires-clause-ends
sends-requires-clause-ends g c = λ answer w did. c.goes_on.ensures.rest w (registered (g.C.Content.notes w).knows answer did.0)
