use Rattle.seize_callers.proofs.Resting.{at_rest}
use Rattle.seize_views.specs.declared.view.SlotView.TheVariants.{Outside}
use Rattle.seize_callers.proofs.caller.Caller.leave.Goals as goal

pub sends-requires-clause-ends : goal.sends-requires-clause-ends
sends-requires-clause-ends g c = λ answer w did. c.goes_on.ensures.rest w (at_rest (g.C.Content.notes w).knows (Outside c.args.slot) did.0 tt)
