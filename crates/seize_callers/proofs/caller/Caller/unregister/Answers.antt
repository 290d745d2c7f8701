use Rattle.seize_callers.proofs.Resting.{at_rest}
use Rattle.seize_views.specs.declared.view.SlotView.TheVariants.{Rests}
use Rattle.seize_callers.proofs.caller.Caller.unregister.Goals as goal

pub sends-requires-clause-ends : goal.sends-requires-clause-ends
sends-requires-clause-ends g c = λ answer w did. c.goes_on.ensures.rest w (at_rest (g.C.Content.notes w).knows Rests did.0.0 tt)
