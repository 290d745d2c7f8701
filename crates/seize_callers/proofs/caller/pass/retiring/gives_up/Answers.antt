use Rattle.seize_views.specs.declared.view.SlotView.TheVariants.{Rests}
use Rattle.seize_callers.proofs.Keeping.{none_away}
use Rattle.seize_callers.proofs.Resting.{at_rest}
use Rattle.seize_callers.proofs.caller.pass.retiring.gives_up.Goals as goal

pub errand-requires-clause-home : goal.errand-requires-clause-home
errand-requires-clause-home g c = none_away c.args.seat.now.away c.requires.home

pub errand-requires-clause-ends : goal.errand-requires-clause-ends
errand-requires-clause-ends g c = λ answer w did. at_rest w.knows Rests did.0.0 tt
