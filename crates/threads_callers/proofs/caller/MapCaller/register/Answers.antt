use Rattle.seize_views.specs.declared.view.SlotView.TheVariants.{Rests}
use Rattle.seize_callers.proofs.Keeping.{none_away}
use Rattle.seize_callers.proofs.Resting.{registered}
use Rattle.threads_errands.specs.Given.ViewsNotes.{notes_of}
use Rattle.threads_callers.proofs.Rows.{calls_stay, known_free, map_stays, took}
use Rattle.threads_callers.proofs.caller.MapCaller.register.Goals as goal

pub errand-requires-clause-home : goal.errand-requires-clause-home
errand-requires-clause-home g c = none_away c.args.self.now.seat.away c.args.self.now.home

pub errand-requires-clause-asks : goal.errand-requires-clause-asks
errand-requires-clause-asks g c = (c.requires.sized, known_free c.args.self.now.seat.view Rests c.args.self.now.lone c.args.self.now.good c.requires.rests c.requires.free)

pub errand-requires-clause-ends : goal.errand-requires-clause-ends
errand-requires-clause-ends g c = λ answer w did. registered (notes_of w).knows answer did.0

pub returns-clause-taken : goal.returns-clause-taken
returns-clause-taken g c = (took c.errand.new.seat.view c.errand.result c.in_ok-slot.slot c.in_ok-slot.was c.errand.ensures.did.0).2

pub returns-clause-free : goal.returns-clause-free
returns-clause-free g c = (took c.errand.new.seat.view c.errand.result c.in_ok-slot.slot c.in_ok-slot.was c.errand.ensures.did.0).1

pub returns-clause-map : goal.returns-clause-map
returns-clause-map g c = map_stays c.args.self.now.seat.view c.errand.new.seat.view c.errand.ensures.did.2

pub returns-clause-calls : goal.returns-clause-calls
returns-clause-calls g c = calls_stay c.args.self.now.seat.view c.errand.new.seat.view c.errand.ensures.did.2
