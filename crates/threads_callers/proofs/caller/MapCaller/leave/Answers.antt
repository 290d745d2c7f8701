use Rattle.std.proofs.Common.{refl, ap, ◌∙◌}
use Rattle.seize_views.specs.declared.view.Has.TheVariants.{Nothing}
use Rattle.seize_views.specs.declared.view.SlotView.TheVariants.{Inside, Outside}
use Rattle.threads_errands.specs.Given.ViewsNotes.{notes_of}
use Rattle.threads_errands.proofs.Given.ViewsContents.{knows_free}
use Rattle.seize_callers.specs.Kept.{is_home}
use Rattle.seize_callers.proofs.Keeping.{none_away}
use Rattle.seize_callers.proofs.Resting.{at_rest}
use Rattle.threads_callers.proofs.Rows.{calls_stay, known_free, map_stays}
use Rattle.threads_callers.proofs.caller.MapCaller.leave.Goals as goal

pub errand-requires-clause-home : goal.errand-requires-clause-home
errand-requires-clause-home g c = none_away c.args.self.now.seat.away c.args.self.now.home

pub errand-requires-clause-asks : goal.errand-requires-clause-asks
errand-requires-clause-asks g c =
    (c.requires.sized, (Nothing, tt, known_free c.args.self.now.seat.view (Inside c.args.slot Nothing) c.args.self.now.lone c.args.self.now.good c.requires.inside c.requires.free), refl)

pub errand-requires-clause-ends : goal.errand-requires-clause-ends
errand-requires-clause-ends g c = λ answer w did. at_rest (notes_of w).knows (Outside c.args.slot) did.0 tt

pub returns-clause-outside : goal.returns-clause-outside
returns-clause-outside g c = (knows_free c.errand.new.seat.view (Outside c.args.slot) tt c.errand.ensures.did.0).2

pub returns-clause-free : goal.returns-clause-free
returns-clause-free g c = (knows_free c.errand.new.seat.view (Outside c.args.slot) tt c.errand.ensures.did.0).1

pub returns-clause-map : goal.returns-clause-map
returns-clause-map g c = map_stays c.args.self.now.seat.view c.errand.new.seat.view c.errand.ensures.did.2

pub returns-clause-calls : goal.returns-clause-calls
returns-clause-calls g c = calls_stay c.args.self.now.seat.view c.errand.new.seat.view c.errand.ensures.did.2

pub invariant_of-self : goal.invariant_of-self
invariant_of-self g c = let k = knows_free c.errand.new.seat.view (Outside c.args.slot) tt c.errand.ensures.did.0 in record {
  own = c.errand.ensures.same.0 ∙ c.args.self.now.own;
  home = ap is_home c.errand.ensures.home;
  lone = k.0;
  good = k.3;
}
