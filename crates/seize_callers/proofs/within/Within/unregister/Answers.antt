use Rattle.std.proofs.Common.{inl, inr, refl, ap, ◌∙◌}
use Rattle.seize_words.specs.OneMemory.Op.{Store, Stored}
use Rattle.seize_words.specs.declared.at.At.TheVariants.{Slot}
use Rattle.seize.specs.declared.states.TheConstants.{HEAD, FREE}
use Rattle.seize_views.specs.Views.Begun.{freeing}
use Rattle.seize_views.specs.Views.Notes.{still, deed}
use Rattle.seize_views.specs.Views.Promises.{op_of}
use Rattle.seize_views.specs.declared.view.SlotView.TheVariants.{Outside}
use Rattle.seize_callers.proofs.Turns.{may_turn, leans_turn}
use Rattle.seize_callers.proofs.within.Within.unregister.Goals as goal

pub part-requires-clause-may : goal.part-requires-clause-may
part-requires-clause-may g c =
    let x = c.args.self.now in
    may_turn g.C.Rule.holds g.C.Rule.keeps g.C.Content.notes g.C.Content.beside g.C.Rule.leans c.goes_on.ensures.turn x.blocks.now.words.fixed x.seat.now.id x.seat.now.view
    (Outside c.args.slot) c.requires.outside freeing still (inr refl) tt

pub part-requires-clause-errand : goal.part-requires-clause-errand
part-requires-clause-errand g c = λ home rests w so. absurd (c.args.self.now.away home)

pub part-requires-clause-leans : goal.part-requires-clause-leans
part-requires-clause-leans g c =
    let x = c.args.self.now in
    leans_turn g.C.Rule.holds g.C.Rule.keeps g.C.Content.notes g.C.Content.beside g.C.Rule.leans c.goes_on.ensures.leans x.blocks.now.words.fixed x.seat.now.away x.seat.now.view
    (Outside c.args.slot) c.requires.outside freeing still (inr refl) tt

pub store-requires : goal.store-requires
store-requires g c =
    let x = c.args.self.now in
    inl (ap (op_of g.T.Defers.defers) (c.part.ensures.goes.0 ∙ ap (freeing x.blocks.now.words.fixed) c.requires.outside)
    )

-- what it has done and begun it has
pub returns-clause-began : goal.returns-clause-began
returns-clause-began g c = c.store.ensures.2.2 ∙ c.part.ensures.goes.2

pub returns-clause-did : goal.returns-clause-did
returns-clause-did g c =
    let x = c.args.self.now in let n = g.C.Content.notes c.part.new.seat.view in
    c.store.ensures.2.1 ∙ ap (λ v. deed v n.did (Store (Slot c.args.slot HEAD) FREE) Stored)
    (c.part.ensures.goes.0 ∙ ap (freeing x.blocks.now.words.fixed) c.requires.outside) ∙ c.part.ensures.goes.1
