use Rattle.std.proofs.Common.{refl, ap, ◌∙◌}
use Rattle.seize_views.specs.Views.Begun.{ended, left_with}
use Rattle.seize_views.specs.Views.Notes.{still}
use Rattle.seize_views.specs.Views.Watched.{known_by}
use Rattle.seize_views.specs.declared.view.SlotView.TheVariants.{Settles}
use Rattle.seize_views.specs.declared.view.Why.TheVariants.{Retiring}
use Rattle.seize_callers.specs.Made.{task_of}
use Rattle.seize_callers.proofs.Turns.{may_turn, leans_turn}
use Rattle.seize_callers.proofs.within.Within.ends.Goals as goal

pub settles-requires : goal.settles-requires
settles-requires g c = let b = c.requires.settling in record { settling = (task_of (Retiring b.0) (g.C.Content.notes c.args.self.now.seat.now.view), b.1) }

pub part-requires-clause-may : goal.part-requires-clause-may
part-requires-clause-may g c =
    let b = c.requires.settling in let n = c.settles.new.self in
    let k = c.settles.ensures.settling (task_of (Retiring b.0) (g.C.Content.notes c.args.self.now.seat.now.view)) b.1 in
    may_turn g.C.Rule.holds g.C.Rule.keeps g.C.Content.notes g.C.Content.beside g.C.Rule.leans c.goes_on.ensures.turn n.blocks.now.words.fixed n.seat.now.id n.seat.now.view
    (Settles c.settles.new.row (Retiring b.0) k.0 k.1) (ap known_by k.2) ended still (c.settles.ensures.over, refl) tt

pub part-requires-clause-errand : goal.part-requires-clause-errand
part-requires-clause-errand g c = λ home rests w so. absurd (c.settles.new.self.away home)

pub part-requires-clause-leans : goal.part-requires-clause-leans
part-requires-clause-leans g c =
    let b = c.requires.settling in let n = c.settles.new.self in
    let k = c.settles.ensures.settling (task_of (Retiring b.0) (g.C.Content.notes c.args.self.now.seat.now.view)) b.1 in
    leans_turn g.C.Rule.holds g.C.Rule.keeps g.C.Content.notes g.C.Content.beside g.C.Rule.leans c.goes_on.ensures.leans n.blocks.now.words.fixed n.seat.now.away n.seat.now.view
    (Settles c.settles.new.row (Retiring b.0) k.0 k.1) (ap known_by k.2) ended still (c.settles.ensures.over, refl) tt

pub returns-clause-rests : goal.returns-clause-rests
returns-clause-rests g c = λ way is.
    let k = c.settles.ensures.settling (task_of (Retiring way) (g.C.Content.notes c.args.self.now.seat.now.view)) is in
    c.part.ensures.goes.0 ∙ ap (ended c.settles.new.self.blocks.now.words.fixed) (ap known_by k.2) ∙ ap (left_with way) c.settles.ensures.slot

pub returns-clause-notes : goal.returns-clause-notes
returns-clause-notes g c =
    let b = c.requires.settling in let k = c.settles.ensures.settling (task_of (Retiring b.0) (g.C.Content.notes c.args.self.now.seat.now.view)) b.1 in
    (c.part.ensures.goes.1 ∙ ap (λ v. v.did) k.2, c.part.ensures.goes.2 ∙ ap (λ v. v.began) k.2, c.part.ensures.goes.3 ∙ ap (λ v. v.guards) k.2)
