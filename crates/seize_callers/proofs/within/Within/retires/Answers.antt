-- A retirement that has ended ends its row; one that has stopped is taken to its end.
use Rattle.seize_callers.specs.Made.{IsAllowed, task_of}
use Rattle.seize_callers.proofs.Keeping.{still_kept}
use Rattle.seize_callers.specs.Kept.{kept}
use Rattle.std.proofs.Common.{◌≡◌, refl, sym, subst, ap, ◌∙◌}
use Rattle.seize.specs.declared.rows.settle.Settle.{Settle}
use Rattle.seize.specs.declared.rows.settle.Settling.TheVariants.{Over}
use Rattle.seize.specs.Settle.{retiring}
use Rattle.seize_views.specs.Views.Begun.{IsBegun, ended, left_with}
use Rattle.seize_views.specs.declared.view.Becomes.{Becomes}
use Rattle.seize_views.specs.declared.view.SlotView.TheVariants.{Settles}
use Rattle.seize_views.specs.declared.view.Why.TheVariants.{Retiring}
use Rattle.seize_views.specs.Views.Notes.{still}
use Rattle.seize_views.specs.Views.Watched.{known_by}
use Rattle.seize_callers.proofs.Turns.{may_turn, leans_turn, own_task}
use Rattle.seize_callers.proofs.Straight.{Comes, has_ended, has_stopped, may_run, retirement_row}
use Rattle.seize_callers.proofs.within.Within.retires.Given as given
use Rattle.seize_callers.proofs.within.Within.retires.Goals as goal
use Rattle.seize_callers.proofs.within.Within.retires.Goals.{In-Ended, After-settle_of}

pub retire-retired-requires : goal.retire-retired-requires
retire-retired-requires g c =
    let x = c.args.self.now in let b = c.requires.begun in
    may_run g.T.Defers.defers (λ m. g.C.Content.notes m.seat.now.view) (λ m. g.C.Content.beside m.seat.now.view) (λ m. kept m.blocks m.seat.ghost_name m.seat.now.id m.seat.now.away) (λ m. IsAllowed g.C.Rule.holds g.C.Rule.keeps g.C.Content.notes g.C.Content.beside g.T.Defers.defers g.C.Rule.then m.blocks.now.words.fixed m.seat.now.id m.seat.now.view) (task_of (Retiring b.0) (g.C.Content.notes x.seat.now.view)) (retiring c.args.slot x.batch_size c.args.link) x (retirement_row (g.C.Content.notes x.seat.now.view) c.args.slot c.args.link x.blocks.now.words.fixed.batch_size x.batch_size b.0 x.sized b.1)

-- it is over
over : (g : given.Over) (c : In-Ended g) (way : Becomes)
    → IsBegun way (retiring c.args.slot c.args.self.now.blocks.now.words.fixed.batch_size c.args.link)
    (g.C.Content.notes c.args.self.now.seat.now.view).knows
    → (d : Settle) × (d.stands ≡ Over)
    × Comes g.T.Defers.defers (λ m. g.C.Content.notes m.seat.now.view) (λ m. g.C.Content.beside m.seat.now.view) (λ m. kept m.blocks m.seat.ghost_name m.seat.now.id m.seat.now.away) (λ m. IsAllowed g.C.Rule.holds g.C.Rule.keeps g.C.Content.notes g.C.Content.beside g.T.Defers.defers g.C.Rule.then m.blocks.now.words.fixed m.seat.now.id m.seat.now.view) (task_of (Retiring way) (g.C.Content.notes c.args.self.now.seat.now.view)) (retiring c.args.slot c.args.self.now.batch_size c.args.link) c.args.self.now d c.retire-retired.new.memory
over g c way is =
    let x = c.args.self.now in
    has_ended g.T.Defers.defers (λ m. g.C.Content.notes m.seat.now.view) (λ m. g.C.Content.beside m.seat.now.view) (λ m. kept m.blocks m.seat.ghost_name m.seat.now.id m.seat.now.away) (λ m. IsAllowed g.C.Rule.holds g.C.Rule.keeps g.C.Content.notes g.C.Content.beside g.T.Defers.defers g.C.Rule.then m.blocks.now.words.fixed m.seat.now.id m.seat.now.view) (task_of (Retiring way) (g.C.Content.notes x.seat.now.view)) (retiring c.args.slot x.batch_size c.args.link) x c.retire-retired.new.memory c.in-Ended.ensures
    (retirement_row (g.C.Content.notes x.seat.now.view) c.args.slot c.args.link x.blocks.now.words.fixed.batch_size x.batch_size way x.sized is)

pub part-requires-clause-may : goal.part-requires-clause-may
part-requires-clause-may g c =
    let b = c.requires.begun in let n = c.retire-retired.new.memory in let d = over g (goal.at.part-requires-clause-may g c).In-Ended b.0 b.1 in
    may_turn g.C.Rule.holds g.C.Rule.keeps g.C.Content.notes g.C.Content.beside g.C.Rule.leans c.goes_on.ensures.turn n.blocks.now.words.fixed n.seat.now.id n.seat.now.view (Settles d.0 (Retiring b.0) d.2.0.0 d.2.0.1) (ap known_by d.2.0.2) ended still
    (d.1, refl) tt

pub part-requires-clause-errand : goal.part-requires-clause-errand
part-requires-clause-errand g c = λ home rests w so. absurd (c.retire-retired.new.memory.away home)

pub part-requires-clause-leans : goal.part-requires-clause-leans
part-requires-clause-leans g c =
    let b = c.requires.begun in let n = c.retire-retired.new.memory in let d = over g (goal.at.part-requires-clause-leans g c).In-Ended b.0 b.1 in
    leans_turn g.C.Rule.holds g.C.Rule.keeps g.C.Content.notes g.C.Content.beside g.C.Rule.leans c.goes_on.ensures.leans n.blocks.now.words.fixed n.seat.now.away n.seat.now.view (Settles d.0 (Retiring b.0) d.2.0.0 d.2.0.1) (ap known_by d.2.0.2) ended still
    (d.1, refl) tt

pub returns-in-Ended-clause-rests : goal.returns-in-Ended-clause-rests
returns-in-Ended-clause-rests g c = λ way is.
    let d = over g (goal.at.returns-in-Ended-clause-rests g c).In-Ended way is in
    c.part.ensures.goes.0 ∙ ap (ended c.retire-retired.new.memory.blocks.now.words.fixed) (ap known_by d.2.0.2) ∙ ap (left_with way) d.2.1

pub returns-in-Ended-clause-same : goal.returns-in-Ended-clause-same
returns-in-Ended-clause-same g c =
    let b = c.requires.begun in
    still_kept _ _ c.part.ensures.same.1 c.part.ensures.errand ∙ (over g (goal.at.returns-in-Ended-clause-same g c).In-Ended b.0 b.1).2.2

pub returns-in-Ended-clause-beside : goal.returns-in-Ended-clause-beside
returns-in-Ended-clause-beside g c =
    let b = c.requires.begun in c.part.ensures.goes.4 ∙ (over g (goal.at.returns-in-Ended-clause-beside g c).In-Ended b.0 b.1).2.4

pub returns-in-Ended-clause-notes : goal.returns-in-Ended-clause-notes
returns-in-Ended-clause-notes g c =
    let b = c.requires.begun in let d = over g (goal.at.returns-in-Ended-clause-notes g c).In-Ended b.0 b.1 in
    (c.part.ensures.goes.1 ∙ ap (λ v. v.did) d.2.0.2, c.part.ensures.goes.2 ∙ ap (λ v. v.began) d.2.0.2, c.part.ensures.goes.3 ∙ ap (λ v. v.guards) d.2.0.2)

-- it is the settling of the point where it has stopped
stopped : (g : given.Over) (c : After-settle_of g) (way : Becomes)
    → IsBegun way (retiring c.args.slot c.args.self.now.blocks.now.words.fixed.batch_size c.args.link)
    (g.C.Content.notes c.args.self.now.seat.now.view).knows
    → Comes g.T.Defers.defers (λ m. g.C.Content.notes m.seat.now.view) (λ m. g.C.Content.beside m.seat.now.view) (λ m. kept m.blocks m.seat.ghost_name m.seat.now.id m.seat.now.away) (λ m. IsAllowed g.C.Rule.holds g.C.Rule.keeps g.C.Content.notes g.C.Content.beside g.T.Defers.defers g.C.Rule.then m.blocks.now.words.fixed m.seat.now.id m.seat.now.view) (task_of (Retiring way) (g.C.Content.notes c.args.self.now.seat.now.view)) (retiring c.args.slot c.args.self.now.batch_size c.args.link) c.args.self.now
    c.settle_of.result c.retire-retired.new.memory
stopped g c way is =
    let x = c.args.self.now in let n = c.retire-retired.new.memory in
    subst (λ (row : Settle). Comes g.T.Defers.defers (λ m. g.C.Content.notes m.seat.now.view) (λ m. g.C.Content.beside m.seat.now.view) (λ m. kept m.blocks m.seat.ghost_name m.seat.now.id m.seat.now.away) (λ m. IsAllowed g.C.Rule.holds g.C.Rule.keeps g.C.Content.notes g.C.Content.beside g.T.Defers.defers g.C.Rule.then m.blocks.now.words.fixed m.seat.now.id m.seat.now.view) (task_of (Retiring way) (g.C.Content.notes x.seat.now.view)) (retiring c.args.slot x.batch_size c.args.link) x row n) (sym c.settle_of.ensures)
    (has_stopped g.T.Defers.defers (λ m. g.C.Content.notes m.seat.now.view) (λ m. g.C.Content.beside m.seat.now.view) (λ m. kept m.blocks m.seat.ghost_name m.seat.now.id m.seat.now.away) (λ m. IsAllowed g.C.Rule.holds g.C.Rule.keeps g.C.Content.notes g.C.Content.beside g.T.Defers.defers g.C.Rule.then m.blocks.now.words.fixed m.seat.now.id m.seat.now.view) (task_of (Retiring way) (g.C.Content.notes x.seat.now.view)) c.args.slot x.batch_size c.args.link c.retire-retired.result x n c.in_default.not-Ended c.retire-retired.ensures
    (retirement_row (g.C.Content.notes x.seat.now.view) c.args.slot c.args.link x.blocks.now.words.fixed.batch_size x.batch_size way x.sized is))

pub ends-requires : goal.ends-requires
ends-requires g c =
    let b = c.requires.begun in record { settling = (b.0, own_task (task_of (Retiring b.0) (g.C.Content.notes c.args.self.now.seat.now.view)) c.settle_of.result (g.C.Content.notes c.retire-retired.new.memory.seat.now.view) (stopped g (goal.at.ends-requires g c).After-settle_of b.0 b.1).0) }

pub returns-in_default : goal.returns-in_default
returns-in_default g c =
    let b = c.requires.begun in let at = (goal.at.returns-in_default g c).After-settle_of in let x = c.args.self.now in let n = c.retire-retired.new.memory in
    let s = stopped g at b.0 b.1 in record {
      rests = λ way is.
          let k = stopped g at way is in
          c.ends.ensures.rests way (own_task (task_of (Retiring way) (g.C.Content.notes x.seat.now.view)) c.settle_of.result (g.C.Content.notes n.seat.now.view) k.0) ∙ ap (left_with way) k.1;
      notes = (c.ends.ensures.notes.0 ∙ ap (λ v. v.did) s.0.2, c.ends.ensures.notes.1 ∙ ap (λ v. v.began) s.0.2, c.ends.ensures.notes.2 ∙ ap (λ v. v.guards) s.0.2);
      same = c.ends.ensures.same ∙ s.2;
      beside = c.ends.ensures.beside ∙ s.4;
    }
