use Rattle.std.specs.Prelude.{None}
use Rattle.std.proofs.Common.{◌≡◌, ℕ, refl, ap, sym, ◌∙◌}
use Rattle.seize.specs.declared.rows.settle.Settle.{Settle}
use Rattle.seize.specs.Settle.{counting_down}
use Rattle.seize_views.specs.Views.Begun.{ended}
use Rattle.seize_views.specs.Views.Notes.{still, noted}
use Rattle.seize_views.specs.Views.Told.{list_taken}
use Rattle.seize_views.specs.Views.Watched.{known_by}
use Rattle.seize_views.specs.declared.view.Becomes.{Becomes}
use Rattle.seize_views.specs.declared.view.SlotView.TheVariants.{Settles, Left}
use Rattle.seize_views.specs.declared.view.Why.TheVariants.{Ending}
use Rattle.seize_callers.specs.Made.{IsSettling, task_of}
use Rattle.seize_callers.proofs.Turns.{may_turn, leans_turn, row_told}
use Rattle.seize_callers.proofs.within.Within.counts_entries.Given as given
use Rattle.seize_callers.proofs.within.Within.counts_entries.Goals as goal
use Rattle.seize_callers.proofs.within.Within.counts_entries.Goals.{After-count_down-row}

row_is : (g : given.Over) (c : After-count_down-row g)
    → c.count_down-row.result ≡ counting_down c.args.slot c.args.self.now.blocks.now.words.fixed.batch_size c.args.head
row_is g c = c.count_down-row.ensures ∙ ap (λ (n : ℕ). counting_down c.args.slot n c.args.head) (sym c.args.self.now.sized)

-- the row counts it down
begins : (g : given.Over) (c : After-count_down-row g) (way : Becomes) (left : ℕ)
    → (g.C.Content.notes c.args.self.now.seat.now.view).knows
    ≡ list_taken c.args.slot c.args.self.now.blocks.now.words.fixed.batch_size way c.args.head left
    → IsSettling
    (task_of (Ending c.args.self.now.blocks.now.words.fixed.batch_size way) (g.C.Content.notes c.args.self.now.seat.now.view)) c.count_down-row.result
    (g.C.Content.notes c.args.self.now.seat.now.view)
begins g c way left is =
    let x = c.args.self.now in let v = g.C.Content.notes x.seat.now.view in (
      None,
      left,
      ap (λ k. noted k v.did v.began v.guards)
          (row_told g.T.Defers.defers v.knows v.knows c.args.slot x.blocks.now.words.fixed.batch_size way c.args.head left c.count_down-row.result
          is c.requires.some (row_is g c)),
    )

pub settles-requires : goal.settles-requires
settles-requires g c =
    let x = c.args.self.now in let t = c.requires.taken in
    record { settling = (task_of (Ending x.blocks.now.words.fixed.batch_size t.0) (g.C.Content.notes x.seat.now.view), begins g (goal.at.settles-requires g c).After-count_down-row t.0 t.1 t.2) }

pub part-requires-clause-may : goal.part-requires-clause-may
part-requires-clause-may g c =
    let x = c.args.self.now in let size = x.blocks.now.words.fixed.batch_size in let t = c.requires.taken in let n = c.settles.new.self in let k =
    c.settles.ensures.settling (task_of (Ending size t.0) (g.C.Content.notes x.seat.now.view))
    (begins g (goal.at.part-requires-clause-may g c).After-count_down-row t.0 t.1 t.2) in
    may_turn g.C.Rule.holds g.C.Rule.keeps g.C.Content.notes g.C.Content.beside g.C.Rule.leans c.goes_on.ensures.turn n.blocks.now.words.fixed n.seat.now.id n.seat.now.view
    (Settles c.settles.new.row (Ending size t.0) k.0 k.1) (ap known_by k.2) ended still (c.settles.ensures.over, refl) tt

pub part-requires-clause-errand : goal.part-requires-clause-errand
part-requires-clause-errand g c = λ home rests w so. absurd (c.settles.new.self.away home)

pub part-requires-clause-leans : goal.part-requires-clause-leans
part-requires-clause-leans g c =
    let x = c.args.self.now in let size = x.blocks.now.words.fixed.batch_size in let t = c.requires.taken in let n = c.settles.new.self in let k =
    c.settles.ensures.settling (task_of (Ending size t.0) (g.C.Content.notes x.seat.now.view))
    (begins g (goal.at.part-requires-clause-leans g c).After-count_down-row t.0 t.1 t.2) in
    leans_turn g.C.Rule.holds g.C.Rule.keeps g.C.Content.notes g.C.Content.beside g.C.Rule.leans c.goes_on.ensures.leans n.blocks.now.words.fixed n.seat.now.away n.seat.now.view
    (Settles c.settles.new.row (Ending size t.0) k.0 k.1) (ap known_by k.2) ended still (c.settles.ensures.over, refl) tt

pub returns-clause-left : goal.returns-clause-left
returns-clause-left g c = λ way left is.
    let x = c.args.self.now in let size = x.blocks.now.words.fixed.batch_size in let row = (goal.at.returns-clause-left g c).After-count_down-row in
    let k = c.settles.ensures.settling (task_of (Ending size way) (g.C.Content.notes x.seat.now.view)) (begins g row way left is) in
    c.part.ensures.goes.0 ∙ ap (ended c.settles.new.self.blocks.now.words.fixed) (ap known_by k.2)
    ∙ ap (λ (t : ℕ). Left t size way) (c.settles.ensures.slot ∙ ap (λ (r : Settle). r.slot) (row_is g row))

pub returns-clause-notes : goal.returns-clause-notes
returns-clause-notes g c =
    let x = c.args.self.now in let size = x.blocks.now.words.fixed.batch_size in let t = c.requires.taken in let k =
    c.settles.ensures.settling (task_of (Ending size t.0) (g.C.Content.notes x.seat.now.view))
    (begins g (goal.at.returns-clause-notes g c).After-count_down-row t.0 t.1 t.2) in
    (c.part.ensures.goes.1 ∙ ap (λ v. v.did) k.2, c.part.ensures.goes.2 ∙ ap (λ v. v.began) k.2, c.part.ensures.goes.3 ∙ ap (λ v. v.guards) k.2)
