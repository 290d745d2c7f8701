use Rattle.seize.specs.ReclaimAll.{none_left}
use Rattle.std.proofs.Common.{sym, subst, ◌∙◌}
use Rattle.seize_seats.specs.Seats.Errands.{RenewsFrom}
use Rattle.seize_seats.specs.Seats.Start.{WasKnown}
use Rattle.seize_views.specs.Views.Notes.{NotedHolds}
use Rattle.seize_views.specs.declared.view.Fixed.{Fixed}
use Rattle.seize_reclaims.specs.Renews.One.{HoldsOne}
use Rattle.seize_reclaims.specs.declared.alone.Alone.{Alone}
use Rattle.seize_reclaims.specs.declared.alone.Alone.TheVariants.{Reclaims}
use Rattle.seize_words.proofs.General.{same_some}
use Rattle.seize_reclaims.proofs.Empties.Alone.{like_on}
use Rattle.seize_reclaims.proofs.reclaim.emptied.Goals as goal

pub used-requires-clause-ends : goal.used-requires-clause-ends
used-requires-clause-ends g c =
    let k = c.acts-seat.ensures.over in let f = c.args.fixed.now in let defers = g.T.Defers.defers in let left_over = none_left in
    let id = c.acts-seat.result.id in
    let rests : Alone g.row.T.Denot → Type 0 = λ v. Unit {0} in
    let ends = c.one_acts_alone.ensures.ends defers left_over f id k.0 k.2.0 k.2.1 k.1 in
    let there = subst (λ (v : Alone g.row.T.Denot). RenewsFrom rests (HoldsOne defers left_over f) (NotedHolds defers f) id v) (same_some (Reclaims k.0 k.2.0 k.2.1) c.acts-seat.result.view (sym k.2.2)) ends in
    subst (λ (x : Fixed). RenewsFrom rests (HoldsOne defers left_over x) (NotedHolds defers f) id c.acts-seat.result.view) (sym c.alone-home.ensures.fixed) there

pub returns-clause-empty : goal.returns-clause-empty
returns-clause-empty g c =
    let k = c.acts-seat.ensures.over in let f = c.args.fixed.now in let defers = g.T.Defers.defers in let left_over = none_left in
    let id = c.acts-seat.result.id in let m = c.used.result.blocks.words.start in
    let rests : Alone g.row.T.Denot → Type 0 = λ v. Unit {0} in
    let there = subst (λ (x : Fixed). WasKnown rests (HoldsOne defers left_over x) id c.acts-seat.result.view m) c.alone-home.ensures.fixed c.used.ensures.start in
    let known = subst (λ (v : Alone g.row.T.Denot). WasKnown rests (HoldsOne defers left_over f) id v m) (same_some c.acts-seat.result.view (Reclaims k.0 k.2.0 k.2.1) k.2.2) there in
    c.one_acts_alone.ensures.empties defers left_over f id k.0 k.2.0 k.2.1 m c.acts-seat.ensures.sized k.1 known

pub returns-clause-same : goal.returns-clause-same
returns-clause-same g c =
    let a = c.used.ensures.same in let b = c.alone-home.ensures.same in
    (a.0 ∙ b.0, like_on c.used.result.blocks.words.id c.alone-home.result.0.blocks.words.id c.args.home.blocks.words.id a.1 b.1)
