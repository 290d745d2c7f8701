use Rattle.std.proofs.Common.{◌≡◌, sym, subst, ap, ◌∙◌}
use Rattle.seize_seats.specs.Seats.Errands.{RenewsInto}
use Rattle.seize_seats.specs.Seats.Start.{WasKnown}
use Rattle.seize_views.specs.declared.view.Fixed.{Fixed}
use Rattle.seize_reclaims.proofs.Empties.Alone.{like_on}
use Rattle.threads_rule.specs.Views.Notes.{SeatIsQuiescent}
use Rattle.threads_rule.specs.Views.Rule.{Holds}
use Rattle.threads_reclaims.specs.Reclaims.Rule.{HoldsOne, one_first, kept_of, acts_of, all_in}
use Rattle.threads_reclaims.specs.declared.sole.Sole.TheVariants.{Left}
use Rattle.threads_reclaims.proofs.reclaim.reclaim_all.Goals as goal

pub inherits-home-requires-clause-rests : goal.inherits-home-requires-clause-rests
inherits-home-requires-clause-rests g c = (tt, λ v rests. tt)

pub inherits-home-requires-clause-ends : goal.inherits-home-requires-clause-ends
inherits-home-requires-clause-ends g c =
    let f = c.args.fixed.now in let same = g.K.PartialEq.eq in let hash = g.S.Hashes.hash in
    subst (λ (x : Fixed). RenewsInto SeatIsQuiescent (Holds same hash x) (HoldsOne same hash f) c.args.seat.id c.args.seat.view Left (one_first f c.args.seat.view)) (sym c.requires.fixed)
    (c.one_reclaims_maps.ensures.begins same hash f c.args.seat.id c.args.seat.view c.requires.rests)

pub acts-seat-requires-clause-begins : goal.acts-seat-requires-clause-begins
acts-seat-requires-clause-begins g c = let e = c.inherits-home.ensures.comes.2 in (ap acts_of e, ap all_in e)

pub inherits-requires-clause-rests : goal.inherits-requires-clause-rests
inherits-requires-clause-rests g c = (tt, λ v rests. tt)

pub inherits-requires-clause-ends : goal.inherits-requires-clause-ends
inherits-requires-clause-ends g c =
    let f = c.args.fixed.now in let same = g.K.PartialEq.eq in let hash = g.S.Hashes.hash in let k = c.acts-seat.ensures.over in let seat = c.acts-seat.result in
    subst (λ (x : Fixed). RenewsInto (λ _. Unit {0}) (HoldsOne same hash x) (Holds same hash f) seat.id seat.view kept_of (kept_of seat.view)) (sym c.inherits-home.ensures.fixed)
    (c.one_reclaims_maps.ensures.ends same hash f seat.id seat.view k.0 k.2.0 k.2.1 c.acts-seat.ensures.sized k.2.2 k.1)

pub returns-clause-knows : goal.returns-clause-knows
returns-clause-knows g c = c.inherits.ensures.comes.2 ∙ c.acts-seat.ensures.own.1 ∙ ap kept_of c.inherits-home.ensures.comes.2

pub returns-clause-same : goal.returns-clause-same
returns-clause-same g c =
    let a = c.inherits.ensures.same in let b = c.inherits-home.ensures.same in
    (a.0 ∙ b.0, like_on c.inherits.result.0.blocks.words.id c.inherits-home.result.0.blocks.words.id c.args.home.blocks.words.id a.1 b.1)

pub returns-clause-empty : goal.returns-clause-empty
returns-clause-empty g c =
    let f = c.args.fixed.now in let same = g.K.PartialEq.eq in let hash = g.S.Hashes.hash in let k = c.acts-seat.ensures.over in let seat = c.acts-seat.result in
    let m = c.inherits.result.0.blocks.words.start in
    c.one_reclaims_maps.ensures.empties same hash f seat.id seat.view k.0 k.2.0 k.2.1 m c.acts-seat.ensures.sized k.2.2 k.1
    (subst (λ (x : Fixed). WasKnown (λ _. Unit {0}) (HoldsOne same hash x) seat.id seat.view m) c.inherits-home.ensures.fixed c.inherits.ensures.start)
