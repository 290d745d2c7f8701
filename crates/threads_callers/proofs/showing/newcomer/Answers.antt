use Rattle.std.proofs.Common.{ap, inl, subst, sym, ◌∙◌}
use Rattle.threads_errands.proofs.Given.ViewsLaws.{seats_come}
use Rattle.threads_errands.specs.Given.ViewsBegun.{shown_map}
use Rattle.threads_errands.specs.Given.ViewsNotes.{SeatIsQuiescent}
use Rattle.threads_errands.specs.Given.ViewsDeclared.view.View.{View}
use Rattle.threads_callers.proofs.Newcomers.{may_learn, shown_leans}
use Rattle.threads_callers.proofs.Known.{known_some}
use Rattle.threads_callers.specs.Standing.{come_to}
use Rattle.threads_callers.proofs.showing.newcomer.Goals as goal

pub seat-other-requires : goal.seat-other-requires
seat-other-requires g c = seats_come g.row.V.Denot g.K.PartialEq.eq g.S.Hashes.hash c.args.blocks.now.words.fixed

pub learn-requires-clause-may : goal.learn-requires-clause-may
learn-requires-clause-may g c =
    let other = c.seat-other.result in
    let x = c.args.seat.now in
    let k = known_some x.view.map c.requires.knows in
    may_learn g.K.PartialEq.eq g.S.Hashes.hash c.args.blocks.now.words.fixed other.id other.view x.id x.view k.0 k.1 c.requires.good
    (ap (λ (v : View g.row.K.Denot g.row.V.Denot g.row.S.Denot). v.work) c.seat-other.ensures.1)

-- who knows a map more has no more under way
pub learn-requires-clause-errand : goal.learn-requires-clause-errand
learn-requires-clause-errand g c = λ home rests w so.
    subst (λ (v : View g.row.K.Denot g.row.V.Denot g.row.S.Denot). SeatIsQuiescent v)
    (sym (so.2 ∙ ap (λ (v : View g.row.K.Denot g.row.V.Denot g.row.S.Denot). shown_map v so.0) c.seat-other.ensures.1)) tt

pub learn-requires-clause-leans : goal.learn-requires-clause-leans
learn-requires-clause-leans g c = λ v so n leans. inl (shown_leans c.seat-other.result.view v so.0 n so.2 leans)

pub returns-clause-shown : goal.returns-clause-shown
returns-clause-shown g c =
    let s = c.learn.ensures.goes in s.2 ∙ ap (λ (v : View g.row.K.Denot g.row.V.Denot g.row.S.Denot). shown_map v s.0) c.seat-other.ensures.1 ∙ ap come_to (sym s.1)
