use Rattle.std.specs.Prelude.{Ok}
use Rattle.std.proofs.Common.{sym, ◌∙◌}
use Rattle.papaya_raw.specs.CallPoints.{untried}
use Rattle.papaya_raw.specs.declared.machines.call.Calling.TheVariants as at
use Rattle.papaya_raw.specs.declared.machines.progress.Answer.TheVariants.{Key as OfKey}
use Rattle.map_straight.specs.Straight.Removing.{seeking}
use Rattle.threads_steps.proofs.Given.ErrandsBeginnings.{stays_on}
use Rattle.threads_steps.proofs.Pausing.{ended_on}
use Rattle.threads_errands.proofs.Puts.{ahead_here}
use Rattle.threads_errands.proofs.Takes.{has_removed}
use Rattle.threads_errands.proofs.removing.removes.Goals as goal

pub takes-requires-clause-own : goal.takes-requires-clause-own
takes-requires-clause-own g c = c.begins.ensures.same.0 ∙ c.requires.own

pub takes-requires-clause-away : goal.takes-requires-clause-away
takes-requires-clause-away g c = λ none. c.requires.away (sym c.begins.ensures.same.2 ∙ none)

pub takes-requires-clause-ahead : goal.takes-requires-clause-ahead
takes-requires-clause-ahead g c = let x = c.args in
    ahead_here g.K.PartialEq.eq g.S.Hashes.hash x.hasher.now (seeking x.setting x.hash (g.Q.Equivalent.stands_for x.key.now) untried at.Roots) c.begins.new.seat.view c.begins.ensures.calls

-- straight code has gone all the way
pub returns-in-Answered-clause-called : goal.returns-in-Answered-clause-called
returns-in-Answered-clause-called g c = let t = c.in-Answered.ensures.taken in
    has_removed g.K.PartialEq.eq g.S.Hashes.hash (g.Q.Equivalent.stands_for c.args.key.now) (Ok (OfKey c.in-Answered.answer)) c.args.seat.now.view c.begins.new.seat.view c.takes.new.seat.view c.begins.ensures.begun t.0 t.1

pub returns-in-Answered-clause-same : goal.returns-in-Answered-clause-same
returns-in-Answered-clause-same g c = let t = c.in-Answered.ensures.same in let b = c.begins.ensures.same in (t.0 ∙ b.0, t.1 ∙ b.1, t.2 ∙ b.2)

-- or the rest by steps
pub goes_on-requires-clause-own : goal.goes_on-requires-clause-own
goes_on-requires-clause-own g c = c.in-Stands.ensures.same.0 ∙ c.begins.ensures.same.0 ∙ c.requires.own

pub goes_on-requires-clause-away : goal.goes_on-requires-clause-away
goes_on-requires-clause-away g c = λ none. c.requires.away (sym c.begins.ensures.same.2 ∙ sym c.in-Stands.ensures.same.2 ∙ none)

pub goes_on-requires-clause-ahead : goal.goes_on-requires-clause-ahead
goes_on-requires-clause-ahead g c = c.in-Stands.ensures.taken.0

pub returns-in-Stands-clause-called : goal.returns-in-Stands-clause-called
returns-in-Stands-clause-called g c =
    let t = c.in-Stands.ensures.taken in let e = c.goes_on.ensures in
    let w = c.begins.new.seat.view in let u = c.takes.new.seat.view in let x = c.goes_on.new.seat.view in
    has_removed g.K.PartialEq.eq g.S.Hashes.hash (g.Q.Equivalent.stands_for c.args.key.now) c.goes_on.result c.args.seat.now.view w x c.begins.ensures.begun (ended_on c.goes_on.result w u x t.2 e.ended) (stays_on w u x t.1 e.stays)

pub returns-in-Stands-clause-same : goal.returns-in-Stands-clause-same
returns-in-Stands-clause-same g c =
    let r = c.goes_on.ensures.same in let t = c.in-Stands.ensures.same in let b = c.begins.ensures.same in (r.0 ∙ t.0 ∙ b.0, r.1 ∙ t.1 ∙ b.1, r.2 ∙ t.2 ∙ b.2)
