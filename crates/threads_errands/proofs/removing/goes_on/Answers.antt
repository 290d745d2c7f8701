use Rattle.std.proofs.Common.{sym, subst, ◌∙◌}
use Rattle.map_tables.specs.declared.lent.Lent.{Lent}
use Rattle.papaya_raw.specs.declared.machines.call.KeyCall.{KeyCall}
use Rattle.threads_steps.specs.Given.ByKey.{key_call}
use Rattle.threads_steps.proofs.Given.ErrandsBeginnings.{stays_on}
use Rattle.threads_steps.proofs.Pausing.{ended_on}
use Rattle.threads_errands.specs.Ahead.{IsAhead}
use Rattle.threads_errands.proofs.Puts.{calling_there}
use Rattle.threads_errands.proofs.removing.goes_on.Goals as goal

-- asked with what stands for a key, lent, it is the call by that key
pub stands-requires-clause-ahead : goal.stands-requires-clause-ahead
stands-requires-clause-ahead g c =
    subst
    (λ (x : KeyCall g.row.K.Denot g.row.V.Denot (Lent g.row.K.Denot g.row.Q.Denot)).
    IsAhead g.K.PartialEq.eq g.S.Hashes.hash c.args.hasher.now (key_call (λ (q : Lent g.row.K.Denot g.row.Q.Denot). g.Q.Equivalent.stands_for q.asked.now) x) c.args.seat.now.view)
    (sym c.removal_of-call.ensures) c.requires.ahead

pub runs-ran-requires-clause-calls : goal.runs-ran-requires-clause-calls
runs-ran-requires-clause-calls g c =
    let stands_for = λ (q : Lent g.row.K.Denot g.row.Q.Denot). g.Q.Equivalent.stands_for q.asked.now in
    calling_there g.K.PartialEq.eq g.S.Hashes.hash c.args.hasher.now (key_call stands_for c.removal_of-call.result) c.args.seat.now.view c.stands.new.seat.view
    (subst
    (λ (x : KeyCall g.row.K.Denot g.row.V.Denot (Lent g.row.K.Denot g.row.Q.Denot)). IsAhead g.K.PartialEq.eq g.S.Hashes.hash c.args.hasher.now (key_call stands_for x) c.args.seat.now.view)
    (sym c.removal_of-call.ensures) c.requires.ahead)
    c.stands.ensures.stands

pub returns-clause-ended : goal.returns-clause-ended
returns-clause-ended g c =
    ended_on c.runs-ran.result.told c.args.seat.now.view c.stands.new.seat.view c.runs-ran.new.seat.view c.stands.ensures.stands.calls c.runs-ran.ensures.ended

pub returns-clause-stays : goal.returns-clause-stays
returns-clause-stays g c = stays_on c.args.seat.now.view c.stands.new.seat.view c.runs-ran.new.seat.view c.stands.ensures.stands.stays c.runs-ran.ensures.stays

pub returns-clause-same : goal.returns-clause-same
returns-clause-same g c = let r = c.runs-ran.ensures.same in let s = c.stands.ensures.same in (r.0 ∙ s.0, r.1 ∙ s.1, r.2 ∙ s.2)
