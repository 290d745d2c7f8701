use Rattle.std.proofs.Common.{ap, sym, subst, ◌∙◌}
use Rattle.papaya_raw.specs.declared.machines.machine.Machine.{Machine}
use Rattle.threads_steps.specs.Given.ByKey.{by_key, key_call}
use Rattle.threads_steps.specs.Given.ErrandsCalling.{IsCalling, sort_of}
use Rattle.threads_steps.proofs.Given.ErrandsBeginnings.{stays_on}
use Rattle.threads_steps.specs.Storing.{Since}
use Rattle.threads_errands.proofs.Puts.{ahead_here, calling_there}
use Rattle.threads_errands.proofs.running.helps.Goals as goal

pub copies-requires-clause-ahead : goal.copies-requires-clause-ahead
copies-requires-clause-ahead g c = let v = c.args.seat.now.view in
    ahead_here g.K.PartialEq.eq g.S.Hashes.hash c.args.hasher.now (key_call g.Q.Equivalent.stands_for c.in-Key.call) v
    (subst (λ (m : Machine g.row.K.Denot g.row.V.Denot g.row.Q.Denot). IsCalling c.args.hasher.now (by_key g.Q.Equivalent.stands_for m) v) c.in-Key.is c.requires.calls)

pub stands-requires-clause-ahead : goal.stands-requires-clause-ahead
stands-requires-clause-ahead g c = c.copies.ensures.ahead

pub returns-clause-calls : goal.returns-clause-calls
returns-clause-calls g c =
    calling_there g.K.PartialEq.eq g.S.Hashes.hash c.args.hasher.now (key_call g.Q.Equivalent.stands_for c.copies.new.call) c.copies.new.seat.view c.stands.new.seat.view c.copies.ensures.ahead c.stands.ensures.stands

pub returns-clause-like : goal.returns-clause-like
returns-clause-like g c = sym (ap (λ (m : Machine g.row.K.Denot g.row.V.Denot g.row.Q.Denot). sort_of (by_key g.Q.Equivalent.stands_for m)) c.in-Key.is)

pub returns-clause-stays : goal.returns-clause-stays
returns-clause-stays g c = stays_on c.args.seat.now.view c.copies.new.seat.view c.stands.new.seat.view c.copies.ensures.stays c.stands.ensures.stands.stays

pub returns-clause-them : goal.returns-clause-them
returns-clause-them g c = λ told. c.stands.ensures.stands.calls told ∙ c.copies.ensures.them told

pub returns-clause-back : goal.returns-clause-back
returns-clause-back g c = λ pair handed since.
    c.copies.ensures.back pair handed (subst (λ (m : Machine g.row.K.Denot g.row.V.Denot g.row.Q.Denot). Since g.K.PartialEq.eq (g.S.Hashes.hash c.args.hasher.now) pair (by_key g.Q.Equivalent.stands_for m) handed) c.in-Key.is since)

pub returns-clause-same : goal.returns-clause-same
returns-clause-same g c = let s = c.stands.ensures.same in let o = c.copies.ensures.same in (s.0 ∙ o.0, s.1 ∙ o.1, s.2 ∙ o.2)
