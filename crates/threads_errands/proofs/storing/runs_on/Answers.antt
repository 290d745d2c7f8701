use Rattle.std.proofs.Common.{sym, subst, ◌∙◌}
use Rattle.papaya_raw.specs.declared.machines.machine.Machine.{Machine}
use Rattle.threads_steps.specs.Given.ErrandsCalling.{IsCalling}
use Rattle.threads_steps.specs.Storing.{Since}
use Rattle.threads_steps.proofs.Forms.{by_key_of_keys}
use Rattle.threads_steps.proofs.Given.ErrandsBeginnings.{stays_on}
use Rattle.threads_steps.proofs.Given.ErrandsRuns.{same_pair}
use Rattle.threads_steps.proofs.Pausing.{ended_on}
use Rattle.threads_errands.specs.Ahead.{LiesAhead, StandsAt}
use Rattle.threads_errands.proofs.Puts.{calls_there}
use Rattle.threads_errands.proofs.storing.runs_on.Goals as goal

-- a key stands for itself
pub stands-requires-clause-ahead : goal.stands-requires-clause-ahead
stands-requires-clause-ahead g c =
    subst (λ (m : Machine g.row.K.Denot g.row.V.Denot g.row.K.Denot). LiesAhead g.K.PartialEq.eq g.S.Hashes.hash c.args.hasher.now m c.args.seat.now.view) (sym (by_key_of_keys c.args.machine)) c.requires.ahead

pub runs-requires-clause-calls : goal.runs-requires-clause-calls
runs-requires-clause-calls g c =
    let v = c.args.seat.now.view in let w = c.stands.new.seat.view in
    subst (λ (m : Machine g.row.K.Denot g.row.V.Denot g.row.K.Denot). IsCalling c.args.hasher.now m w) (sym (by_key_of_keys c.args.machine))
    (calls_there g.K.PartialEq.eq g.S.Hashes.hash c.args.hasher.now c.args.machine v w c.requires.ahead
    (subst (λ (m : Machine g.row.K.Denot g.row.V.Denot g.row.K.Denot). StandsAt m v w) (by_key_of_keys c.args.machine) c.stands.ensures.stands))

pub returns-clause-ended : goal.returns-clause-ended
returns-clause-ended g c = ended_on c.runs.result.told c.args.seat.now.view c.stands.new.seat.view c.runs.new.seat.view c.stands.ensures.stands.calls c.runs.ensures.ended

pub returns-clause-stays : goal.returns-clause-stays
returns-clause-stays g c = stays_on c.args.seat.now.view c.stands.new.seat.view c.runs.new.seat.view c.stands.ensures.stands.stays c.runs.ensures.stays

pub returns-clause-back : goal.returns-clause-back
returns-clause-back g c = λ pair since its.
    c.runs.ensures.back pair
    (subst (λ (m : Machine g.row.K.Denot g.row.V.Denot g.row.K.Denot). Since g.K.PartialEq.eq (g.S.Hashes.hash c.args.hasher.now) pair m c.args.handed) (sym (by_key_of_keys c.args.machine)) since)
    (same_pair c.args.seat.now.view c.stands.new.seat.view c.stands.ensures.stands.calls ∙ its)

pub returns-clause-same : goal.returns-clause-same
returns-clause-same g c = let r = c.runs.ensures.same in let s = c.stands.ensures.same in (r.0 ∙ s.0, r.1 ∙ s.1, r.2 ∙ s.2)
