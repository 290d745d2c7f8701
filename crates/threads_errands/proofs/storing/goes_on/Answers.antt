use Rattle.std.specs.Prelude.{None}
use Rattle.std.proofs.Common.{sym, subst}
use Rattle.papaya_raw.specs.declared.machines.call.KeyCall.{KeyCall}
use Rattle.papaya_raw.specs.declared.machines.machine.Machine.TheVariants.{Key}
use Rattle.threads_steps.specs.Storing.{Since}
use Rattle.threads_errands.specs.Ahead.{IsAhead}
use Rattle.threads_errands.proofs.storing.goes_on.Goals as goal

pub runs_on-requires-clause-ahead : goal.runs_on-requires-clause-ahead
runs_on-requires-clause-ahead g c =
    subst (λ (x : KeyCall g.row.K.Denot g.row.V.Denot g.row.K.Denot). IsAhead g.K.PartialEq.eq g.S.Hashes.hash c.args.hasher.now x c.args.seat.now.view) (sym c.call_of-call.ensures)
    c.requires.ahead

pub returns-clause-ended : goal.returns-clause-ended
returns-clause-ended g c = c.runs_on.ensures.ended

pub returns-clause-stays : goal.returns-clause-stays
returns-clause-stays g c = c.runs_on.ensures.stays

pub returns-clause-back : goal.returns-clause-back
returns-clause-back g c = λ pair since.
    c.runs_on.ensures.back pair
    (subst (λ (x : KeyCall g.row.K.Denot g.row.V.Denot g.row.K.Denot). Since g.K.PartialEq.eq (g.S.Hashes.hash c.args.hasher.now) pair (Key x) None) (sym c.call_of-call.ensures) since)

pub returns-clause-same : goal.returns-clause-same
returns-clause-same g c = c.runs_on.ensures.same
