use Rattle.std.proofs.Common.{sym, subst}
use Rattle.map_tables.specs.declared.node.Node.{Node}
use Rattle.papaya_raw.specs.declared.machines.progress.Progress.{Progress}
use Rattle.threads_calls.specs.Given.ErrandsSweeping.{RetainedSo}
use Rattle.threads_sweeps.specs.Closures.{HeedsSo}
use Rattle.threads_sweeps.specs.Heard.{IsHeard}
use Rattle.threads_sweeps.specs.declared.hearing.Heard.{Heard}
use Rattle.threads_sweeps.proofs.Closures.{heeds_no_more, heeds_none, retains_on}
use Rattle.threads_sweeps.proofs.retaining.tells_asked.Goals as goal

pub tells-requires : goal.tells-requires
tells-requires g c =
    let has = c.requires.retained in
    let so = subst (λ (t : Progress (Node g.row.K.Denot g.row.V.Denot)). RetainedSo c.args.hasher.now c.args.machine.now t c.args.within.now.seat.now.view)
    (subst (λ (h : Heard). IsHeard has.0 h) c.in-Asks.is has.1) has.2 in record { asks = so.0; shown = so.1; callable = c.requires.callable }

pub returns-in-Goes-clause-goes : goal.returns-in-Goes-clause-goes
returns-in-Goes-clause-goes g c =
    let has = c.requires.retained in retains_on c.args.hasher.now c.args.machine.now c.args.within.now.seat.now.view has.0 (subst (λ (h : Heard). IsHeard has.0 h) c.in-Goes.is has.1) has.2

pub returns-in-Goes-clause-heeded : goal.returns-in-Goes-clause-heeded
returns-in-Goes-clause-heeded g c = λ told is.
    heeds_none g.F.FnMut c.args.keep.now c.args.within.now.seat.now.view told (subst (λ (h : Heard). IsHeard told h) c.in-Goes.is is)

pub returns-in-Asks-clause-heeded : goal.returns-in-Asks-clause-heeded
returns-in-Asks-clause-heeded g c = λ told is.
    subst (λ (t : Progress (Node g.row.K.Denot g.row.V.Denot)). HeedsSo g.F.FnMut t c.args.keep.now c.args.within.now.seat.now.view c.tells.new.keep c.tells.new.within.seat.now.view)
    (sym (subst (λ (h : Heard). IsHeard told h) c.in-Asks.is is)) c.tells.ensures.told

pub returns-in-Ended-clause-heeded : goal.returns-in-Ended-clause-heeded
returns-in-Ended-clause-heeded g c = λ told is.
    heeds_no_more g.F.FnMut c.args.keep.now c.args.within.now.seat.now.view told c.in-Ended.end (subst (λ (h : Heard). IsHeard told h) c.in-Ended.is is)
