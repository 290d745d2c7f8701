use Rattle.std.proofs.Common.{sym, subst, ap}
use Rattle.std.specs.Prelude.{Bool}
use Rattle.papaya_raw.specs.Given.ReservesDeclared.sweep.Purpose.TheVariants.{Walks}
use Rattle.papaya_raw.specs.declared.machines.machine.Machine.{Machine}
use Rattle.threads_rule.specs.Errands.Sweeping.{IsSweeping}
use Rattle.threads_rule.proofs.Errands.Sweeping.{asked_so}
use Rattle.threads_steps.proofs.within.Within.asks_next.Goals as goal

pub asks_as-requires-clause-knows : goal.asks_as-requires-clause-knows
asks_as-requires-clause-knows g c = let at = c.requires.ready.at in (at.map, at.knows)

pub asks_as-requires-clause-works : goal.asks_as-requires-clause-works
asks_as-requires-clause-works g c = c.requires.ready.at.works

pub returns-clause-walks : goal.returns-clause-walks
returns-clause-walks g c =
    subst (λ (m : Machine g.row.K.Denot g.row.V.Denot g.row.K.Denot). IsSweeping Walks c.args._hasher.now m c.asks_as.new.self.seat.now.view)
    (sym (ap (λ (x : Machine g.row.K.Denot g.row.V.Denot g.row.K.Denot × Bool). x.0) c.next.ensures))
    (asked_so c.args._hasher.now c.args.machine.now c.args.self.now.seat.now.view c.asks_as.new.self.seat.now.view c.requires.ready c.asks_as.ensures.asked)
