-- Each block leads on.
use Rattle.std.specs.Prelude.{None, Some}
use Rattle.seize_straight.specs.Runs.{none_taken}
use Rattle.seize_straight.proofs.Reclaimings.{may_once, reclaims_on}
use Rattle.seize_straight.proofs.Running.{leads_on, runs_along}
use Rattle.seize_straight.proofs.reclaiming.reclaims.Goals as goal

pub loop-init : goal.loop-init
loop-init g c =
    record { led = none_taken _ _ }

pub reclaim-requires : goal.reclaim-requires
reclaim-requires g c =
    may_once g.T.Defers.defers g.M.Look.can g.M.Look.took g.M.Look.shown _ _ (runs_along _ _ _ _ _ _ _ _ _ c.loop.invariant.led c.requires)

pub loop-preserved : goal.loop-preserved
loop-preserved g c =
    record { led = leads_on _ _ _ _ _ _ _ _ _ _ c.loop.invariant.led (reclaims_on g.T.Defers.defers g.M.Look.can g.M.Look.took g.M.Look.shown _ _ _ _ (Some c.in-Some.field-0) c.in-Some.ensures) }

pub returns-in-None : goal.returns-in-None
returns-in-None g c =
    leads_on _ _ _ _ _ _ _ _ _ _ c.loop.invariant.led (reclaims_on g.T.Defers.defers g.M.Look.can g.M.Look.took g.M.Look.shown _ _ _ _ None c.in-None.ensures)

pub returns : goal.returns
returns g c =
    c.loop.invariant.led
