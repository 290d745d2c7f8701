-- Each try leads on.
use Rattle.seize_straight.specs.Runs.{none_taken}
use Rattle.seize_straight.proofs.Running.{leads_on, runs_along}
use Rattle.map_straight.proofs.storing.try_places.Goals as goal

pub loop-init : goal.loop-init
loop-init g c =
    record { led = none_taken _ _ }

pub try_place-requires-clause-may : goal.try_place-requires-clause-may
try_place-requires-clause-may g c =
    runs_along _ _ _ _ _ _ _ _ _ c.loop.invariant.led c.requires.may

pub loop-preserved : goal.loop-preserved
loop-preserved g c =
    record { led = leads_on _ _ _ _ _ _ _ _ _ _ c.loop.invariant.led c.in-Next.ensures }

pub returns-in_default : goal.returns-in_default
returns-in_default g c =
    leads_on _ _ _ _ _ _ _ _ _ _ c.loop.invariant.led c.try_place.ensures

pub returns : goal.returns
returns g c =
    c.loop.invariant.led
