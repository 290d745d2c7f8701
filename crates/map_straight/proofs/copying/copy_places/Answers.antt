-- Each place leads on.
use Rattle.seize_straight.specs.Runs.{none_taken}
use Rattle.seize_straight.proofs.Running.{leads_on, runs_along}
use Rattle.map_straight.proofs.copying.copy_places.Goals as goal

pub loop-init : goal.loop-init
loop-init g c =
    record { led = none_taken _ _ }

pub copy_place-requires : goal.copy_place-requires
copy_place-requires g c =
    runs_along _ _ _ _ _ _ _ _ _ c.loop.invariant.led c.requires

pub loop-preserved : goal.loop-preserved
loop-preserved g c =
    record { led = leads_on _ _ _ _ _ _ _ _ _ _ c.loop.invariant.led c.copy_place.ensures }

pub returns-then-not-copy_place : goal.returns-then-not-copy_place
returns-then-not-copy_place g c =
    leads_on _ _ _ _ _ _ _ _ _ _ c.loop.invariant.led c.copy_place.ensures

pub returns : goal.returns
returns g c =
    c.loop.invariant.led
