-- Each try leads on.
use Rattle.map_machines.specs.Lookup.{lookup_plan}
use Rattle.map_straight.specs.Straight.Going.{LookGoes}
use Rattle.map_straight.specs.Straight.Looking.{sight_at}
use Rattle.seize_straight.specs.Runs.{none_taken}
use Rattle.seize_straight.proofs.Running.{leads_on, reaches_on, runs_along}
use Rattle.map_straight.proofs.looking.look_on.Goals as goal

pub loop-init : goal.loop-init
loop-init g c =
    record { led = none_taken _ _ }

pub look_at-requires : goal.look_at-requires
look_at-requires g c =
    runs_along _ _ _ _ _ _ _ _ _ c.loop.invariant.led c.requires

pub loop-preserved : goal.loop-preserved
loop-preserved g c =
    record { led = leads_on _ _ _ _ _ _ _ _ _ _ c.loop.invariant.led c.in-Next.ensures }

pub returns-in-Ends : goal.returns-in-Ends
returns-in-Ends g c =
    reaches_on LookGoes g.M.Look.took g.M.Look.shown (lookup_plan (g.Q.Equivalent.equivalent c.args.asked.now)) _ _ _ _ _ (sight_at c.args.root c.args.mode c.args.hash c.in-Ends.end) c.loop.invariant.led c.in-Ends.ensures

pub returns : goal.returns
returns g c =
    c.loop.invariant.led
