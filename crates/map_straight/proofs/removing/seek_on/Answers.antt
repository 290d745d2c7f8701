-- Each try leads on.
use Rattle.papaya_raw.specs.Call.{call_plan}
use Rattle.map_straight.specs.Straight.Going.{CallGoes}
use Rattle.map_straight.specs.Straight.Removing.{removed_at}
use Rattle.seize_straight.specs.Runs.{none_taken}
use Rattle.seize_straight.proofs.Running.{leads_on, reaches_on, runs_along}
use Rattle.map_straight.proofs.removing.seek_on.Goals as goal

pub loop-init : goal.loop-init
loop-init g c =
    record { led = none_taken _ _ }

pub seek-requires : goal.seek-requires
seek-requires g c =
    runs_along _ _ _ _ _ _ _ _ _ c.loop.invariant.led c.requires

pub loop-preserved : goal.loop-preserved
loop-preserved g c =
    record { led = leads_on _ _ _ _ _ _ _ _ _ _ c.loop.invariant.led c.in-Next.ensures }

pub returns-in-Ends : goal.returns-in-Ends
returns-in-Ends g c =
    reaches_on CallGoes g.M.Look.took g.M.Look.shown (call_plan g.Q.Equivalent.equivalent g.K.PartialEq.eq (g.S.Hashes.hash c.args.hasher.now)) _ _ _ _ _ (removed_at c.args.setting c.args.hash c.args.asked.now c.in-Ends.end) c.loop.invariant.led c.in-Ends.ensures

pub returns : goal.returns
returns g c =
    c.loop.invariant.led
