-- A step of the call on a key is the machine's, with its outcome turned.
use Rattle.map_sweeps.proofs.Given.SeizeWordsPlans.{may_as}
use Rattle.map_sweeps.proofs.Given.SeizeStepsInto.{steps_into}
use Rattle.std.proofs.Common.{ap}
use Rattle.papaya_raw.specs.declared.machines.machine.Machine.TheVariants as kinds
use Rattle.papaya_raw.specs.Call.{call_plan}
use Rattle.papaya_raw.specs.Machine.{called}
use Rattle.papaya_raw.proofs.machines.machine.Machine.calls.Goals as goal

pub step-told-requires : goal.step-told-requires
step-told-requires g c =
    may_as (called {K = g.row.K.Denot} {V = g.row.V.Denot} {Q = g.row.Q.Denot}) g.M.Look.can g.M.Look.took g.M.Look.shown c.args.memory.now
    (call_plan g.Q.Equivalent.equivalent g.K.PartialEq.eq (g.S.Hashes.hash c.args.hasher.now) c.args.call.now) c.requires

pub returns : goal.returns
returns g c =
    steps_into (called {K = g.row.K.Denot} {V = g.row.V.Denot} {Q = g.row.Q.Denot}) g.M.Look.can g.M.Look.took g.M.Look.shown c.args.memory.now c.step-told.new.memory
    (call_plan g.Q.Equivalent.equivalent g.K.PartialEq.eq (g.S.Hashes.hash c.args.hasher.now) c.args.call.now)
    (c.step-told.new.self, c.step-told.result) _ (ap (λ x. (kinds.Key c.step-told.new.self, x)) c.of_called.ensures) c.step-told.ensures
