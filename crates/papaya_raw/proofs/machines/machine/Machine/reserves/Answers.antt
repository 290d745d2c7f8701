-- A step of the reservation is the machine's, with its outcome turned.
use Rattle.std.proofs.Common.{ap}
use Rattle.map_sweeps.proofs.Given.SeizeWordsPlans.{may_as}
use Rattle.map_sweeps.proofs.Given.SeizeStepsInto.{steps_into}
use Rattle.papaya_raw.specs.declared.machines.machine.Machine.TheVariants as kinds
use Rattle.map_sweeps.specs.Reserves.Reserve.{reserve_plan}
use Rattle.papaya_raw.specs.Machine.{reserved}
use Rattle.papaya_raw.proofs.machines.machine.Machine.reserves.Goals as goal

pub step-outcome-requires : goal.step-outcome-requires
step-outcome-requires g c =
    may_as (reserved {K = g.row.K.Denot} {V = g.row.V.Denot} {Q = g.row.Q.Denot}) g.M.Look.can g.M.Look.took g.M.Look.shown c.args.memory.now
    (reserve_plan (g.S.Hashes.hash c.args.hasher.now) c.args.reserve.now) c.requires

pub returns : goal.returns
returns g c =
    steps_into (reserved {K = g.row.K.Denot} {V = g.row.V.Denot} {Q = g.row.Q.Denot})
    g.M.Look.can g.M.Look.took g.M.Look.shown c.args.memory.now c.step-outcome.new.memory
    (reserve_plan (g.S.Hashes.hash c.args.hasher.now) c.args.reserve.now) (c.step-outcome.new.self, c.step-outcome.result)
    _ (ap (λ x. (kinds.Reserve c.step-outcome.new.self, x)) c.of_outcome.ensures) c.step-outcome.ensures
