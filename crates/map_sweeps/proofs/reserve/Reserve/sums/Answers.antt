-- A step of the counting is the reservation's, with its outcome turned.
use Rattle.map_machines.proofs.Given.SeizeWordsPlans.{may_as}
use Rattle.map_machines.proofs.Given.SeizeStepsInto.{steps_into}
use Rattle.map_machines.specs.Sum.{sum_plan}
use Rattle.map_sweeps.specs.Reserves.Reserve.{summed}
use Rattle.map_sweeps.proofs.reserve.Reserve.sums.Goals as goal

pub step-progress-requires : goal.step-progress-requires
step-progress-requires g c =
    may_as (summed {T = g.row.T.Denot} c.args.self.now c.args.table) g.M.Look.can g.M.Look.took g.M.Look.shown c.args.memory.now
    (sum_plan c.args.sum) c.requires

pub returns : goal.returns
returns g c =
    steps_into (summed {T = g.row.T.Denot} c.args.self.now c.args.table) g.M.Look.can g.M.Look.took g.M.Look.shown c.args.memory.now c.step-progress.new.memory
    (sum_plan c.args.sum) (c.step-progress.new.self, c.step-progress.result) _ c.summed.ensures c.step-progress.ensures
