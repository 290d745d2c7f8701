-- A step of the making is the reservation's, with its outcome turned.
use Rattle.map_machines.proofs.Given.SeizeWordsPlans.{may_as}
use Rattle.map_machines.proofs.Given.SeizeStepsInto.{steps_into}
use Rattle.map_machines.specs.NewTable.{new_table_plan}
use Rattle.map_sweeps.specs.Reserves.Reserve.{grown}
use Rattle.map_sweeps.proofs.reserve.Reserve.grows.Goals as goal

pub step-progress-requires : goal.step-progress-requires
step-progress-requires g c =
    may_as (grown {K = g.row.K.Denot} {V = g.row.V.Denot} c.args.self.now c.args.table) g.M.Look.can g.M.Look.took g.M.Look.shown c.args.memory.now
    (new_table_plan {K = g.row.K.Denot} {V = g.row.V.Denot} c.args.making) c.requires

pub returns : goal.returns
returns g c =
    steps_into (grown {K = g.row.K.Denot} {V = g.row.V.Denot} c.args.self.now c.args.table)
    g.M.Look.can g.M.Look.took g.M.Look.shown c.args.memory.now c.step-progress.new.memory
    (new_table_plan {K = g.row.K.Denot} {V = g.row.V.Denot} c.args.making) (c.step-progress.new.self, c.step-progress.result)
    _ c.grown.ensures c.step-progress.ensures
