-- A step of the making is the beginning's, with its outcome turned.
use Rattle.map_tables.proofs.Given.SeizeWordsPlans.{may_as}
use Rattle.seize.proofs.StepsInto.{steps_into}
use Rattle.map_machines.specs.NewTable.{new_table_plan}
use Rattle.map_machines.specs.NewMap.{opened}
use Rattle.map_machines.proofs.new_map.NewMap.tables.Goals as goal

pub step-progress-requires : goal.step-progress-requires
step-progress-requires g c =
    may_as (opened c.args.self.now) g.M.Look.can g.M.Look.took g.M.Look.shown c.args.memory.now
    (new_table_plan {K = g.row.K.Denot} {V = g.row.V.Denot} c.args.making) c.requires

pub returns : goal.returns
returns g c =
    steps_into (opened c.args.self.now) g.M.Look.can g.M.Look.took g.M.Look.shown c.args.memory.now c.step-progress.new.memory
    (new_table_plan {K = g.row.K.Denot} {V = g.row.V.Denot} c.args.making) (c.step-progress.new.self, c.step-progress.result)
    _ c.opened.ensures c.step-progress.ensures
