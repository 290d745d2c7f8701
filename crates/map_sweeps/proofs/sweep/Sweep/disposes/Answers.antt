-- A step of the disposal is the sweep's, with its outcome turned.
use Rattle.map_machines.proofs.Given.SeizeWordsPlans.{may_as}
use Rattle.map_machines.proofs.Given.SeizeStepsInto.{steps_into}
use Rattle.map_machines.specs.Dispose.{dispose_plan}
use Rattle.map_sweeps.specs.Sweeps.Sweep.{disposed}
use Rattle.map_sweeps.proofs.sweep.Sweep.disposes.Goals as goal

pub step-progress-requires : goal.step-progress-requires
step-progress-requires g c =
    may_as (disposed c.args.self.now) g.M.Look.can g.M.Look.took g.M.Look.shown c.args.memory.now
    (dispose_plan {K = g.row.K.Denot} {V = g.row.V.Denot} c.args.dispose) c.requires

pub returns : goal.returns
returns g c =
    steps_into (disposed c.args.self.now) g.M.Look.can g.M.Look.took g.M.Look.shown c.args.memory.now c.step-progress.new.memory
    (dispose_plan {K = g.row.K.Denot} {V = g.row.V.Denot} c.args.dispose) (c.step-progress.new.self, c.step-progress.result)
    _ c.disposed.ensures c.step-progress.ensures
