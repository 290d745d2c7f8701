-- A step of the copying is the sweep's, with its outcome turned.
use Rattle.map_machines.proofs.Given.SeizeWordsPlans.{may_as}
use Rattle.map_machines.proofs.Given.SeizeStepsInto.{steps_into}
use Rattle.map_machines.specs.Copier.{copier_plan}
use Rattle.map_sweeps.specs.Sweeps.Sweep.{copied}
use Rattle.map_sweeps.proofs.sweep.Sweep.copies.Goals as goal

pub step-outcome-requires : goal.step-outcome-requires
step-outcome-requires g c =
    may_as (copied c.args.self.now) g.M.Look.can g.M.Look.took g.M.Look.shown c.args.memory.now
    (copier_plan (g.S.Hashes.hash c.args.hasher.now) c.args.copier) c.requires

pub returns : goal.returns
returns g c =
    steps_into (copied c.args.self.now) g.M.Look.can g.M.Look.took g.M.Look.shown c.args.memory.now c.step-outcome.new.memory
    (copier_plan (g.S.Hashes.hash c.args.hasher.now) c.args.copier) (c.step-outcome.new.self, c.step-outcome.result) _ c.copied.ensures c.step-outcome.ensures
