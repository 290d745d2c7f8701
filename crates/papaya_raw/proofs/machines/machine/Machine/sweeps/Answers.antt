-- A step of the sweep is the machine's, with its outcome turned.
use Rattle.std.proofs.Common.{ap}
use Rattle.map_sweeps.proofs.Given.SeizeWordsPlans.{may_as}
use Rattle.map_sweeps.proofs.Given.SeizeStepsInto.{steps_into}
use Rattle.map_sweeps.specs.Sweeps.Sweep.{sweep_plan}
use Rattle.papaya_raw.specs.declared.machines.machine.Machine.TheVariants as kinds
use Rattle.papaya_raw.specs.Machine.{swept}
use Rattle.papaya_raw.proofs.machines.machine.Machine.sweeps.Goals as goal

pub step-swept-requires : goal.step-swept-requires
step-swept-requires g c =
    may_as (swept {K = g.row.K.Denot} {V = g.row.V.Denot} {Q = g.row.Q.Denot}) g.M.Look.can g.M.Look.took g.M.Look.shown c.args.memory.now
    (sweep_plan (g.S.Hashes.hash c.args.hasher.now) c.args.sweep.now) c.requires

pub returns : goal.returns
returns g c =
    steps_into (swept {K = g.row.K.Denot} {V = g.row.V.Denot} {Q = g.row.Q.Denot})
    g.M.Look.can g.M.Look.took g.M.Look.shown c.args.memory.now c.step-swept.new.memory
    (sweep_plan (g.S.Hashes.hash c.args.hasher.now) c.args.sweep.now) (c.step-swept.new.self, c.step-swept.result)
    _ (ap (λ x. (kinds.Sweep c.step-swept.new.self, x)) c.of_swept.ensures) c.step-swept.ensures
