-- A step of the sweep is the machine's, with what it tells turned.
use Rattle.seize_words.proofs.OneMemory.Plans.{may_as}
use Rattle.seize.proofs.StepsInto.{steps_into}
use Rattle.papaya_raw.specs.Given.SweepsSweep.{sweep_plan}
use Rattle.owner_calls.specs.Sifts.Sweeping.{over_pairs_after}
use Rattle.owner_calls.proofs.sweeping.OverPairsStepMachineNode.step.Goals as goal

pub step-told-requires : goal.step-told-requires
step-told-requires g c =
    may_as (over_pairs_after c.args.self.now) g.M.Look.can g.M.Look.took g.M.Look.shown c.args.memory.now
    (sweep_plan {K = g.row.K.Denot} {V = g.row.V.Denot} (g.S.Hashes.hash c.args.self.now.hasher.now) c.args.self.now.sweep) c.requires

pub returns : goal.returns
returns g c =
    steps_into (over_pairs_after c.args.self.now) g.M.Look.can g.M.Look.took g.M.Look.shown c.args.memory.now c.step-told.new.memory
    (sweep_plan {K = g.row.K.Denot} {V = g.row.V.Denot} (g.S.Hashes.hash c.args.self.now.hasher.now) c.args.self.now.sweep)
    (c.step-told.new.self, c.step-told.result) _ c.settled.ensures c.step-told.ensures
