-- A step of the call is the machine's, with its outcome turned.
use Rattle.seize_words.proofs.OneMemory.Plans.{may_as}
use Rattle.seize.proofs.StepsInto.{steps_into}
use Rattle.papaya_raw.specs.Call.{call_plan}
use Rattle.owner_calls.specs.Owned.Machines.{on_key_after}
use Rattle.owner_calls.proofs.machines.OnKeyStepMachineNode.step.Goals as goal

pub step-told-requires : goal.step-told-requires
step-told-requires g c =
    may_as (on_key_after c.args.self.now) g.M.Look.can g.M.Look.took g.M.Look.shown c.args.memory.now
    (call_plan g.Q.Equivalent.equivalent g.K.PartialEq.eq (g.S.Hashes.hash c.args.self.now.hasher.now) c.args.self.now.call) c.requires

pub returns : goal.returns
returns g c =
    steps_into (on_key_after c.args.self.now) g.M.Look.can g.M.Look.took g.M.Look.shown c.args.memory.now c.step-told.new.memory
    (call_plan g.Q.Equivalent.equivalent g.K.PartialEq.eq (g.S.Hashes.hash c.args.self.now.hasher.now) c.args.self.now.call)
    (c.step-told.new.self, c.step-told.result) _ c.settled.ensures c.step-told.ensures
