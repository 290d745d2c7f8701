-- A step of the reservation is the machine's, with its outcome turned.
use Rattle.seize.proofs.StepsInto.{steps_into}
use Rattle.papaya_raw.specs.Given.ReservesReserve.{reserve_plan}
use Rattle.owner_calls.specs.Owned.Machines.{for_room_after}
use Rattle.owner_calls.proofs.machines.ForRoomStepMachineNode.step.Goals as goal

pub returns : goal.returns
returns g c =
    steps_into (for_room_after c.args.self.now) g.M.Look.can g.M.Look.took g.M.Look.shown c.args.memory.now c.step-told.new.memory
    (reserve_plan {K = g.row.K.Denot} {V = g.row.V.Denot} (g.S.Hashes.hash c.args.self.now.hasher.now) c.args.self.now.reserve)
    (c.step-told.new.self, c.step-told.result) _ c.settled.ensures c.step-told.ensures
