-- The step of the machine of each kind is the one of the call that is of this kind.
use Rattle.std.proofs.Common.{subst, sym}
use Rattle.map_sweeps.specs.Given.SeizeWordsPlan.{Steps}
use Rattle.papaya_raw.specs.declared.machines.machine.Machine.{Machine}
use Rattle.papaya_raw.specs.declared.machines.machine.Machine.TheVariants as kinds
use Rattle.papaya_raw.specs.Machine.{machine_plan}
use Rattle.papaya_raw.proofs.machines.machine.Machine.step.Goals as goal

pub returns-in-Key : goal.returns-in-Key
returns-in-Key g c =
    subst (λ (m : Machine g.row.K.Denot g.row.V.Denot g.row.Q.Denot). Steps g.M.Look.took g.M.Look.shown c.args.memory.now
    (machine_plan g.Q.Equivalent.equivalent g.K.PartialEq.eq (g.S.Hashes.hash c.args.hasher.now) m) c.calls.new.memory
    (kinds.Key c.calls.new.call, c.calls.result))
    (sym c.in-Key.is) c.calls.ensures

pub returns-in-Reserve : goal.returns-in-Reserve
returns-in-Reserve g c =
    subst (λ (m : Machine g.row.K.Denot g.row.V.Denot g.row.Q.Denot). Steps g.M.Look.took g.M.Look.shown c.args.memory.now
    (machine_plan g.Q.Equivalent.equivalent g.K.PartialEq.eq (g.S.Hashes.hash c.args.hasher.now) m) c.reserves.new.memory
    (kinds.Reserve c.reserves.new.reserve, c.reserves.result))
    (sym c.in-Reserve.is) c.reserves.ensures

pub returns-in-Sweep : goal.returns-in-Sweep
returns-in-Sweep g c =
    subst (λ (m : Machine g.row.K.Denot g.row.V.Denot g.row.Q.Denot). Steps g.M.Look.took g.M.Look.shown c.args.memory.now
    (machine_plan g.Q.Equivalent.equivalent g.K.PartialEq.eq (g.S.Hashes.hash c.args.hasher.now) m) c.sweeps.new.memory
    (kinds.Sweep c.sweeps.new.sweep, c.sweeps.result))
    (sym c.in-Sweep.is) c.sweeps.ensures
