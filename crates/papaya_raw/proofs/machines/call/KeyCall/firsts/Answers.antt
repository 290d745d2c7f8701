-- A step of the making is the call's, with its outcome turned.
use Rattle.std.proofs.Common.{refl, subst, sym}
use Rattle.map_sweeps.specs.Given.SeizeWordsPlan.{Steps}
use Rattle.map_sweeps.proofs.Given.SeizeStepsInto.{steps_into}
use Rattle.map_sweeps.specs.Given.ResizeNewTable.{new_table_plan}
use Rattle.papaya_raw.specs.declared.machines.call.Calling.{Calling}
use Rattle.papaya_raw.specs.Call.{plan_at, first_made}
use Rattle.papaya_raw.proofs.machines.call.KeyCall.firsts.Goals as goal

pub returns : goal.returns
returns g c = λ hashes.
    subst (λ (stands : Calling). Steps g.M.Look.took g.M.Look.shown c.args.memory.now
    (plan_at g.Q.Equivalent.equivalent g.K.PartialEq.eq hashes c.args.self.now stands) c.step-progress.new.memory
    (c.first_made.new.self, c.first_made.result)) (sym c.in-Firsts.is)
    (steps_into (first_made c.args.self.now) g.M.Look.can g.M.Look.took g.M.Look.shown c.args.memory.now c.step-progress.new.memory
    (new_table_plan {K = g.row.K.Denot} {V = g.row.V.Denot} c.in-Firsts.making) (c.step-progress.new.self, c.step-progress.result) _
    (c.first_made.ensures c.args.self.now c.step-progress.new.self refl) c.step-progress.ensures)
