-- A step of the disposal is the call's, with its outcome turned.
use Rattle.std.proofs.Common.{refl, subst, sym}
use Rattle.map_sweeps.specs.Given.SeizeWordsPlan.{May, Steps}
use Rattle.map_sweeps.proofs.Given.SeizeWordsPlans.{may_as}
use Rattle.map_sweeps.proofs.Given.SeizeStepsInto.{steps_into}
use Rattle.map_sweeps.specs.Given.ResizeDispose.{dispose_plan}
use Rattle.papaya_raw.specs.declared.machines.call.Calling.{Calling}
use Rattle.papaya_raw.specs.Call.{plan_at, disposed}
use Rattle.papaya_raw.proofs.machines.call.KeyCall.disposes.Goals as goal

pub step-progress-requires : goal.step-progress-requires
step-progress-requires g c =
    may_as (disposed c.args.self.now c.in-Disposes.answer) g.M.Look.can g.M.Look.took g.M.Look.shown c.args.memory.now
    (dispose_plan {K = g.row.K.Denot} {V = g.row.V.Denot} c.in-Disposes.dispose)
    (subst (λ (stands : Calling). May g.M.Look.can g.M.Look.took g.M.Look.shown c.args.memory.now
    (plan_at g.Q.Equivalent.equivalent g.K.PartialEq.eq c.requires.may.0 c.args.self.now stands)) c.in-Disposes.is c.requires.may.1)

pub returns : goal.returns
returns g c = λ hashes.
    subst (λ (stands : Calling). Steps g.M.Look.took g.M.Look.shown c.args.memory.now
    (plan_at g.Q.Equivalent.equivalent g.K.PartialEq.eq hashes c.args.self.now stands) c.step-progress.new.memory
    (c.disposed.new.self, c.disposed.result)) (sym c.in-Disposes.is)
    (steps_into (disposed c.args.self.now c.in-Disposes.answer) g.M.Look.can g.M.Look.took g.M.Look.shown c.args.memory.now c.step-progress.new.memory
    (dispose_plan {K = g.row.K.Denot} {V = g.row.V.Denot} c.in-Disposes.dispose) (c.step-progress.new.self, c.step-progress.result) _
    (c.disposed.ensures c.args.self.now c.step-progress.new.self refl) c.step-progress.ensures)
