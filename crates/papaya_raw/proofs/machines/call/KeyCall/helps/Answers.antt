-- A step of the help is the call's, with its outcome turned.
use Rattle.std.proofs.Common.{refl, subst, sym}
use Rattle.map_sweeps.specs.Given.SeizeWordsPlan.{May, Steps}
use Rattle.map_sweeps.proofs.Given.SeizeWordsPlans.{may_as}
use Rattle.map_sweeps.proofs.Given.SeizeStepsInto.{steps_into}
use Rattle.map_sweeps.specs.Given.ResizeCopier.{copier_plan}
use Rattle.papaya_raw.specs.declared.machines.call.Calling.{Calling}
use Rattle.papaya_raw.specs.Call.{plan_at, helped}
use Rattle.papaya_raw.proofs.machines.call.KeyCall.helps.Goals as goal

pub step-progress-requires : goal.step-progress-requires
step-progress-requires g c =
    may_as (helped c.args.self.now c.in-Helps.goal) g.M.Look.can g.M.Look.took g.M.Look.shown c.args.memory.now
    (copier_plan (g.S.Hashes.hash c.args.hasher.now) c.in-Helps.copier)
    (subst (λ (stands : Calling). May g.M.Look.can g.M.Look.took g.M.Look.shown c.args.memory.now
    (plan_at g.Q.Equivalent.equivalent g.K.PartialEq.eq (g.S.Hashes.hash c.args.hasher.now) c.args.self.now stands)) c.in-Helps.is c.requires.may)

pub returns : goal.returns
returns g c =
    subst (λ (stands : Calling). Steps g.M.Look.took g.M.Look.shown c.args.memory.now
    (plan_at g.Q.Equivalent.equivalent g.K.PartialEq.eq (g.S.Hashes.hash c.args.hasher.now) c.args.self.now stands) c.step-progress.new.memory
    (c.after_help.new.self, c.after_help.result)) (sym c.in-Helps.is)
    (steps_into (helped c.args.self.now c.in-Helps.goal) g.M.Look.can g.M.Look.took g.M.Look.shown c.args.memory.now c.step-progress.new.memory
    (copier_plan (g.S.Hashes.hash c.args.hasher.now) c.in-Helps.copier) (c.step-progress.new.self, c.step-progress.result) _
    (c.after_help.ensures c.args.self.now c.step-progress.new.self refl) c.step-progress.ensures)
