-- A step of the lookup is the call's, with its outcome turned.
use Rattle.std.specs.Prelude.{Option}
use Rattle.std.proofs.Common.{refl, subst, sym}
use Rattle.map_sweeps.specs.Given.SeizeWordsPlan.{Steps}
use Rattle.map_sweeps.proofs.Given.SeizeStepsInto.{steps_into}
use Rattle.map_sweeps.specs.Given.ResizeLookup.{lookup_plan}
use Rattle.papaya_raw.specs.declared.machines.call.Calling.{Calling}
use Rattle.papaya_raw.specs.Call.{looked, looks_for, plan_at}
use Rattle.papaya_raw.proofs.machines.call.KeyCall.looks.Goals as goal

pub returns : goal.returns
returns g c = λ hashes.
    subst (λ (stands : Calling). Steps g.M.Look.took g.M.Look.shown c.args.memory.now
    (plan_at g.Q.Equivalent.equivalent g.K.PartialEq.eq hashes c.args.self.now stands) c.step-progress.new.memory
    (c.looked.new.self, c.looked.result)) (sym c.in-Looks.is)
    (subst (λ (asked : Option g.row.Q.Denot). Steps g.M.Look.took g.M.Look.shown c.args.memory.now
    (looks_for g.Q.Equivalent.equivalent c.args.self.now c.in-Looks.lookup asked) c.step-progress.new.memory (c.looked.new.self, c.looked.result))
    (sym c.in-Some.is)
    (steps_into (looked c.args.self.now) g.M.Look.can g.M.Look.took g.M.Look.shown c.args.memory.now c.step-progress.new.memory
    (lookup_plan (g.Q.Equivalent.equivalent c.in-Some.asked) c.in-Looks.lookup) (c.step-progress.new.self, c.step-progress.result) _
    (c.looked.ensures c.args.self.now c.step-progress.new.self refl) c.step-progress.ensures))
