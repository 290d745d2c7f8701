-- A step of the putting is the disposal's, with its outcome turned.
use Rattle.std.proofs.Common.{refl, subst, sym}
use Rattle.map_tables.specs.Given.SeizeWordsPlan.{Steps}
use Rattle.seize.proofs.StepsInto.{steps_into}
use Rattle.seize.specs.Defer.{defer_plan}
use Rattle.map_machines.specs.declared.dispose.Disposing.{Disposing}
use Rattle.map_machines.specs.Dispose.{plan_at, deferred}
use Rattle.map_machines.proofs.dispose.Dispose.defers.Goals as goal

pub returns : goal.returns
returns g c =
    subst (λ (stands : Disposing). Steps g.M.Look.took g.M.Look.shown c.args.memory.now (plan_at c.args.self.now stands)
    c.step-progress.new.memory (c.deferred.new.self, c.deferred.result)) (sym c.in-Defers.is)
    (steps_into (deferred c.args.self.now) g.M.Look.can g.M.Look.took g.M.Look.shown c.args.memory.now c.step-progress.new.memory
    (defer_plan c.in-Defers.defer) (c.step-progress.new.self, c.step-progress.result) _
    (c.deferred.ensures c.args.self.now c.step-progress.new.self refl) c.step-progress.ensures)
