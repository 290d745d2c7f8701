-- A step of the retirement is the disposal's, with its outcome turned.
use Rattle.std.proofs.Common.{refl, subst, sym}
use Rattle.map_tables.specs.Given.SeizeWordsPlan.{Steps}
use Rattle.seize.proofs.StepsInto.{steps_into}
use Rattle.seize.specs.Settle.{settle_plan}
use Rattle.map_tables.specs.Nodes.{deferred_word}
use Rattle.map_machines.specs.declared.dispose.Disposing.{Disposing}
use Rattle.map_machines.specs.Dispose.{plan_at, settled}
use Rattle.map_machines.proofs.dispose.Dispose.settles.Goals as goal

pub returns : goal.returns
returns g c =
    subst (λ (stands : Disposing). Steps g.M.Look.took g.M.Look.shown c.args.memory.now (plan_at c.args.self.now stands)
    c.step-progress.new.memory (c.settled.new.self, c.settled.result)) (sym c.in-Settles.is)
    (steps_into (settled c.args.self.now) g.M.Look.can g.M.Look.took g.M.Look.shown c.args.memory.now c.step-progress.new.memory
    (settle_plan deferred_word c.in-Settles.settle) (c.step-progress.new.self, c.step-progress.result) _
    (c.settled.ensures c.args.self.now c.step-progress.new.self refl) c.step-progress.ensures)
