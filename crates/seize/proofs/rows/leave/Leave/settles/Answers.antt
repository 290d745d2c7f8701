-- A step of the settling is the row's, with its outcome turned.
use Rattle.std.proofs.Common.{refl, subst, sym}
use Rattle.seize_words.specs.OneMemory.Plan.{Steps}
use Rattle.seize.proofs.StepsInto.{steps_into}
use Rattle.seize.specs.declared.rows.leave.Leaving.{Leaving}
use Rattle.seize.specs.Settle.{settle_plan}
use Rattle.seize.specs.Leave.{plan_at, settled}
use Rattle.seize.proofs.rows.leave.Leave.settles.Goals as goal

pub returns : goal.returns
returns g c =
    subst (λ (stands : Leaving). Steps g.M.Look.took g.M.Look.shown c.args.memory.now (plan_at g.T.Defers.defers c.args.self.now stands)
    c.step-progress.new.memory (c.settled.new.self, c.settled.result)) (sym c.in-Settles.is)
    (steps_into (settled c.args.self.now) g.M.Look.can g.M.Look.took g.M.Look.shown c.args.memory.now c.step-progress.new.memory
    (settle_plan g.T.Defers.defers c.in-Settles.settle) (c.step-progress.new.self, c.step-progress.result) _
    (c.settled.ensures c.args.self.now c.step-progress.new.self refl) c.step-progress.ensures)
