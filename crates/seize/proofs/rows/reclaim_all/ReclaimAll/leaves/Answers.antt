-- A step of the leaving is that of giving everything back, with its outcome turned.
use Rattle.std.proofs.Common.{refl, subst, sym}
use Rattle.seize_words.specs.OneMemory.Plan.{Steps}
use Rattle.seize.proofs.StepsInto.{steps_into}
use Rattle.seize.specs.Leave.{leave_plan}
use Rattle.seize.specs.declared.rows.reclaim_all.Reclaiming.{Reclaiming}
use Rattle.seize.specs.declared.rows.reclaim_all.Reclaiming.TheVariants as at
use Rattle.seize.specs.ReclaimAll.{plan_at, standing, next_head, within}
use Rattle.seize.proofs.rows.reclaim_all.ReclaimAll.leaves.Goals as goal

pub returns : goal.returns
returns g c = λ left_over.
    subst (λ (stands : Reclaiming). Steps g.M.Look.took g.M.Look.shown c.args.memory.now (plan_at g.T.Defers.defers left_over c.args.self.now stands)
    c.step-progress.new.memory (c.left.new.self, c.left.result)) (sym c.in-Leaves.is)
    (steps_into (within (λ row. standing c.args.self.now (at.Leaves c.in-Leaves.slot row)) (next_head c.args.self.now c.in-Leaves.slot))
    g.M.Look.can g.M.Look.took g.M.Look.shown c.args.memory.now c.step-progress.new.memory
    (leave_plan g.T.Defers.defers c.in-Leaves.leave) (c.step-progress.new.self, c.step-progress.result) _
    (c.left.ensures c.args.self.now c.step-progress.new.self refl) c.step-progress.ensures)
