-- A step of the flush is that of giving everything back, with its outcome turned.
use Rattle.std.specs.Prelude.{true}
use Rattle.std.proofs.Common.{refl, subst, sym}
use Rattle.seize_words.specs.OneMemory.Plan.{Steps}
use Rattle.seize.proofs.StepsInto.{steps_into}
use Rattle.seize.specs.Settle.{settle_plan}
use Rattle.seize.specs.declared.rows.reclaim_all.Reclaiming.{Reclaiming}
use Rattle.seize.specs.declared.rows.reclaim_all.Reclaiming.TheVariants as at
use Rattle.seize.specs.ReclaimAll.{plan_at, standing, next_batch, within}
use Rattle.seize.proofs.rows.reclaim_all.ReclaimAll.flushes.Goals as goal

pub returns : goal.returns
returns g c = λ left_over.
    subst (λ (stands : Reclaiming). Steps g.M.Look.took g.M.Look.shown c.args.memory.now (plan_at g.T.Defers.defers left_over c.args.self.now stands)
    c.step-progress.new.memory (c.flushed.new.self, c.flushed.result)) (sym c.in-Flushes.is)
    (steps_into (within (λ row. standing c.args.self.now (at.Flushes c.in-Flushes.slot row)) (next_batch (record c.args.self.now { again = true }) c.in-Flushes.slot))
    g.M.Look.can g.M.Look.took g.M.Look.shown c.args.memory.now c.step-progress.new.memory
    (settle_plan g.T.Defers.defers c.in-Flushes.settle) (c.step-progress.new.self, c.step-progress.result) _
    (c.flushed.ensures c.args.self.now c.step-progress.new.self refl) c.step-progress.ensures)
