-- Each step of a try leads on.
use Rattle.seize_straight.specs.Runs.{none_taken, one_more}
use Rattle.seize_straight.proofs.Running.{may_step, runs_along}
use Rattle.threads_errands.proofs.Tries.{try_goes_on}
use Rattle.threads_errands.proofs.helping.try_batch.Goals as goal

pub loop-init : goal.loop-init
loop-init g c =
    record { led = none_taken _ _ }

pub step-requires : goal.step-requires
step-requires g c =
    may_step _ _ _ _ _ _ _ (runs_along _ _ _ _ _ _ _ _ _ c.loop.invariant.led c.requires)

pub loop-preserved : goal.loop-preserved
loop-preserved g c = record {
  led =
      one_more _ _ c.loop.dispose c.loop.memory c.loop.invariant.led c.step.result
      (try_goes_on g.M.Look.took g.M.Look.shown c.loop.dispose c.loop.memory c.step.new.memory (c.step.new.self, c.step.result) (cc (c.is_trying.ensures, c.if-not-is_trying.false))
      c.step.ensures) c.step.new.self c.step.new.memory c.step.ensures;
}
