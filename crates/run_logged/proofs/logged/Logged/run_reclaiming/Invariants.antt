-- What a run keeps from step to step, and that the steps are counted.
use Rattle.run_logged.specs.Log.Goes.{GoesTo, ReclaimingOn, far}
use Rattle.run_logged.specs.Log.Reclaims.{ReclaimingSoFar}
use Rattle.run_logged.proofs.Log.ReclaimBack.{BroughtSoFar}
use Rattle.run_logged.proofs.logged.Logged.run_reclaiming.Given as goal
use Rattle.run_executor.specs.Executing.IsThere.{PreservesSettings}

-- it goes on by the steps that ran, what it did stands in the list, what that reclaims has come back, and what the executor was given stays
abbrev pub invariant-loop-left : goal.invariant-loop-left
invariant-loop-left g l = record {
  so_far : ReclaimingSoFar l.initial.reclaiming.all l.reclaiming.all l.fn.effects.items l.effects.items l.fn.self l.self;
  gone : GoesTo ReclaimingOn (far l.fn.effects.items l.fn.self, l.initial.reclaiming.all) (far l.effects.items l.self, l.reclaiming.all);
  given : PreservesSettings l.fn.self.executor l.self.executor;
  back : BroughtSoFar l.initial.reclaiming.all l.fn.effects.items l.effects.items l.fn.self l.fn.back.items l.back.items;
}

abbrev pub decreases-loop-left : goal.decreases-loop-left
decreases-loop-left g l = l.left
