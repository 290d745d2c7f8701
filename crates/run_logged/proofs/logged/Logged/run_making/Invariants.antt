-- What a run keeps from step to step, and what each step lowers.
use Rattle.std.specs.Prelude.{◌≡◌, length}
use Rattle.seize.specs.declared.advance.Advance.TheVariants as progress
use Rattle.run_logged.specs.Log.Goes.{GoesTo, MakingOn, far}
use Rattle.run_logged.specs.Log.Makings.{MakingRan}
use Rattle.run_logged.proofs.Log.MakingsRun.{making_left_of}
use Rattle.run_logged.proofs.Log.RootsFound.{MakingFindsSoFar}
use Rattle.run_logged.proofs.logged.Logged.run_making.Given as goal
use Rattle.run_executor.specs.Executing.IsThere.{PreservesSettings, work_of}

-- the making goes on by the steps that ran, what it did stands in the list, there are as many numbers, and what the executor was given stays
abbrev pub invariant-loop-told : goal.invariant-loop-told
invariant-loop-told g l = record {
  ran : MakingRan l.fn.caller l.fn.map progress.Goes l.fn.effects.items l.effects.items l.fn.self l.self;
  finds : MakingFindsSoFar l.fn.caller l.fn.map l.fn.effects.items l.effects.items l.fn.self l.self;
  gone : GoesTo (MakingOn l.fn.caller l.fn.map) (far l.fn.effects.items l.fn.self) (far l.effects.items l.self);
  numbers : length l.self.executor.maps.items ≡ length l.fn.self.executor.maps.items;
  given : PreservesSettings l.fn.self.executor l.self.executor;
}

abbrev pub decreases-loop-told : goal.decreases-loop-told
decreases-loop-told g l = making_left_of (work_of l.self.executor l.fn.caller)
