-- What a run keeps from step to step, and what each step lowers.
use Rattle.std.specs.Prelude.{false}
use Rattle.run_logged.specs.Log.Back.{EndBringsBack}
use Rattle.run_logged.specs.Log.Ends.{EndRan}
use Rattle.run_logged.specs.Log.Goes.{EndOn, GoesTo, far}
use Rattle.run_logged.proofs.Log.EndsRun.{end_left_of}
use Rattle.run_logged.proofs.logged.Logged.run_end.Given as goal
use Rattle.run_executor.specs.Executing.IsThere.{PreservesSettings, work_of}

-- the end goes on by the steps that ran, what it did stands in the list, what that reclaims has come back, and what the executor was given stays
abbrev pub invariant-loop-self : goal.invariant-loop-self
invariant-loop-self g l = record {
  ran : EndRan l.fn.caller l.fn.map false l.fn.effects.items l.effects.items l.fn.self l.self;
  gone : GoesTo (EndOn l.fn.caller l.fn.map) (far l.fn.effects.items l.fn.self) (far l.effects.items l.self);
  given : PreservesSettings l.fn.self.executor l.self.executor;
  back : EndBringsBack l.fn.caller l.fn.map l.fn.effects.items l.effects.items l.fn.self l.fn.back.items l.back.items;
}

abbrev pub decreases-loop-self : goal.decreases-loop-self
decreases-loop-self g l = end_left_of l.self.executor.memory.memory (work_of l.self.executor l.fn.caller)
