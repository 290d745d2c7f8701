-- What a run keeps from step to step, and what each step lowers.
use Rattle.std.proofs.Common.{◌≡◌, Result}
use Rattle.seize_words.specs.OneMemory.Mem.{Mem}
use Rattle.seize_words.specs.declared.fault.Fault.{Fault}
use Rattle.owner_whole.specs.Strides.Ending.{Ends, RunsTo}
use Rattle.owner_calls.proofs.running.run_skimming.Given as goal

-- it comes to an end from here on, and what it comes to it comes to from the beginning
abbrev pub invariant-loop-answer : goal.invariant-loop-answer
invariant-loop-answer g l = record {
  ends : Ends g.M.StepMachine.plan l.machine l.memory;
  leads : (x : g.row.M.Denot) (m : Mem g.row.T.Denot) (result : Result g.row.A.Denot Fault) → RunsTo g.M.StepMachine.plan l.machine l.memory x m result → RunsTo g.M.StepMachine.plan l.fn.machine l.fn.memory x m result;
  machine : l.left.machine.value ≡ l.machine;
  memory : l.left.memory.value ≡ l.memory;
}

abbrev pub decreases-loop-answer : goal.decreases-loop-answer
decreases-loop-answer g l = l.left.least.0
