-- Each step may be taken, leads on, and lowers the bound.
use Rattle.std.proofs.Common.{refl}
use Rattle.owner_whole.specs.Strides.Ending.{stops, goes}
use Rattle.owner_whole.proofs.Strides.Runs.Steps.{may_step, ends_on, less, on_of}
use Rattle.owner_calls.proofs.running.run.Goals as goal

pub step-requires : goal.step-requires
step-requires g c = may_step g.M.StepMachine.plan _ _ c.loop-answer.invariant.ends

pub returns-in-Done : goal.returns-in-Done
returns-in-Done g c = c.loop-answer.invariant.leads _ _ _ (stops _ _ _ _ _ _ c.in-Done.ensures refl)

pub returns-in-Refused : goal.returns-in-Refused
returns-in-Refused g c = c.loop-answer.invariant.leads _ _ _ (stops _ _ _ _ _ _ c.in-Refused.ensures refl)

pub most-left-requires-in-loop-answer : goal.most-left-requires-in-loop-answer
most-left-requires-in-loop-answer g c = ends_on g.M.StepMachine.plan _ _ c.loop-answer.invariant.ends _ _ _ (on_of _ c.in-Goes.is) c.step.ensures

pub loop-answer-smaller : goal.loop-answer-smaller
loop-answer-smaller g c =
    let i = c.loop-answer.invariant in let e = c.most-left-in-loop-answer.ensures in
    less g.M.StepMachine.plan _ _ _ _ _ i.machine i.memory c.loop-answer.left.least.1 _ _ _ _ _ e.machine e.memory c.most-left-in-loop-answer.result.least.1 _ (on_of _ c.in-Goes.is) c.step.ensures

pub loop-answer-preserved : goal.loop-answer-preserved
loop-answer-preserved g c = record {
  ends = ends_on g.M.StepMachine.plan _ _ c.loop-answer.invariant.ends _ _ _ (on_of _ c.in-Goes.is) c.step.ensures;
  leads = λ x m result runs. c.loop-answer.invariant.leads x m result (goes _ _ _ _ _ (on_of _ c.in-Goes.is) c.step.ensures x m result runs);
  machine = c.most-left-in-loop-answer.ensures.machine;
  memory = c.most-left-in-loop-answer.ensures.memory;
}
