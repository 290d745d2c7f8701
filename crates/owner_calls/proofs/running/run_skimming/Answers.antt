-- The steps that it takes at once lead on, and lower the bound.
use Rattle.std.proofs.Common.{refl}
use Rattle.owner_whole.proofs.Strides.Runs.Leading.{less_along, strides_end, strides_run, strides_stop}
use Rattle.owner_whole.proofs.Strides.Runs.Steps.{on_of}
use Rattle.owner_calls.proofs.running.run_skimming.Goals as goal

pub skim-requires : goal.skim-requires
skim-requires g c = c.loop-answer.invariant.ends

pub returns-in-Done : goal.returns-in-Done
returns-in-Done g c = c.loop-answer.invariant.leads _ _ _ (strides_stop g.M.StepMachine.plan _ _ _ _ _ _ c.in-Done.ensures refl)

pub returns-in-Refused : goal.returns-in-Refused
returns-in-Refused g c = c.loop-answer.invariant.leads _ _ _ (strides_stop g.M.StepMachine.plan _ _ _ _ _ _ c.in-Refused.ensures refl)

pub most-left-requires-in-loop-answer : goal.most-left-requires-in-loop-answer
most-left-requires-in-loop-answer g c = strides_end g.M.StepMachine.plan _ _ _ _ _ (on_of _ c.in-Goes.is) c.skim.ensures c.loop-answer.invariant.ends

pub loop-answer-smaller : goal.loop-answer-smaller
loop-answer-smaller g c =
    let i = c.loop-answer.invariant in let e = c.most-left-in-loop-answer.ensures in
    less_along g.M.StepMachine.plan _ _ _ _ _ i.machine i.memory c.loop-answer.left.least.1 _ _ _ _ _ (on_of _ c.in-Goes.is) c.skim.ensures _ e.machine e.memory c.most-left-in-loop-answer.result.least.1

pub loop-answer-preserved : goal.loop-answer-preserved
loop-answer-preserved g c = record {
  ends = strides_end g.M.StepMachine.plan _ _ _ _ _ (on_of _ c.in-Goes.is) c.skim.ensures c.loop-answer.invariant.ends;
  leads = λ x m result runs. c.loop-answer.invariant.leads x m result (strides_run g.M.StepMachine.plan _ _ _ _ _ (on_of _ c.in-Goes.is) c.skim.ensures x m result runs);
  machine = c.most-left-in-loop-answer.ensures.machine;
  memory = c.most-left-in-loop-answer.ensures.memory;
}
