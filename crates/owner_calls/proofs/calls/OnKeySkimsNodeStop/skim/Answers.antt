-- Elsewhere it takes one step.
use Rattle.owner_whole.specs.Strides.Ending.{none_taken}
use Rattle.owner_whole.proofs.Strides.Runs.Steps.{may_step}
use Rattle.owner_calls.proofs.calls.OnKeySkimsNodeStop.skim.Goals as goal

pub step-requires : goal.step-requires
step-requires g c = may_step _ _ _ c.requires

pub returns-in_default-stands : goal.returns-in_default-stands
returns-in_default-stands g c = (c.args.self.now, c.args.memory.now, none_taken _ _, c.step.ensures)

pub step-requires-in_default : goal.step-requires-in_default
step-requires-in_default g c = may_step _ _ _ c.requires

pub returns-in_default : goal.returns-in_default
returns-in_default g c = (c.args.self.now, c.args.memory.now, none_taken _ _, c.step-in_default.ensures)
