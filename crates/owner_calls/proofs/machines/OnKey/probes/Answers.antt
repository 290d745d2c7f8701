-- The tries that pass lead on to one more step.
use Rattle.std.proofs.Common.{refl}
use Rattle.owner_calls.specs.Owned.Machines.{at_trial}
use Rattle.owner_whole.proofs.Strides.Runs.Leading.{ends_along}
use Rattle.owner_whole.proofs.Strides.Runs.Steps.{may_step}
use Rattle.owner_calls.proofs.machines.OnKey.probes.Goals as goal

pub last_try-last-requires : goal.last_try-last-requires
last_try-last-requires g c = (c.args.self.now, c.requires.probing, refl, refl, c.requires.ends)

pub step-requires : goal.step-requires
step-requires g c = may_step _ _ _ (ends_along _ _ _ _ _ (c.last_try-last.ensures c.args.self.now c.requires.probing refl refl) c.requires.ends)

pub returns : goal.returns
returns g c = (at_trial c.args.self.now c.last_try-last.result, c.args.memory.now, c.last_try-last.ensures c.args.self.now c.requires.probing refl refl, c.step.ensures)
