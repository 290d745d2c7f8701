-- Blocks are reclaimed, and one step is taken.
use Rattle.owner_whole.proofs.Strides.Runs.Leading.{ends_along}
use Rattle.owner_whole.proofs.Strides.Runs.Steps.{may_step}
use Rattle.owner_calls.proofs.refreshes.OwnerRefreshSkimsUnit.skim.Goals as goal

pub step-requires : goal.step-requires
step-requires g c = may_step _ _ _ (ends_along _ _ _ _ _ c.reclaims.ensures c.requires)

pub returns : goal.returns
returns g c = (c.reclaims.new.self, c.reclaims.new.memory, c.reclaims.ensures, c.step.ensures)
