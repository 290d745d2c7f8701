use Rattle.std.proofs.Common.{refl}
use Rattle.seize_callers.proofs.Keeping.{still_kept}
use Rattle.threads_steps.proofs.within.memory.WithinMemoryNode.rewrite.Goals as goal

-- who may replace a value has its block to itself
pub rewrite-requires-clause-alone : goal.rewrite-requires-clause-alone
rewrite-requires-clause-alone g c = c.requires.alone

pub returns : goal.returns
returns g c = record { seat = still_kept _ _ c.rewrite.ensures.same.1 c.rewrite.ensures.errand; made = refl; fits = tt; told = c.rewrite.ensures.goes }
