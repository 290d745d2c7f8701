use Rattle.std.proofs.Common.{refl}
use Rattle.seize_callers.proofs.Keeping.{still_kept}
use Rattle.threads_steps.proofs.within.memory.WithinMemoryNode.swap.Goals as goal

pub returns : goal.returns
returns g c = record { seat = still_kept _ _ c.swap.ensures.same.1 c.swap.ensures.errand; made = refl; fits = tt; told = c.swap.ensures.goes }
