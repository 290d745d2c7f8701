use Rattle.std.proofs.Common.{refl}
use Rattle.seize_callers.proofs.Keeping.{still_kept}
use Rattle.threads_steps.proofs.within.memory.WithinMemoryNode.take.Goals as goal

pub returns : goal.returns
returns g c = record { seat = still_kept _ _ c.take.ensures.same.1 c.take.ensures.errand; made = refl; fits = tt; told = c.take.ensures.goes }
