use Rattle.std.proofs.Common.{refl}
use Rattle.seize_callers.proofs.Keeping.{still_kept}
use Rattle.threads_steps.proofs.within.memory.WithinMemoryNode.store.Goals as goal

pub returns : goal.returns
returns g c = record { seat = still_kept _ _ c.store_by.ensures.same.1 c.store_by.ensures.errand; made = refl; fits = tt; told = c.store_by.ensures.goes }
