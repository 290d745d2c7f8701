use Rattle.std.proofs.Common.{refl}
use Rattle.seize_callers.proofs.Keeping.{still_kept}
use Rattle.threads_steps.proofs.within.memory.WithinLookNode.load.Goals as goal

pub returns : goal.returns
returns g c = record { seat = still_kept _ _ c.load_by.ensures.same.1 c.load_by.ensures.errand; made = refl; fits = tt; told = c.load_by.ensures.goes }
