use Rattle.std.proofs.Common.{inr, refl}
use Rattle.seize_acts.proofs.reclaiming.ReclaimingAll.of_roots.Goals as goal

pub returns : goal.returns
returns g c = λ batch_size h lists may vacant none. record { may = may; steps = 0; come = (inr (c.clearing.ensures, vacant, none), refl, refl) }
