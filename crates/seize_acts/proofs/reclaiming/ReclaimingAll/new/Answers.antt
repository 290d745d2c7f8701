use Rattle.std.proofs.Common.{inl, refl}
use Rattle.seize_acts.proofs.reclaiming.ReclaimingAll.new.Goals as goal

pub returns : goal.returns
returns g c = λ h lists may some. record { may = may; steps = 0; come = (inl (c.reclaim_all.ensures, some), refl, refl) }
