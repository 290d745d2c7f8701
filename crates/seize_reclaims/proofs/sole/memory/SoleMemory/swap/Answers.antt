use Rattle.std.proofs.Common.{refl}
use Rattle.seize_reclaims.proofs.sole.memory.SoleMemory.swap.Goals as goal

pub swap-requires-clause-may : goal.swap-requires-clause-may
swap-requires-clause-may g c = c.requires.may

pub returns : goal.returns
returns g c = (refl, c.swap.ensures.goes)
