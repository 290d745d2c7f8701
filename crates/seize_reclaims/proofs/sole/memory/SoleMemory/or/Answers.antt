use Rattle.std.proofs.Common.{refl}
use Rattle.seize_reclaims.proofs.sole.memory.SoleMemory.or.Goals as goal

pub or-requires-clause-may : goal.or-requires-clause-may
or-requires-clause-may g c = c.requires.may

pub returns : goal.returns
returns g c = (refl, c.or.ensures.goes)
