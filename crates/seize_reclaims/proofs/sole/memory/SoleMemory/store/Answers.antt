use Rattle.std.proofs.Common.{refl}
use Rattle.seize_reclaims.proofs.sole.memory.SoleMemory.store.Goals as goal

pub store-requires-clause-may : goal.store-requires-clause-may
store-requires-clause-may g c = c.requires.may

pub returns : goal.returns
returns g c = (refl, c.store.ensures.goes)
