use Rattle.std.proofs.Common.{refl}
use Rattle.seize_reclaims.proofs.sole.memory.SoleMemory.exchange.Goals as goal

pub exchange-requires-clause-may : goal.exchange-requires-clause-may
exchange-requires-clause-may g c = c.requires.may

pub returns : goal.returns
returns g c = (refl, c.exchange.ensures.goes)
