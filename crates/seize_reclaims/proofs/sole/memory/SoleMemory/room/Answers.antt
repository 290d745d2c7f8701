use Rattle.std.proofs.Common.{refl}
use Rattle.seize_reclaims.proofs.sole.memory.SoleMemory.room.Goals as goal

pub room-requires-clause-may : goal.room-requires-clause-may
room-requires-clause-may g c = c.requires.may

pub returns : goal.returns
returns g c = (refl, c.room.ensures.goes)
