use Rattle.std.proofs.Common.{refl}
use Rattle.seize_reclaims.proofs.sole.memory.SoleLook.load.Goals as goal

pub load-requires-clause-may : goal.load-requires-clause-may
load-requires-clause-may g c = c.requires.may

pub returns : goal.returns
returns g c = (refl, c.load.ensures.goes)
