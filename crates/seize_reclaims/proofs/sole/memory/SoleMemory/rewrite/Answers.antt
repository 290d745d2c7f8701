use Rattle.std.proofs.Common.{refl}
use Rattle.seize_reclaims.proofs.sole.memory.SoleMemory.rewrite.Goals as goal

pub rewrite-requires-clause-alone : goal.rewrite-requires-clause-alone
rewrite-requires-clause-alone g c = c.requires.alone

pub rewrite-requires-clause-may : goal.rewrite-requires-clause-may
rewrite-requires-clause-may g c = c.requires.may

pub returns : goal.returns
returns g c = (refl, c.rewrite.ensures.goes)
