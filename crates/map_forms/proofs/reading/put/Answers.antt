use Rattle.std.proofs.Common.{refl}
use Rattle.map_forms.proofs.reading.put.Goals as goal

pub returns-in-Err-clause-fault : goal.returns-in-Err-clause-fault
returns-in-Err-clause-fault g c = (c.in-Err.fault, refl)
