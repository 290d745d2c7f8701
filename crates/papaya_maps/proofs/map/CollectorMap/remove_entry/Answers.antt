use Rattle.std.proofs.Common.{inr}
use Rattle.std.proofs.lemmas.Result.{IfErr-weaker}
use Rattle.papaya_maps.proofs.map.CollectorMap.remove_entry.Goals as goal

pub returns-clause-refused : goal.returns-clause-refused
returns-clause-refused g c = IfErr-weaker c.takes.result _ _ (λ fault so. inr so) c.takes.ensures.refused
