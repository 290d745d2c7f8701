-- Calls by other forms of keys.
use Rattle.map_measures.proofs.ByKey.Plans.{replies_by_key, steps_by_key}
use Rattle.map_measures.proofs.law.by_key.forms_stand_for_keys.Goals as goal

pub returns : goal.returns
returns c d = record { steps = steps_by_key _; told = replies_by_key _ }
