-- By the insertion.
use Rattle.owner_map.proofs.insertions.store.Goals as goal

pub returns-in-Ok-clause-put : goal.returns-in-Ok-clause-put
returns-in-Ok-clause-put g c = let put = c.in-Ok.ensures in record { pairs = put.stored; held = put.keeps; taken = put.in_any_order; met = put.last.1 }
