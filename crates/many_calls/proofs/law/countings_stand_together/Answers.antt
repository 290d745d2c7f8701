-- Countings among the calls of many callers on one map.
use Rattle.many_calls.proofs.Together.Countings.{countings_begin_together, countings_stand_together}
use Rattle.many_calls.proofs.law.countings_stand_together.Goals as goal

pub returns : goal.returns
returns c d = record { begins = countings_begin_together; steps = countings_stand_together }
