use Rattle.run_executor.proofs.Named.Roll.Comes.{kept_none}
use Rattle.run_executor.proofs.callers.Callers.nobody.Goals as goal

pub invariant_of-result : goal.invariant_of-result
invariant_of-result g c = kept_none c.new.result.items c.new-2.result c.new-3.result c.new-4.result c.new.ensures.items c.new-3.ensures c.new-4.ensures
