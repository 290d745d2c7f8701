-- An executor with no map and no caller.
use Rattle.std.proofs.Common.{rules, ◌∙◌}
use Rattle.run_executor.proofs.executor.Executor.new.Goals as goal
use Rattle.run_executor.proofs.Executing.First.{first_is}

pub returns-clause-stands : goal.returns-clause-stands
returns-clause-stands g c = λ same hash. first_is same hash _ (c.new-2.ensures.memory ∙ c.in_ok-new.ensures) c.new-4.ensures.items c.new-3.ensures.items (c.in_ok-from_elem.ensures.items_if_clones_equal (λ y is. is)) (search rules)

pub returns-clause-maps : goal.returns-clause-maps
returns-clause-maps g c = c.new-3.ensures.items
