use Rattle.std.specs.Prelude.{None}
use Rattle.seize_views.proofs.Views.Notes.{rules_start}
use Rattle.seize_collector_tests.specs.declared.Counted.{Counted}
use Rattle.seize_collector_tests.proofs.desks.forgets_one.Goals as goal

pub open-requires-clause-starts : goal.open-requires-clause-starts
open-requires-clause-starts c = rules_start Counted (λ _. None) (record { batch_size = 5; roots = 1; chains = 0 })
