use Rattle.seize_views.proofs.Views.Notes.{rules_start}
use Rattle.seize_collector_tests.specs.declared.behind.Numbered.{Numbered}
use Rattle.seize_collector_tests.proofs.behind.comes_back_alone.Goals as goal

pub open-requires-clause-starts : goal.open-requires-clause-starts
open-requires-clause-starts g c = rules_start Numbered (λ x. x.list) (record { batch_size = 1; roots = 2; chains = 0 })
