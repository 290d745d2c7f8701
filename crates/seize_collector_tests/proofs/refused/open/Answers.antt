use Rattle.std.specs.Prelude.{Some}
use Rattle.seize_views.proofs.Views.Notes.{rules_start}
use Rattle.seize_collector_tests.specs.declared.refused.Listed.{Listed}
use Rattle.seize_collector_tests.proofs.refused.open.Goals as goal

pub open-requires-clause-starts : goal.open-requires-clause-starts
open-requires-clause-starts c = rules_start Listed (λ x. Some x.field) (record { batch_size = 5; roots = 1; chains = 0 })
