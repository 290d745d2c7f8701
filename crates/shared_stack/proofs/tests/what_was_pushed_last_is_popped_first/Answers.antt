use Rattle.std.specs.Prelude.{None}
use Rattle.seize_views.proofs.Views.Notes.{rules_start}
use Rattle.shared_stack.specs.declared.pile.Pile.{Pile}
use Rattle.shared_stack.specs.declared.tests.Tally.{Tally}
use Rattle.shared_stack.proofs.tests.what_was_pushed_last_is_popped_first.Goals as goal

pub open-requires-clause-starts : goal.open-requires-clause-starts
open-requires-clause-starts g c = rules_start (Pile Tally) (λ _. None) (record { batch_size = 32; roots = 1; chains = 0 })
