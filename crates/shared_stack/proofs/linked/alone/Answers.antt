use Rattle.std.specs.Prelude.{None}
use Rattle.seize_views.proofs.Views.Notes.{rules_start}
use Rattle.shared_stack.specs.declared.linked.Number.{Number}
use Rattle.shared_stack.proofs.linked.alone.Goals as goal

pub open-requires-clause-starts : goal.open-requires-clause-starts
open-requires-clause-starts c = rules_start Number (λ _. None) (record { batch_size = 32; roots = 1; chains = 1 })
