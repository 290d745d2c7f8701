use Rattle.std.specs.Prelude.{None}
use Rattle.seize_views.proofs.Views.Notes.{rules_start}
use Rattle.benches.specs.declared.sections.Number.{Number}
use Rattle.benches.proofs.sections.timed.Goals as goal

pub open-requires-clause-starts : goal.open-requires-clause-starts
open-requires-clause-starts g c = rules_start Number (λ _. None) (record { batch_size = 32; roots = 4; chains = 0 })
