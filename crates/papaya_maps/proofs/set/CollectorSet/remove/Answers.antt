use Rattle.std.specs.Prelude.{option_map}
use Rattle.std.proofs.Common.{◌∙◌}
use Rattle.papaya_maps.proofs.Sets.{still_some}
use Rattle.papaya_maps.proofs.set.CollectorSet.remove.Goals as goal

pub returns-clause-taken : goal.returns-clause-taken
returns-clause-taken g c = (
  option_map (λ pair. (pair.0.now, pair.1.now)) c.in_ok-taken.taken,
  c.is_some.ensures ∙ still_some (λ pair. (pair.0.now, pair.1.now)) c.in_ok-taken.taken,
  c.in_ok-taken.ensures.removed,
)
