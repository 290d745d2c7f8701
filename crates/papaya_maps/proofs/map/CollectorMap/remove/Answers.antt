use Rattle.std.specs.Prelude.{option_map}
use Rattle.std.proofs.Common.{◌∙◌}
use Rattle.papaya_maps.proofs.Calls.{values}
use Rattle.papaya_maps.proofs.map.CollectorMap.remove.Goals as goal

pub returns-clause-removed : goal.returns-clause-removed
returns-clause-removed g c = (
  option_map (λ pair. (pair.0.now, pair.1.now)) c.in_ok-taken.taken,
  c.value_of.ensures ∙ values (λ pair. (pair.0.now, pair.1.now)) c.in_ok-taken.taken,
  c.in_ok-taken.ensures.removed,
)
