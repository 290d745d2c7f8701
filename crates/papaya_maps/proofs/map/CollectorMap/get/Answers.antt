use Rattle.std.specs.Prelude.{option_map}
use Rattle.std.proofs.Common.{◌∙◌}
use Rattle.papaya_maps.proofs.Calls.{values}
use Rattle.papaya_maps.proofs.map.CollectorMap.get.Goals as goal

pub returns-clause-had : goal.returns-clause-had
returns-clause-had g c = (
  option_map (λ pair. (pair.0.now, pair.1.now)) c.in_ok-found.found,
  c.value_of.ensures ∙ values (λ pair. (pair.0.now, pair.1.now)) c.in_ok-found.found,
  c.in_ok-found.ensures.had,
)
