use Rattle.std.specs.Prelude.{option_map}
use Rattle.std.proofs.Common.{◌∙◌}
use Rattle.papaya_maps.proofs.Sets.{keys}
use Rattle.papaya_maps.proofs.set.CollectorSet.get.Goals as goal

pub returns-clause-had : goal.returns-clause-had
returns-clause-had g c = (
  option_map (λ pair. (pair.0.now, pair.1.now)) c.in_ok-found.found,
  c.element_of.ensures ∙ keys (λ pair. (pair.0.now, pair.1.now)) c.in_ok-found.found,
  c.in_ok-found.ensures.had,
)
