use Rattle.std.specs.Prelude.{option_map}
use Rattle.std.proofs.Common.{◌∙◌}
use Rattle.papaya_maps.proofs.Calls.{values}
use Rattle.papaya_maps.proofs.session.CollectorSession.get.Goals as goal

pub returns-clause-got : goal.returns-clause-got
returns-clause-got g c = (
  option_map (λ pair. (pair.0.now, pair.1.now)) c.finds.result,
  c.value_of.ensures ∙ values (λ pair. (pair.0.now, pair.1.now)) c.finds.result,
  c.finds.ensures.had,
)
