use Rattle.std.proofs.Common.{refl}
use Rattle.map_forms.proofs.growing.Items.into_value.Goals as goal

pub returns-in-Ok-clause-value : goal.returns-in-Ok-clause-value
returns-in-Ok-clause-value c = (c.in-Ok.listed, refl, c.in-Ok.ensures)
