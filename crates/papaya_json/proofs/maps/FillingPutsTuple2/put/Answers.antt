use Rattle.std.specs.Prelude.{is_some}
use Rattle.papaya_json.proofs.maps.FillingPutsTuple2.put.Goals as goal

pub returns-in-Ok : goal.returns-in-Ok
returns-in-Ok g c = (is_some c.in-Ok.field-0, c.in-Ok.ensures.keeps.1, c.in-Ok.ensures.stored)
