use Rattle.std.specs.Prelude.{is_some}
use Rattle.papaya.proofs.Elements.{new_where_none}
use Rattle.papaya.proofs.session.SetSession.insert.Goals as goal

pub returns-in-Ok-clause-put : goal.returns-in-Ok-clause-put
returns-in-Ok-clause-put g c = (is_some c.in-Ok.old, new_where_none c.is_none.result (is_some c.in-Ok.old) c.is_none.ensures, c.in-Ok.ensures.stored)
