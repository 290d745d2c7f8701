use Rattle.std.specs.Prelude.{Some, None}
use Rattle.std.proofs.Common.{refl}
use Rattle.papaya_sessions.proofs.session.comparing.has_equal.Goals as goal

pub returns-in-Some-clause-compared : goal.returns-in-Some-clause-compared
returns-in-Some-clause-compared g c = (Some c.in-Some.there.now, c.in-Some.ensures.got, c.eq.ensures)

pub returns-in-None-clause-compared : goal.returns-in-None-clause-compared
returns-in-None-clause-compared g c = (None, c.in-None.ensures.got, refl)
