use Rattle.std.proofs.Common.{refl}
use Rattle.threads_calls.proofs.session.SessionBase.is_empty.Goals as goal

pub returns-clause-counted : goal.returns-clause-counted
returns-clause-counted g c = (c.len-count.result, c.len-count.ensures.counted, refl)
