use Rattle.std.proofs.Common.{refl}
use Rattle.threads_errands.proofs.ahead.Ahead.stands.Goals as goal

pub stands_as-requires-clause-picked : goal.stands_as-requires-clause-picked
stands_as-requires-clause-picked g c = (refl, λ machine is. is)
