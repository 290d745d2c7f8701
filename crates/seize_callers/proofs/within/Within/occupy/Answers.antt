use Rattle.std.proofs.Common.{ap, inl}
use Rattle.seize_views.specs.Views.Promises.{op_of}
use Rattle.seize_callers.proofs.within.Within.occupy.Goals as goal

pub exchange-requires : goal.exchange-requires
exchange-requires g c = inl (ap (op_of g.T.Defers.defers) c.requires)
