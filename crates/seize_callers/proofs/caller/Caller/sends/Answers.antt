use Rattle.seize_callers.proofs.Keeping.{none_away}
use Rattle.seize_callers.proofs.caller.Caller.sends.Goals as goal

pub errand-requires-clause-home : goal.errand-requires-clause-home
errand-requires-clause-home g c = none_away c.args.self.now.seat.away c.args.self.now.home
