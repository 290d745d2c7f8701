use Rattle.std.proofs.Common.{rules}
use Rattle.run_schedules.proofs.Runs.Sames.{same_by}
use Rattle.run_schedules.proofs.token.Token.is.Goals as goal

pub returns-clause-same : goal.returns-clause-same
returns-clause-same c = same_by c.eq.result c.args.self.now c.args.other.now (search rules)
