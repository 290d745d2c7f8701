use Rattle.threads_updates.proofs.Decided.{new_old}
use Rattle.threads_updates.proofs.deciding.NewOfOldDecides.decide.Goals as goal

pub returns-in-Some : goal.returns-in-Some
returns-in-Some g c = new_old g.F.Fn c.args.self.now.make.now c.args.pair _ c.in-Some.is c.make.result c.make.ensures
