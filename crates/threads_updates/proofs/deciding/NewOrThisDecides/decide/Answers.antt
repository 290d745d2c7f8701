use Rattle.threads_updates.proofs.Decided.{new_old_or}
use Rattle.threads_updates.proofs.deciding.NewOrThisDecides.decide.Goals as goal

pub returns-in-Some : goal.returns-in-Some
returns-in-Some g c = new_old_or g.F.Fn c.args.self.now.make.now c.args.pair _ c.in-Some.is c.make.result c.make.ensures (g.V.Clone.is_clone c.args.self.now.value.now)
