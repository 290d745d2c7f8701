use Rattle.threads_sweeps.proofs.Onlookers.{called_on}
use Rattle.threads_sweeps.proofs.showing.CallsOnlooker.sees.Goals as goal

pub returns-clause-seen : goal.returns-clause-seen
returns-clause-seen g c = called_on g.F.FnMut c.args.self.now.each _ _ _ c.each.ensures
