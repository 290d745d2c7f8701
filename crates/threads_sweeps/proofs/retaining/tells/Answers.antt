use Rattle.threads_sweeps.proofs.Gone.{work_of_them, work_stays}
use Rattle.threads_sweeps.proofs.retaining.tells.Goals as goal

pub keeps-requires : goal.keeps-requires
keeps-requires g c = record { asks = (c.args.word, c.requires.asks) }

pub returns-clause-stays : goal.returns-clause-stays
returns-clause-stays g c = work_stays c.args.within.now.seat.now.view c.keeps.new.self.seat.now.view _ c.keeps.ensures.told

pub returns-clause-them : goal.returns-clause-them
returns-clause-them g c = work_of_them c.args.within.now.seat.now.view c.keeps.new.self.seat.now.view _ c.keeps.ensures.told

pub returns-clause-told : goal.returns-clause-told
returns-clause-told g c = (c.keeps-kept.result, c.keeps-kept.ensures.called, (c.args.machine.now, c.requires.asks.at.works, c.keeps.ensures.told))
