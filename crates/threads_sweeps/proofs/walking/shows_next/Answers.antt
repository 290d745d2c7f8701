use Rattle.threads_sweeps.proofs.Gone.{work_of_them, work_stays}
use Rattle.threads_sweeps.proofs.walking.shows_next.Goals as goal

pub returns-clause-stays : goal.returns-clause-stays
returns-clause-stays g c = work_stays c.args.within.now.seat.now.view c.asks_next.new.self.seat.now.view _ c.asks_next.ensures.asked

pub returns-clause-them : goal.returns-clause-them
returns-clause-them g c = work_of_them c.args.within.now.seat.now.view c.asks_next.new.self.seat.now.view _ c.asks_next.ensures.asked

pub returns-clause-next : goal.returns-clause-next
returns-clause-next g c = (c.args.machine.now, c.requires.ready.at.works, c.asks_next.ensures.asked)
