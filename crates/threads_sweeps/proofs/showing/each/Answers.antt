use Rattle.threads_sweeps.proofs.Onlookers.{shown_each}
use Rattle.threads_sweeps.proofs.showing.each.Goals as goal

pub returns-clause-each : goal.returns-clause-each
returns-clause-each g c =
    shown_each (λ x. x.each) g.F.FnMut g.K.PartialEq.eq g.S.Hashes.hash _ c.shows_to-end.result.1 c.args.session.now.caller.seat.view c.shows_to-end.new.session.caller.seat.view c.shows_to-end.ensures.shown
