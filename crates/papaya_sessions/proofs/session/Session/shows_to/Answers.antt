use Rattle.papaya_raw.specs.Given.ReservesDeclared.sweep.Purpose.TheVariants.{Walks}
use Rattle.papaya_sessions.proofs.OneMap.{not_gone, was_shown}
use Rattle.threads_sweeps.proofs.Onlookers.{has_told}
use Rattle.papaya_sessions.proofs.session.Session.shows_to.Goals as goal

pub returns-clause-shown : goal.returns-clause-shown
returns-clause-shown g c =
    let y = c.shows_to in
    was_shown g.K.PartialEq.eq g.S.Hashes.hash c.args.self.now y.new.session y.ensures.inside y.ensures.slot y.ensures.map y.ensures.blocks y.result.0 y.ensures.gone

pub returns-clause-told : goal.returns-clause-told
returns-clause-told g c =
    has_told g.T.Onlooker.has_seen g.K.PartialEq.eq g.S.Hashes.hash c.args.onlooker c.shows_to.result.1 c.args.self.now.base.caller.seat.view c.shows_to.new.session.caller.seat.view
    c.shows_to.ensures.shown

pub returns-clause-refused : goal.returns-clause-refused
returns-clause-refused g c =
    let y = c.shows_to in
    not_gone g.K.PartialEq.eq g.S.Hashes.hash c.args.self.now y.new.session y.ensures.inside y.ensures.slot y.ensures.map y.ensures.blocks Walks y.result.0 y.ensures.gone
