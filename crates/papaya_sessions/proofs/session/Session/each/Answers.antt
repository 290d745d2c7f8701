use Rattle.papaya_raw.specs.Given.ReservesDeclared.sweep.Purpose.TheVariants.{Walks}
use Rattle.papaya_sessions.proofs.OneMap.{not_gone, was_shown}
use Rattle.papaya_sessions.proofs.session.Session.each.Goals as goal

pub returns-clause-shown : goal.returns-clause-shown
returns-clause-shown g c =
    let y = c.each in
    was_shown g.K.PartialEq.eq g.S.Hashes.hash c.args.self.now y.new.session y.ensures.inside y.ensures.slot y.ensures.map y.ensures.blocks y.result y.ensures.gone

pub returns-clause-refused : goal.returns-clause-refused
returns-clause-refused g c =
    let y = c.each in
    not_gone g.K.PartialEq.eq g.S.Hashes.hash c.args.self.now y.new.session y.ensures.inside y.ensures.slot y.ensures.map y.ensures.blocks Walks y.result y.ensures.gone

pub returns-clause-each : goal.returns-clause-each
returns-clause-each g c = c.each.ensures.each
