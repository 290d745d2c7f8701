use Rattle.papaya_sessions.proofs.OneMap.{had_one}
use Rattle.papaya_sessions.proofs.session.Session.contains_key.Goals as goal

pub returns-clause-sought : goal.returns-clause-sought
returns-clause-sought g c =
    let y = c.contains_key in let ran = y.ensures.ran in
    had_one g.K.PartialEq.eq g.S.Hashes.hash c.args.self.now y.new.self y.ensures.inside y.ensures.slot y.ensures.map y.ensures.blocks (g.Q.Equivalent.stands_for c.args.key.now) ran.0 y.result ran.1 ran.2
