use Rattle.papaya_sessions.proofs.OneMap.{looked_empty}
use Rattle.papaya_sessions.proofs.session.Session.is_empty.Goals as goal

pub returns-clause-counted : goal.returns-clause-counted
returns-clause-counted g c =
    let y = c.is_empty in
    looked_empty g.K.PartialEq.eq g.S.Hashes.hash c.args.self.now y.new.self y.ensures.inside y.ensures.slot y.ensures.map y.ensures.blocks y.result y.ensures.counted
