use Rattle.std.proofs.lemmas.Result.{IfErr-weaker, IfOk-weaker}
use Rattle.papaya_sessions.proofs.OneMap.{had_room, no_room}
use Rattle.papaya_sessions.proofs.session.Session.reserve.Goals as goal

pub returns-clause-reserved : goal.returns-clause-reserved
returns-clause-reserved g c =
    let y = c.reserve in
    IfOk-weaker y.result _ _
    (λ _. had_room g.K.PartialEq.eq g.S.Hashes.hash c.args.self.now y.new.self y.ensures.inside y.ensures.slot y.ensures.map y.ensures.blocks c.args.additional)
    y.ensures.done

pub returns-clause-refused : goal.returns-clause-refused
returns-clause-refused g c =
    let y = c.reserve in
    IfErr-weaker y.result _ _
    (λ r. no_room g.K.PartialEq.eq g.S.Hashes.hash c.args.self.now y.new.self y.ensures.inside y.ensures.slot y.ensures.map y.ensures.blocks c.args.additional r)
    y.ensures.refused
