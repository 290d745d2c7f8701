use Rattle.std.proofs.lemmas.Result.{IfErr-weaker, IfOk-weaker}
use Rattle.threads_updates.specs.Given.CallsAnswers.{has_stored}
use Rattle.papaya_sessions.proofs.OneMap.{has_named, lacked, not_tried}
use Rattle.papaya_sessions.proofs.session.Session.try_insert.Goals as goal

pub returns-clause-tried : goal.returns-clause-tried
returns-clause-tried g c =
    let y = c.try_insert in
    IfOk-weaker y.result _ _
    (λ told. lacked g.K.PartialEq.eq g.S.Hashes.hash c.args.self.now y.new.self y.ensures.inside y.ensures.slot y.ensures.map y.ensures.blocks c.args.key c.args.value (has_stored told.1))
    y.ensures.tried

pub returns-clause-there : goal.returns-clause-there
returns-clause-there g c =
    let y = c.try_insert in
    IfOk-weaker y.result _ _
    (λ told. has_named g.K.PartialEq.eq g.S.Hashes.hash c.args.self.now y.new.self y.ensures.inside y.ensures.slot y.ensures.map y.ensures.blocks c.args.key c.args.value told.0.word)
    y.ensures.there

pub returns-clause-refused : goal.returns-clause-refused
returns-clause-refused g c =
    let y = c.try_insert in
    IfErr-weaker y.result _ _
    (λ r. not_tried g.K.PartialEq.eq g.S.Hashes.hash c.args.self.now y.new.self y.ensures.inside y.ensures.slot y.ensures.map y.ensures.blocks c.args.key c.args.value r.fault) y.ensures.refused
