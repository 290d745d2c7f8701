use Rattle.std.proofs.lemmas.Result.{IfErr-weaker, IfOk-weaker}
use Rattle.papaya_sessions.proofs.OneMap.{has_named_with, not_made}
use Rattle.papaya_sessions.proofs.session.Session.try_insert_with.Goals as goal

pub returns-clause-tried : goal.returns-clause-tried
returns-clause-tried g c =
    let y = c.try_insert_with in
    IfOk-weaker y.result _ _
    (λ told. has_named_with g.K.PartialEq.eq g.S.Hashes.hash c.args.self.now y.new.self y.ensures.inside y.ensures.slot y.ensures.map y.ensures.blocks c.args.key told.1 told.0.word) y.ensures.tried

pub returns-clause-refused : goal.returns-clause-refused
returns-clause-refused g c =
    let y = c.try_insert_with in
    IfErr-weaker y.result _ _
    (λ fault. not_made g.K.PartialEq.eq g.S.Hashes.hash c.args.self.now y.new.self y.ensures.inside y.ensures.slot y.ensures.map y.ensures.blocks c.args.key fault) y.ensures.refused
