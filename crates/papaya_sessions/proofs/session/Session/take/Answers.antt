use Rattle.std.specs.Prelude.{is_some}
use Rattle.std.proofs.lemmas.Result.{IfErr-weaker, IfOk-weaker}
use Rattle.papaya_sessions.proofs.OneMap.{gave_up, gave_up_named, not_removed}
use Rattle.papaya_sessions.proofs.session.Session.take.Goals as goal

pub returns-clause-removed : goal.returns-clause-removed
returns-clause-removed g c =
    let y = c.remove in
    IfOk-weaker y.result _ _
    (λ taken. gave_up g.K.PartialEq.eq g.S.Hashes.hash c.args.self.now y.new.self y.ensures.inside y.ensures.slot y.ensures.map y.ensures.blocks (g.Q.Equivalent.stands_for c.args.key.now) (is_some taken))
    y.ensures.removed

pub returns-clause-taken : goal.returns-clause-taken
returns-clause-taken g c =
    let y = c.remove in
    IfOk-weaker y.result _ _
    (λ taken. gave_up_named g.K.PartialEq.eq g.S.Hashes.hash c.args.self.now y.new.self y.ensures.inside y.ensures.slot y.ensures.map y.ensures.blocks (λ found. found.word)
    (g.Q.Equivalent.stands_for c.args.key.now) taken) y.ensures.taken

pub returns-clause-refused : goal.returns-clause-refused
returns-clause-refused g c =
    let y = c.remove in
    IfErr-weaker y.result _ _
    (λ fault. not_removed g.K.PartialEq.eq g.S.Hashes.hash c.args.self.now y.new.self y.ensures.inside y.ensures.slot y.ensures.map y.ensures.blocks (g.Q.Equivalent.stands_for c.args.key.now) fault)
    y.ensures.refused
