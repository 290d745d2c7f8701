use Rattle.std.specs.Prelude.{is_some}
use Rattle.std.proofs.lemmas.Result.{IfErr-weaker, IfOk-weaker}
use Rattle.papaya_sessions.proofs.OneMap.{came_to_have, had_before, not_stored}
use Rattle.papaya_sessions.proofs.session.Session.insert.Goals as goal

pub returns-clause-stored : goal.returns-clause-stored
returns-clause-stored g c =
    let y = c.insert in
    IfOk-weaker y.result _ _
    (λ old. came_to_have g.K.PartialEq.eq g.S.Hashes.hash c.args.self.now y.new.self y.ensures.inside y.ensures.slot y.ensures.map y.ensures.blocks c.args.key c.args.value (is_some old))
    y.ensures.stored

pub returns-clause-before : goal.returns-clause-before
returns-clause-before g c =
    let y = c.insert in
    IfOk-weaker y.result _ _
    (λ old. had_before g.K.PartialEq.eq g.S.Hashes.hash c.args.self.now y.new.self y.ensures.inside y.ensures.slot y.ensures.map y.ensures.blocks (λ found. found.word) c.args.key c.args.value old)
    y.ensures.replaced

pub returns-clause-refused : goal.returns-clause-refused
returns-clause-refused g c =
    let y = c.insert in
    IfErr-weaker y.result _ _
    (λ r. not_stored g.K.PartialEq.eq g.S.Hashes.hash c.args.self.now y.new.self y.ensures.inside y.ensures.slot y.ensures.map y.ensures.blocks c.args.key c.args.value r.fault) y.ensures.refused
