use Rattle.std.specs.Prelude.{Err}
use Rattle.std.proofs.lemmas.Result.{IfErr-weaker, IfOk-weaker}
use Rattle.papaya_raw.specs.Given.ReservesDeclared.sweep.Purpose.TheVariants.{Clears}
use Rattle.papaya_sessions.proofs.OneMap.{not_gone, was_cleared}
use Rattle.papaya_sessions.proofs.session.Session.clear.Goals as goal

pub returns-clause-cleared : goal.returns-clause-cleared
returns-clause-cleared g c =
    let y = c.clear in
    IfOk-weaker y.result _ _
    (λ _. was_cleared g.K.PartialEq.eq g.S.Hashes.hash c.args.self.now y.new.self y.ensures.inside y.ensures.slot y.ensures.map y.ensures.blocks)
    y.ensures.cleared

pub returns-clause-refused : goal.returns-clause-refused
returns-clause-refused g c =
    let y = c.clear in
    IfErr-weaker y.result _ _
    (λ fault. not_gone g.K.PartialEq.eq g.S.Hashes.hash c.args.self.now y.new.self y.ensures.inside y.ensures.slot y.ensures.map y.ensures.blocks Clears (Err fault))
    y.ensures.refused
