use Rattle.std.specs.Prelude.{option_map}
use Rattle.std.proofs.lemmas.Result.{IfErr-weaker, IfOk-weaker}
use Rattle.papaya_sessions.proofs.OneMap.{gave_up_if, not_removed_if}
use Rattle.papaya_sessions.proofs.session.Session.remove_if.Goals as goal

pub returns-clause-removed : goal.returns-clause-removed
returns-clause-removed g c =
    let y = c.remove_if in
    IfOk-weaker y.result _ _
    (λ taken. gave_up_if g.K.PartialEq.eq g.S.Hashes.hash c.args.self.now y.new.self y.ensures.inside y.ensures.slot y.ensures.map y.ensures.blocks (g.Q.Equivalent.stands_for c.args.key.now)
    (option_map (λ found. found.word) taken)) y.ensures.removed

pub returns-clause-refused : goal.returns-clause-refused
returns-clause-refused g c =
    let y = c.remove_if in
    IfErr-weaker y.result _ _
    (λ fault. not_removed_if g.K.PartialEq.eq g.S.Hashes.hash c.args.self.now y.new.self y.ensures.inside y.ensures.slot y.ensures.map y.ensures.blocks (g.Q.Equivalent.stands_for c.args.key.now) fault)
    y.ensures.refused
