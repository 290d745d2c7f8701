use Rattle.std.specs.Prelude.{Some}
use Rattle.std.specs.Fn.{FnReturnsAt}
use Rattle.std.proofs.lemmas.Result.{IfOk-weaker}
use Rattle.papaya_sessions.proofs.OneMap.{has_told}
use Rattle.threads_updates.specs.Deciding.{NewOldOrStop}
use Rattle.papaya_sessions.proofs.session.Session.update_or_insert.Goals as goal

pub returns-clause-updated : goal.returns-clause-updated
returns-clause-updated g c =
    let y = c.update_or_insert in
    IfOk-weaker y.result _ _
    (λ put. has_told g.K.PartialEq.eq g.S.Hashes.hash c.args.self.now y.new.session y.ensures.inside y.ensures.slot y.ensures.map y.ensures.blocks (g.K.Clone.is_clone c.args.key.now)
    (NewOldOrStop {T = Unit} (FnReturnsAt g.F.Fn c.args.make) (g.V.Clone.is_clone c.args.value.now)) (Some put.word)) y.ensures.updated
