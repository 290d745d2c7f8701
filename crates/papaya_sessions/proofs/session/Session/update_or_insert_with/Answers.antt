use Rattle.std.specs.Prelude.{Some}
use Rattle.std.specs.Fn.{FnReturns, FnReturnsAt}
use Rattle.std.proofs.lemmas.Result.{IfOk-weaker}
use Rattle.papaya_sessions.proofs.OneMap.{has_told}
use Rattle.threads_updates.specs.Deciding.{NewOldOr}
use Rattle.papaya_sessions.proofs.session.Session.update_or_insert_with.Goals as goal

pub returns-clause-updated : goal.returns-clause-updated
returns-clause-updated g c =
    let y = c.update_or_insert_with in
    IfOk-weaker y.result _ _
    (λ put. has_told g.K.PartialEq.eq g.S.Hashes.hash c.args.self.now y.new.session y.ensures.inside y.ensures.slot y.ensures.map y.ensures.blocks (g.K.Clone.is_clone c.args.key.now)
    (NewOldOr {T = Unit} (FnReturnsAt g.F.Fn c.args.make) (FnReturns g.B.Fn c.args.begin tt)) (Some put.word)) y.ensures.updated
