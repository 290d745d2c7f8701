use Rattle.std.proofs.lemmas.Result.{IfOk-weaker}
use Rattle.papaya_sessions.proofs.OneMap.{has_computed}
use Rattle.threads_updates.specs.Deciding.{MayDecide}
use Rattle.papaya_sessions.proofs.session.Session.compute.Goals as goal

pub returns-clause-done : goal.returns-clause-done
returns-clause-done g c =
    let y = c.compute in
    IfOk-weaker y.result _ _
    (λ done. has_computed g.K.PartialEq.eq g.S.Hashes.hash c.args.self.now y.new.session y.ensures.inside y.ensures.slot y.ensures.map y.ensures.blocks (g.K.Clone.is_clone c.args.key.now)
    (MayDecide g.F.Fn c.args.decide) done) y.ensures.done
