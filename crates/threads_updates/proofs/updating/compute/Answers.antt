use Rattle.std.proofs.lemmas.Result.{IfOk-weaker}
use Rattle.threads_updates.proofs.Named.{shows_computed}
use Rattle.threads_updates.specs.Deciding.{MayDecide}
use Rattle.threads_updates.proofs.updating.compute.Goals as goal

pub returns-clause-shown : goal.returns-clause-shown
returns-clause-shown g c =
    IfOk-weaker c.changes.result _ _
    (λ done. shows_computed c.changes.new.session.caller g.K.PartialEq.eq g.S.Hashes.hash (g.K.Clone.is_clone c.args.key.now) (MayDecide g.F.Fn c.args.decide.now) c.args.session.now.caller.seat.view done) c.changes.ensures.done
