use Rattle.std.proofs.Common.{inr, refl}
use Rattle.threads_updates.proofs.Tried.{tried_done, tried_refused}
use Rattle.threads_updates.proofs.changing.tries.Goals as goal

pub returns-in_default-clause-tried : goal.returns-in_default-clause-tried
returns-in_default-clause-tried g c = inr (refl, refl)

pub returns-in-Ok-told-clause-tried : goal.returns-in-Ok-told-clause-tried
returns-in-Ok-told-clause-tried g c =
    tried_done g.K.PartialEq.eq g.S.Hashes.hash (g.K.Clone.is_clone c.args.key.now) (g.D.Decides.gives c.args.decider.now) c.args.session.now.caller.seat.view
    c.computed-told.new.session.caller.seat.view c.in-Ok.its c.in-Ok.ensures.cases c.computed-told.result c.computed-told.ensures.came c.in-Ok-told.answer c.in-Ok-told.is c.done.result c.done.ensures.done
    c.done.ensures.left

pub returns-in-Err-clause-tried : goal.returns-in-Err-clause-tried
returns-in-Err-clause-tried g c =
    tried_refused g.K.PartialEq.eq g.S.Hashes.hash (g.K.Clone.is_clone c.args.key.now) (g.D.Decides.gives c.args.decider.now) c.args.session.now.caller.seat.view
    c.computed-told.new.session.caller.seat.view c.in-Ok.its c.in-Ok.ensures.cases c.computed-told.result c.computed-told.ensures.came c.in-Err.fault c.in-Err.is
