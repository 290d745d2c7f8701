use Rattle.std.specs.Fn.{FnReturns, FnReturnsAt}
use Rattle.threads_updates.proofs.Named.{named_shown, shows_computed}
use Rattle.threads_updates.proofs.Tried.{not_aborted}
use Rattle.threads_updates.specs.Deciding.{NewOldOr}
use Rattle.threads_updates.proofs.updating.update_or_insert_with.Goals as goal

pub returns-in-Some-clause-updated : goal.returns-in-Some-clause-updated
returns-in-Some-clause-updated g c = (c.in-Ok.done, c.in-Ok.ensures.done, c.in-Some.ensures.named)

pub returns-in-Some-clause-shown : goal.returns-in-Some-clause-shown
returns-in-Some-clause-shown g c =
    let n = c.changes.new.session.caller in
    named_shown n c.in-Ok.done
    (shows_computed n g.K.PartialEq.eq g.S.Hashes.hash (g.K.Clone.is_clone c.args.key.now) (NewOldOr {T = Unit} (FnReturnsAt g.F.Fn c.args.make.now) (FnReturns g.B.Fn c.args.begin.now tt))
    c.args.session.now.caller.seat.view c.in-Ok.done c.in-Ok.ensures.done) c.in-Some.put.word c.in-Some.ensures.named

pub unreachable-requires : goal.unreachable-requires
unreachable-requires g c =
    not_aborted g.K.PartialEq.eq g.S.Hashes.hash (g.K.Clone.is_clone c.args.key.now) (FnReturnsAt g.F.Fn c.args.make.now) (FnReturns g.B.Fn c.args.begin.now tt) c.args.session.now.caller.seat.view
    c.changes.new.session.caller.seat.view c.in-Ok.done tt c.in-Ok.ensures.done c.in-None.ensures.none
