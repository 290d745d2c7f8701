use Rattle.std.specs.Fn.{FnReturnsAt}
use Rattle.threads_updates.specs.Deciding.{NewOldOrStop}
use Rattle.threads_updates.proofs.Named.{named_shown, shows_computed}
use Rattle.threads_updates.proofs.Tried.{stopped_so}
use Rattle.threads_updates.proofs.updating.update_or_insert.Goals as goal

pub returns-in-Some-clause-updated : goal.returns-in-Some-clause-updated
returns-in-Some-clause-updated g c = (c.in-Ok.done, c.in-Ok.ensures.done, c.in-Some.ensures.named)

pub returns-in-Some-clause-shown : goal.returns-in-Some-clause-shown
returns-in-Some-clause-shown g c =
    let n = c.changes.new.session.caller in
    named_shown n c.in-Ok.done
    (shows_computed n g.K.PartialEq.eq g.S.Hashes.hash (g.K.Clone.is_clone c.args.key.now) (NewOldOrStop {T = Unit} (FnReturnsAt g.F.Fn c.args.make.now) (g.V.Clone.is_clone c.args.value.now))
    c.args.session.now.caller.seat.view c.in-Ok.done c.in-Ok.ensures.done) c.in-Some.put.word c.in-Some.ensures.named

pub returns-in-None-clause-stopped : goal.returns-in-None-clause-stopped
returns-in-None-clause-stopped g c =
    stopped_so g.K.PartialEq.eq g.S.Hashes.hash (g.K.Clone.is_clone c.args.key.now) (NewOldOrStop {T = Unit} (FnReturnsAt g.F.Fn c.args.make.now) (g.V.Clone.is_clone c.args.value.now))
    c.args.session.now.caller.seat.view c.changes.new.session.caller.seat.view c.in-Ok.done c.in-None.ensures.none c.in-Ok.ensures.done
