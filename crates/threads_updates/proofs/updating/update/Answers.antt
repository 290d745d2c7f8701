use Rattle.std.specs.Fn.{FnReturnsAt}
use Rattle.threads_calls.specs.Given.CallersDeclared.answers.Found.{Found}
use Rattle.threads_updates.proofs.Named.{named_there, shows_computed}
use Rattle.threads_updates.specs.Deciding.{NewOld}
use Rattle.threads_updates.proofs.updating.update.Goals as goal

pub returns-in-Ok-clause-updated : goal.returns-in-Ok-clause-updated
returns-in-Ok-clause-updated g c = (c.in-Ok.done, c.in-Ok.ensures.done, c.named.ensures.named)

pub returns-in-Ok-clause-shown : goal.returns-in-Ok-clause-shown
returns-in-Ok-clause-shown g c =
    let n = c.changes.new.session.caller in
    named_there n (λ (f : Found). f.word) c.in-Ok.done
    (shows_computed n g.K.PartialEq.eq g.S.Hashes.hash (g.K.Clone.is_clone c.args.key.now) (NewOld {T = Unit} (FnReturnsAt g.F.Fn c.args.make.now)) c.args.session.now.caller.seat.view c.in-Ok.done c.in-Ok.ensures.done)
    c.named.result c.named.ensures.named
