use Rattle.std.proofs.Common.{◌≡◌}
use Rattle.threads_calls.specs.Given.SeizeViewsDeclared.view.Has.TheVariants.{Nothing}
use Rattle.threads_calls.specs.Given.SeizeViewsDeclared.view.SlotView.TheVariants.{Inside}
use Rattle.threads_tests.proofs.storing.stores.Given as goal

-- the session stays in its section
abbrev pub invariant-loop-n : goal.invariant-loop-n
invariant-loop-n g l = l.session.caller.seat.view.slot ≡ Inside l.session.slot Nothing
