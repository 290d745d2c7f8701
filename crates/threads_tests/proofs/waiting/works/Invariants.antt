use Rattle.std.proofs.Common.{◌≡◌}
use Rattle.threads_calls.specs.Given.SeizeViewsDeclared.view.Has.TheVariants.{Nothing}
use Rattle.threads_calls.specs.Given.SeizeViewsDeclared.view.SlotView.TheVariants.{Inside}
use Rattle.threads_tests.proofs.waiting.works.Given as goal

-- the session stays in its section
abbrev pub invariant-loop-key : goal.invariant-loop-key
invariant-loop-key g l = l.session.caller.seat.view.slot ≡ Inside l.session.slot Nothing
