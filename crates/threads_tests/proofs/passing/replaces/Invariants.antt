use Rattle.std.proofs.Common.{◌≡◌}
use Rattle.threads_calls.specs.Given.SeizeViewsDeclared.view.SlotView.TheVariants.{Outside}
use Rattle.threads_tests.proofs.passing.replaces.Given as goal

-- the session keeps its slot
abbrev pub invariant-loop-turn : goal.invariant-loop-turn
invariant-loop-turn g l = l.session.caller.seat.view.slot ≡ Outside l.session.slot
