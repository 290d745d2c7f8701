use Rattle.std.proofs.Common.{◌≡◌}
use Rattle.papaya_tests.proofs.whole.follows.Given as goal

-- the pass is of the memory that it was of
abbrev pub invariant-loop-turn : goal.invariant-loop-turn
invariant-loop-turn g l = l.pass.base.seat.base ≡ l.initial.pass.base.seat.base
