use Rattle.std.specs.Prelude.{◌≡◌}
use Rattle.seize_collector_tests.proofs.marking.turns.Given as goal

-- the pass is of the memory that it was of, and so is the registration
abbrev pub invariant-loop-turn : goal.invariant-loop-turn
invariant-loop-turn l = (l.pass.pass.seat.base ≡ l.initial.pass.pass.seat.base) × (l.registration.stay.caller.blocks ≡ l.initial.registration.stay.caller.blocks)
