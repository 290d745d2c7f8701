use Rattle.std.specs.Prelude.{◌≡◌}
use Rattle.seize_collector_tests.proofs.bringing.brings_all.Given as goal

-- between two turns it is of this memory
abbrev pub invariant-loop-turn : goal.invariant-loop-turn
invariant-loop-turn l = l.registration.stay.caller.blocks.now ≡ l.collector.blocks.now
