use Rattle.std.specs.Prelude.{◌≡◌}
use Rattle.seize_collector_tests.proofs.rewriting.rewrites.Given as goal

-- the block is of the memory that it was of
abbrev pub invariant-loop-turn : goal.invariant-loop-turn
invariant-loop-turn l = l.owned.caller.blocks ≡ l.initial.owned.caller.blocks
