-- The pairs of the blocks so far are listed, and the blocks from here on are as they were.
use Rattle.std.specs.Prelude.{◌≡◌, ◌≤◌, ℕ}
use Rattle.run_schedules.specs.Given.SeizeWordsMem.{value_at}
use Rattle.run_effects.specs.Effects.Known.{known}
use Rattle.run_effects.specs.Tallies.Left.{noted_below}
use Rattle.run_effects.proofs.left.pairs_left.Given as goal

abbrev pub invariant-loop-block : goal.invariant-loop-block
invariant-loop-block g l =
    (l.pairs.items ≡ noted_below {K = g.row.K.Denot} {V = g.row.V.Denot} (known l.notes).roles (value_at l.fn.memory) l.block)
    × ((b : ℕ) → l.block ≤ b → value_at l.memory b ≡ value_at l.fn.memory b)
