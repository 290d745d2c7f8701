-- The list of pairs grows.
use Rattle.std.proofs.Common.{◌≡◌, ◌-◌, ◌+◌, ℕ, vec_len}
use Rattle.std.specs.Prelude.{slice_index_or}
use Rattle.run_effects.specs.declared.tally.Whereabouts.TheVariants.{Unborn}
use Rattle.run_effects.proofs.tally.reach.Given as goal

-- each pair is where it was
abbrev pub invariant-loop-pairs : goal.invariant-loop-pairs
invariant-loop-pairs l = (n : ℕ) → slice_index_or l.pairs.items n Unborn ≡ slice_index_or l.initial.pairs.items n Unborn

abbrev pub decreases-loop-pairs : goal.decreases-loop-pairs
decreases-loop-pairs l = (l.pair + 1) - vec_len l.pairs
