use Rattle.std.proofs.Common.{◌≡◌, ◌-◌, ◌+◌, ℕ, slice_index, vec_len}
use Rattle.run_names.proofs.number_counts.NumberCounts.reach.Given as goal

-- no count has changed
abbrev pub invariant-loop-self : goal.invariant-loop-self
invariant-loop-self l = (other : ℕ) → slice_index l.self-inside.counts.items other ≡ slice_index l.initial.self-inside.counts.items other

abbrev pub decreases-loop-self : goal.decreases-loop-self
decreases-loop-self l = (l.number + 1) - vec_len l.self-inside.counts
