-- Each map has the pairs that it had.
use Rattle.std.proofs.Common.{◌≡◌, ◌-◌, ◌+◌, ℕ, vec_len}
use Rattle.run_effects.specs.Tallies.ByMap.{list_at}
use Rattle.run_effects.proofs.by_map.ByMap.reach.Given as goal

abbrev pub invariant-loop-alloc : goal.invariant-loop-alloc
invariant-loop-alloc l = (other : ℕ) → list_at l.self.lists.items other ≡ list_at l.initial.self.lists.items other

abbrev pub decreases-loop-alloc : goal.decreases-loop-alloc
decreases-loop-alloc l = (l.map + 1) - vec_len l.self.lists
