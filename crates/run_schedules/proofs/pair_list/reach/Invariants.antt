use Rattle.std.proofs.Common.{◌≡◌, ℕ, ◌+◌, ◌-◌, None, length}
use Rattle.std.specs.Prelude.{slice_index_or}
use Rattle.run_schedules.proofs.pair_list.reach.Given as goal

-- no number got another place
abbrev pub invariant-loop-places : goal.invariant-loop-places
invariant-loop-places l = (n : ℕ) → slice_index_or l.places.items n None ≡ slice_index_or l.fn.places.items n None

-- so many places are left to be made
abbrev pub decreases-loop-places : goal.decreases-loop-places
decreases-loop-places l = l.number + 1 - length l.places.items
