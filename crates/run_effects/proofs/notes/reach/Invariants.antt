use Rattle.std.proofs.Common.{◌≡◌, ◌-◌, ◌+◌, ℕ, vec_len}
use Rattle.std.specs.Prelude.{slice_index_or}
use Rattle.run_effects.specs.declared.role.Role.TheVariants.{Free}
use Rattle.run_effects.proofs.notes.reach.Given as goal

-- each role is as it was
abbrev pub invariant-loop-roles : goal.invariant-loop-roles
invariant-loop-roles l = (b : ℕ) → slice_index_or l.roles.items b Free ≡ slice_index_or l.initial.roles.items b Free

abbrev pub decreases-loop-roles : goal.decreases-loop-roles
decreases-loop-roles l = (l.block + 1) - vec_len l.roles
