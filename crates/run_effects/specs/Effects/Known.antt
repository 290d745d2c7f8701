-- What is known of the memory of a run, and how it changes.
use Rattle.std.specs.Prelude.{ℕ, ◌+◌, nat_le, if◌then◌else◌, slice_index_or}
use Rattle.run_schedules.specs.Schedules.Lists.{put}
use Rattle.run_effects.specs.declared.notes.Notes.{Notes}
use Rattle.run_effects.specs.declared.role.Role.{Role}
use Rattle.run_effects.specs.declared.role.Role.TheVariants.{Free, Pair}

-- what each block is, how many pairs were stored, and how many buckets of slots there are
pub record Known : Type 0 where
  pub roles : ℕ → Role
  pub stored : ℕ
  pub buckets : ℕ

-- what is known by notes
abbrev pub known : Notes → Known
known notes = record { roles = λ b. slice_index_or notes.roles.items b Free; stored = notes.stored; buckets = notes.buckets }

abbrev pub nothing_known : Known
nothing_known = record { roles = λ b. Free; stored = 0; buckets = 0 }

-- a block is another thing from now on
abbrev pub with_role : ℕ → Role → Known → Known
with_role b role known = record known { roles = put b role known.roles }

-- it is the pair that is stored next
abbrev pub with_pair : ℕ → Known → Known
with_pair b known = record { roles = put b (Pair (known.stored + 1)) known.roles; stored = known.stored + 1; buckets = known.buckets }

-- a bucket is there, and those before it
abbrev pub with_bucket : ℕ → Known → Known
with_bucket bucket known = if nat_le known.buckets bucket then record known { buckets = bucket + 1 } else known
