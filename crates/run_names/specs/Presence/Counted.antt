-- What is counted of those who are there.
use Rattle.std.specs.Prelude.{◌≡◌, ℕ, List, slice_index}
use Rattle.run_schedules.specs.Runs.Present.{guards_on, living_on, registrations_on}
use Rattle.run_schedules.specs.declared.holders.NamedGuard.{NamedGuard}
use Rattle.run_schedules.specs.declared.holders.NamedRegistration.{NamedRegistration}
use Rattle.run_names.specs.Presence.Crowd.{is_living, weigh}

-- the counts are those of these registrations and guards, for each slot, and of all that live
pub record AreCounted (registrations : List NamedRegistration) (guards : List NamedGuard) (registered held living : List ℕ) (all_living : ℕ) : Type 0 where
  pub registered_so : (slot : ℕ) → slice_index registered slot ≡ registrations_on slot registrations
  pub held_so : (slot : ℕ) → slice_index held slot ≡ guards_on slot guards
  pub living_so : (slot : ℕ) → slice_index living slot ≡ living_on slot guards
  pub all_so : all_living ≡ weigh is_living guards
