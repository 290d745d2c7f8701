-- Who is there at a moment: registrations, each with its slot, and guards, each on a slot.
use Rattle.std.specs.Prelude.{ℕ, ◌+◌, ◌==◌, ◌≤◌, Bool, true, false, not, ◌&&◌, List, [], ◌∷◌, ◌++◌, filter, find, map, Option, Some, None, if◌then◌else◌}
use Rattle.std.specs.List.{list_any, list_all}
use Rattle.run_schedules.specs.Runs.Same.{is_same}
use Rattle.run_schedules.specs.declared.holders.NamedRegistration.{NamedRegistration}
use Rattle.run_schedules.specs.declared.holders.NamedGuard.{NamedGuard}

-- A guard that was forgotten stays, and its name stays taken, until everything is reclaimed.
pub record Present : Type 0 where
  pub registrations : List NamedRegistration
  pub guards : List NamedGuard

abbrev pub nobody : Present
nobody = record { registrations = []; guards = [] }

-- by name

abbrev pub registration_of : List ℕ → List NamedRegistration → Option NamedRegistration
registration_of name registrations = find (λ r. is_same r.name name) registrations

abbrev pub guard_of : List ℕ → List NamedGuard → Option NamedGuard
guard_of name guards = find (λ g. is_same g.name name) guards

abbrev pub slot_or : Option NamedRegistration → ℕ
slot_or None = 0
slot_or (Some r) = r.slot

-- the slot of a guard that was not forgotten
abbrev pub living_slot : Option NamedGuard → Option ℕ
living_slot None = None
living_slot (Some g) = if g.forgotten then None else Some g.slot

abbrev pub slot_of_registration : List ℕ → Present → ℕ
slot_of_registration name there = slot_or (registration_of name there.registrations)

abbrev pub guards_slot_or : Option NamedGuard → ℕ
guards_slot_or None = 0
guards_slot_or (Some g) = g.slot

abbrev pub slot_of_guard : List ℕ → Present → ℕ
slot_of_guard name there = guards_slot_or (guard_of name there.guards)

-- how many guards are on a slot, forgotten ones too
abbrev pub guards_on : ℕ → List NamedGuard → ℕ
guards_on slot [] = 0
guards_on slot (g ∷ guards) = (if g.slot == slot then 1 else 0) + guards_on slot guards

-- and how many that were not forgotten
abbrev pub living_on : ℕ → List NamedGuard → ℕ
living_on slot [] = 0
living_on slot (g ∷ guards) = (if (g.slot == slot) && not g.forgotten then 1 else 0) + living_on slot guards

-- whether each guard that is there was forgotten
abbrev pub all_forgotten : List NamedGuard → Bool
all_forgotten guards = list_all (λ g. g.forgotten) guards

abbrev pub has_registration : ℕ → List NamedRegistration → Bool
has_registration slot registrations = list_any (λ r. r.slot == slot) registrations

-- how many guards have this name
abbrev pub guards_named : List ℕ → List NamedGuard → ℕ
guards_named name [] = 0
guards_named name (g ∷ guards) = (if is_same g.name name then 1 else 0) + guards_named name guards

-- how many registrations have this name, and how many this slot
abbrev pub registrations_named : List ℕ → List NamedRegistration → ℕ
registrations_named name [] = 0
registrations_named name (r ∷ registrations) = (if is_same r.name name then 1 else 0) + registrations_named name registrations

abbrev pub registrations_on : ℕ → List NamedRegistration → ℕ
registrations_on slot [] = 0
registrations_on slot (r ∷ registrations) = (if r.slot == slot then 1 else 0) + registrations_on slot registrations

-- guards have names of their own, and registrations names and slots of their own
pub record HaveNames (there : Present) : Type 0 where
  pub guards : (name : List ℕ) → guards_named name there.guards ≤ 1
  pub registrations : (name : List ℕ) → registrations_named name there.registrations ≤ 1
  pub slots : (slot : ℕ) → registrations_on slot there.registrations ≤ 1

-- what changes

abbrev pub registers : List ℕ → ℕ → Present → Present
registers name slot there = record there { registrations = there.registrations ++ record { name = name; slot = slot } ∷ [] }

abbrev pub unregisters : List ℕ → Present → Present
unregisters name there = record there { registrations = filter (λ r. not (is_same r.name name)) there.registrations }

abbrev pub enters_slot : List ℕ → ℕ → Present → Present
enters_slot name slot there = record there { guards = there.guards ++ record { name = name; slot = slot; forgotten = false } ∷ [] }

abbrev pub enters : List ℕ → List ℕ → Present → Present
enters name registration there = enters_slot name (slot_of_registration registration there) there

abbrev pub drops : List ℕ → Present → Present
drops name there = record there { guards = filter (λ g. not (is_same g.name name)) there.guards }

abbrev pub forgotten_as : List ℕ → NamedGuard → NamedGuard
forgotten_as name g = if is_same g.name name then record g { forgotten = true } else g

abbrev pub forgotten_if : List ℕ → List NamedGuard → List NamedGuard
forgotten_if name guards = map (forgotten_as name) guards

abbrev pub forgets : List ℕ → Present → Present
forgets name there = record there { guards = forgotten_if name there.guards }
