-- Which row an event of guards and registrations is to the waiting sets: the first guard on a slot enters it, and the only one refreshes and leaves it.
use Rattle.std.specs.Prelude.{◌≡◌, ◌≢◌, ℕ, Bool, List, [], Some}
use Rattle.run_schedules.specs.Given.SeizeWordsDeclared.fault.Fault.{Fault}
use Rattle.seize.specs.Sequence.{new_slot}
use Rattle.seize.specs.World.{Use, IsInside, Register', Enter', Leave', LeaveOwned, Refresh, Unregister', Flush}
use Rattle.run_schedules.specs.Runs.Present.{slot_of_registration, slot_of_guard, guards_on}
use Rattle.run_schedules.specs.Schedules.Model.{changes_by}
use Rattle.run_schedules.specs.Schedules.Moment.{Moment}
use Rattle.run_schedules.specs.declared.event.Event.{Event}
use Rattle.run_schedules.specs.declared.event.Event.TheVariants as event
use Rattle.run_schedules.specs.declared.outcome.Outcome.{Outcome}
use Rattle.run_schedules.specs.declared.outcome.Outcome.TheVariants.{Done, Slot, Refused}
use Rattle.run_kept.specs.Models.OnSlots.{IsRowFor}

module _ {K V : Type 0} (m : Moment K V) where
  -- how many guards are on a slot
  abbrev pub guards_at : ℕ → ℕ
  guards_at slot = guards_on slot m.there.guards

  -- an event that changes no sets
  abbrev pub ChangesNone : Event K V → Outcome V → Type 0
  ChangesNone e o = changes_by [] e o [] m ≡ []

  -- by how slots are used before a row and after it
  pub record RowsAre (before after : ℕ → Use) : Type 0 where
    pub registers : (enters : Bool) (registration : List ℕ) (s : ℕ) → new_slot before ≡ Some s → (IsInside (after s) → ⊥) → IsRowFor (Register' enters) before after (event.Register registration) (Slot s) m
    pub owns : (enters : Bool) (guard : List ℕ) (s : ℕ) → new_slot before ≡ Some s → IsInside (after s) → IsRowFor (Register' enters) before after (event.Own guard) (Slot s) m
    pub not_registered : (enters : Bool) (registration : List ℕ) (fault : Fault) → after ≡ before → IsRowFor (Register' enters) before after (event.Register registration) (Refused fault) m
    pub not_owned : (enters : Bool) (guard : List ℕ) (fault : Fault) → after ≡ before → IsRowFor (Register' enters) before after (event.Own guard) (Refused fault) m
    pub unregisters : (registration : List ℕ) (s : ℕ) → IsRowFor (Unregister' s) before after (event.Unregister registration) Done m
    pub enters : (guard registration : List ℕ) → guards_at (slot_of_registration registration m.there) ≡ 0
        → IsRowFor (Enter' (slot_of_registration registration m.there)) before after (event.Enter guard registration) Done m
    pub leaves : (guard : List ℕ) → guards_at (slot_of_guard guard m.there) ≡ 1 → IsRowFor (Leave' (slot_of_guard guard m.there)) before after (event.DropGuard guard) Done m
    pub leaves_owned : (guard : List ℕ) → guards_at (slot_of_guard guard m.there) ≡ 1 → IsRowFor (LeaveOwned (slot_of_guard guard m.there)) before after (event.DropGuard guard) Done m
    pub refreshes : (guard : List ℕ) → guards_at (slot_of_guard guard m.there) ≡ 1 → IsRowFor (Refresh (slot_of_guard guard m.there)) before after (event.Refresh guard) Done m
    pub flushes : (guard : List ℕ) → IsRowFor (Flush (slot_of_guard guard m.there)) before after (event.Flush guard) Done m

  -- and where others are on the slot, or are left there, nothing changes
  pub record NoRowsAre : Type 0 where
    pub enters : (guard registration : List ℕ) → guards_at (slot_of_registration registration m.there) ≢ 0 → ChangesNone (event.Enter guard registration) Done
    pub leaves : (guard : List ℕ) → guards_at (slot_of_guard guard m.there) ≢ 1 → ChangesNone (event.DropGuard guard) Done
    pub refreshes : (guard : List ℕ) → guards_at (slot_of_guard guard m.there) ≢ 1 → ChangesNone (event.Refresh guard) Done
    pub forgets : (guard : List ℕ) → ChangesNone (event.Forget guard) Done

-- The promise: so it is.
abbrev pub EventsAreRows : Type 0 → Type 0 → Type 0
EventsAreRows K V = (m : Moment K V) → ((before after : ℕ → Use) → RowsAre m before after) × NoRowsAre m
