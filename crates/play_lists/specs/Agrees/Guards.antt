-- The guards of a history are the slots within sections: each by its slot's name.
use Rattle.std.specs.Prelude.{◌≡◌, ◌⊎◌, ℕ, false, List, Option, Some, None}
use Rattle.std.specs.List.{AllByRecursion}
use Rattle.seize.specs.World.{IsInside, Use}
use Rattle.seize.specs.declared.rows.leave.Leave.{Leave}
use Rattle.seize.specs.declared.rows.leave.Leaving.TheVariants as leaves
use Rattle.many_acts.specs.Given.ScenesScene.{slot_of}
use Rattle.many_acts.specs.Given.ScenesDeclared.row.SlotRow.{SlotRow}
use Rattle.many_acts.specs.Given.ScenesDeclared.row.SlotRow.TheVariants as rows
use Rattle.run_schedules.specs.Runs.Present.{guard_of}
use Rattle.run_schedules.specs.declared.holders.NamedGuard.{NamedGuard}
use Rattle.run_schedules.specs.Schedules.Moment.{Moment, UnderWay}
use Rattle.run_schedules.specs.Deeds.Deeds.{moment, named}
use Rattle.play_lists.specs.Played.Play.{State}

-- the guard of a slot
abbrev pub guard_on : ℕ → NamedGuard
guard_on s = record { name = named s; slot = s; forgotten = false }

-- Callers have these rows between calls, and slots are used so.
module _ (rows_are : ℕ → Option SlotRow) (uses : ℕ → Use) where
  -- a row stands before the swap by which the section of this slot ends
  abbrev pub IsLeaving : ℕ → Type 0
  IsLeaving s = (i : ℕ) × (c : Leave) × (rows_are i ≡ Some (rows.Leaves c)) × (c.stands ≡ leaves.Swaps) × (c.slot ≡ s)

  -- so long a section is open
  abbrev pub IsOpen : ℕ → Type 0
  IsOpen s = IsInside (uses s) ⊎ IsLeaving s

  -- each guard is that of a slot whose section is open, and each slot within a section has its guard
  pub record GuardsAre (guards : List NamedGuard) : Type 0 where
    pub each : AllByRecursion (λ g. (g ≡ guard_on g.slot) × IsOpen g.slot) guards
    pub inside : (s : ℕ) → IsInside (uses s) → guard_of (named s) guards ≡ Some (guard_on s)

module _ {K V S : Type 0} where
  -- so it is of what is played
  abbrev pub GuardsAgree : State K V S → (ℕ → Use) → Type 0
  GuardsAgree x uses = GuardsAre x.now.rows uses (moment x.history).there.guards

-- unless somebody reclaims all
abbrev pub UnlessReclaimed : {X : Type 0} → Option X → Type 0 → Type 0
UnlessReclaimed None P = P
UnlessReclaimed (Some x) P = Unit {0}

-- a call under way has the guard of its caller's slot
abbrev pub HasItsGuard : {K V : Type 0} → UnderWay K V → Type 0
HasItsGuard c = (i : ℕ) × (c.caller ≡ named i) × (c.guard ≡ named (slot_of i))

abbrev pub CallsHaveGuards : {K V : Type 0} → Moment K V → Type 0
CallsHaveGuards m = AllByRecursion HasItsGuard m.calls
