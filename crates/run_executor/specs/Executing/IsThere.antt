-- That an executor is there, where callers, maps and a memory stand so at a moment.
use Rattle.std.specs.Prelude.{◌≡◌, ◌≢◌, ◌<◌, ◌≤◌, ℕ, ◌==◌, ◌/◌, Bool, length, Option, Some, None, option_map, slice_index_or, if◌then◌else◌}
use Rattle.seize.specs.World.{Row, Rests, Use, Vacant, Outside, Inside, Changing}
use Rattle.run_places.specs.Given.ResizeDeclared.new_map.NewMap.{NewMap}
use Rattle.papaya_raw.specs.declared.machines.end_map.EndMap.{EndMap}
use Rattle.papaya_raw.specs.declared.machines.machine.Machine.{Machine}
use Rattle.run_places.specs.Given.FinishesMachines.{machine_of}
use Rattle.run_places.specs.Given.FinishesMakings.{Beginning}
use Rattle.run_places.specs.Given.ScenesHeld.{Held, IsAt}
use Rattle.run_places.specs.Given.ScenesScene.{Scene, row_of, slot_of}
use Rattle.run_places.specs.Given.ScenesDeclared.callers.TheConstants.{SLOTS}
use Rattle.run_places.specs.Given.ScenesDeclared.row.SlotUse.{SlotUse}
use Rattle.run_places.specs.Given.ScenesDeclared.row.SlotUse.TheVariants as slot_use
use Rattle.run_executor.specs.declared.executor.Executor.{Executor}
use Rattle.run_executor.specs.declared.worker.Work.{Work}
use Rattle.run_executor.specs.declared.worker.Work.TheVariants as work
use Rattle.run_executor.specs.declared.worker.Worker.{Worker}

-- The number of a caller tells its place.
abbrev pub place_of : ℕ → ℕ
place_of caller = caller / SLOTS

-- A slot is used so, however many rows work on it.
abbrev pub IsUsedAs : SlotUse → Use → Type 0
IsUsedAs slot_use.Vacant v = v ≡ Vacant
IsUsedAs slot_use.Outside v = (n : ℕ) × (v ≡ Outside n)
IsUsedAs slot_use.Inside v = (n : ℕ) × (v ≡ Inside n)
IsUsedAs slot_use.Changing v = v ≡ Changing

module _ {K V : Type 0} where
  -- whoever is at a place, if it stands in this slot
  abbrev pub in_slot : ℕ → Option (Worker K V) → Option (Work K V)
  in_slot slot None = None
  in_slot slot (Some worker) = if worker.slot == slot then Some worker.work else None

  -- what is under way, if it is a call of this map, or the making or the end of one
  abbrev pub call_in : Option (Work K V) → ℕ → Option (Machine K V K)
  call_in (Some (work.Call map machine)) m = if map == m then Some machine else None
  call_in _ m = None

  abbrev pub making_in : Option (Work K V) → Option (ℕ × NewMap)
  making_in (Some (work.Making map opening)) = Some (map, opening)
  making_in _ = None

  abbrev pub ending_in : Option (Work K V) → Option EndMap
  ending_in (Some (work.Ending ending)) = Some ending
  ending_in _ = None

  -- The row that a caller has under way, which has this under way: within a call it is the map's to say, and without a row between calls there is none.
  abbrev pub HasRow : Option (Work K V) → Row → Type 0
  HasRow (Some (work.Call map machine)) row = Unit {0}
  HasRow (Some (work.OnSlot it)) row = row ≡ row_of it
  HasRow _ row = row ≡ Rests

  -- who is at the place of a caller that has this under way, or nothing any more
  abbrev pub worker_of : ℕ → Option (Work K V) → Option (Worker K V)
  worker_of slot None = None
  worker_of slot (Some it) = Some record { slot = slot; work = it }

  -- who is at that of a call on a map that goes on as this machine, or of one that has ended
  abbrev pub worker_with : ℕ → ℕ → Option (Machine K V K) → Option (Worker K V)
  worker_with slot m machine = worker_of slot (option_map (λ machine. work.Call m machine) machine)

module _ {K V S : Type 0} where
  -- what it holds
  abbrev pub held_by : Executor K V S → Held K V
  held_by e = record { memory = e.memory.memory; changed = e.memory.changed; batch_size = e.batch_size; roots = e.roots }

  -- who is at a place
  abbrev pub worker_at : Executor K V S → ℕ → Option (Worker K V)
  worker_at e p = slice_index_or e.workers.items p None

  -- what a caller has under way
  abbrev pub work_of : Executor K V S → ℕ → Option (Work K V)
  work_of e i = in_slot (slot_of i) (worker_at e (place_of i))

  -- how a slot is used
  abbrev pub use_at : Executor K V S → ℕ → SlotUse
  use_at e t = slice_index_or e.slots.items t slot_use.Vacant

  -- the executor is another one at one place, and in its memory, alone
  pub record ChangesAt (place : ℕ) (next : Option (Worker K V)) (old new : Executor K V S) : Type 0 where
    pub here : worker_at new place ≡ next
    pub elsewhere : (p : ℕ) → p ≢ place → worker_at new p ≡ worker_at old p
    pub there : place < length new.workers.items
    pub grows : length old.workers.items ≤ length new.workers.items
    pub hasher : new.hasher ≡ old.hasher
    pub batch_size : new.batch_size ≡ old.batch_size
    pub roots : new.roots ≡ old.roots
    pub maps : new.maps.items ≡ old.maps.items
    pub slots : new.slots.items ≡ old.slots.items

  -- what an executor was given stays: the hasher, the size of batches, the number of roots
  abbrev pub StaysGiven : Executor K V S → Executor K V S → Type 0
  StaysGiven old new = (new.hasher ≡ old.hasher) × (new.batch_size ≡ old.batch_size) × (new.roots ≡ old.roots)

  -- and so does, but where maps are to be made, how many of them have a number
  abbrev pub PreservesSettings : Executor K V S → Executor K V S → Type 0
  PreservesSettings old new = (new.hasher ≡ old.hasher) × (new.batch_size ≡ old.batch_size) × (new.roots ≡ old.roots) × (length new.maps.items ≡ length old.maps.items)

module _ {K V S : Type 0} (same : K → K → Bool) (hash : K → ℕ) where
  -- The executor is there: the scene is that of what it holds, where all keys have one hash; and it has the settings of the maps that stand, of each caller what it
  -- has under way, and of each slot how it is used. A row is under way where a caller has one.
  pub record IsThere (e : Executor K V S) (s : Scene K V) : Type 0 where
    pub held : IsAt same (λ m. hash) (held_by e) s
    pub maps : (m : ℕ) → option_map (λ standing. standing.setting) (s.maps m) ≡ slice_index_or e.maps.items m None
    pub calls : (m i : ℕ) → option_map machine_of (s.calls m i) ≡ call_in (work_of e i) m
    pub makers : (i : ℕ) → option_map (λ b. (b.map, b.machine)) (s.makers i) ≡ making_in (work_of e i)
    pub enders : (i : ℕ) → option_map (λ f. f.machine) (s.enders i) ≡ ending_in (work_of e i)
    pub numbers : (i : ℕ) (b : Beginning K) → s.makers i ≡ Some b → b.map < length e.maps.items
    pub rows : (i : ℕ) → HasRow (work_of e i) (s.world.row i)
    pub slots : length e.slots.items ≡ SLOTS
    pub uses : (t : ℕ) → IsUsedAs (use_at e t) (s.world.uses t)
