-- How many steps of its own a row takes at most until it has settled, whatever the others do meanwhile.
use Rattle.std.specs.Prelude.{◌≡◌, ◌≢◌, ◌⊎◌, ℕ, zero, suc, List, [], ◌∷◌, Option, Some, None}
use Rattle.seize_words.specs.OneMemory.Mem.{value_at}
use Rattle.seize.specs.declared.rows.settle.Settle.{Settle}
use Rattle.seize.specs.declared.rows.settle.Settling.TheVariants as settling
use Rattle.seize.specs.declared.rows.leave.Leaving.{Leaving}
use Rattle.seize.specs.declared.rows.leave.Leaving.TheVariants as leaving
use Rattle.seize.specs.declared.rows.leave.Leave.{Leave}
use Rattle.seize.specs.Settle.{retiring, flushing, counting_down}
use Rattle.seize.specs.Leave.{standing}
use Rattle.seize.specs.World.{World, Row, Settles, Leaves, Event, Begin, Step, Happens, Runs, Steps', at_start}
use Rattle.seize_acts.specs.Acts.Waits.{SettlesOn}

-- a row that ends a section has counted down what its slot's list named
abbrev pub IsCountedAt : Leaving → Type 0
IsCountedAt leaving.Swaps = ⊥
IsCountedAt (leaving.Settles settle) = settle.stands ≡ settling.Over
IsCountedAt leaving.Frees = Unit {0}
IsCountedAt leaving.Over = Unit {0}

abbrev pub HasCounted : Row → Type 0
HasCounted (Leaves c) = IsCountedAt c.stands
HasCounted _ = ⊥

-- a row that retires a block, or tries its batch, has done so
abbrev pub HasTried : Row → Type 0
HasTried (Settles c) = c.stands ≡ settling.Over
HasTried _ = ⊥

-- it has just begun to
abbrev pub IsToTry : ℕ → Settle → Type 0
IsToTry size c = ((slot : ℕ) × (block : ℕ) × (c ≡ retiring slot size block)) ⊎ ((slot : ℕ) × (c ≡ flushing slot size))

-- an event that is not this caller's, nor begins a row of it
abbrev pub IsOfOthers : {T : Type 0} → ℕ → Event T → Type 0
IsOfOthers j (Begin i request) = i ≢ j
IsOfOthers j (Step i) = i ≢ j
IsOfOthers j _ = Unit {0}

-- nobody else's row settles on the slot that the row of this caller settles on
abbrev pub IsAloneOnSlot : {T : Type 0} → ℕ → World T → Type 0
IsAloneOnSlot j w = (i slot : ℕ) → i ≢ j → SettlesOn slot (w.row j) → SettlesOn slot (w.row i) → ⊥

module _ {T : Type 0} (defers : T → Option ℕ) where
  -- no value keeps a list of further ones
  abbrev pub ArePlain : World T → Type 0
  ArePlain w = (b : ℕ) (value : T) → value_at w.memory b ≡ Some value → defers value ≡ None

  -- the others do this, one after another, and each world is such a one
  abbrev pub Meanwhile : (World T → Type 0) → ℕ → ℕ → List (Event T) → World T → World T → Type 0
  Meanwhile so size j [] w n = n ≡ w
  Meanwhile so size j (e ∷ events) w n =
      (v : World T) × IsOfOthers j e × Happens defers size e w v × so v × Meanwhile so size j events v n

  -- the row of this caller has come so far after so many further steps of its own, at most, as long as the others leave such worlds
  abbrev pub Within : (World T → Type 0) → (Row → Type 0) → ℕ → ℕ → ℕ → World T → Type 0
  Within so done size j zero w = done (w.row j)
  Within so done size j (suc k) w =
      done (w.row j)
      ⊎ ((events : List (Event T)) (v n : World T) → Meanwhile so size j events w v → Steps' defers j (v.row j) v n → Within so done size j k n)

  -- it has counted its list down, as long as no value keeps a list
  abbrev pub CountsWithin : ℕ → ℕ → ℕ → World T → Type 0
  CountsWithin size j k w = Within ArePlain HasCounted size j k w

  -- it has counted its list down, and retired what values kept that were reclaimed, as long as nobody else settles on its slot
  abbrev pub SettlesWithin : ℕ → ℕ → ℕ → World T → Type 0
  SettlesWithin size j k w = Within (IsAloneOnSlot j) HasCounted size j k w

  -- it has retired its block, or tried its batch, and what comes of it, as long as nobody else settles on its slot
  abbrev pub TriesWithin : ℕ → ℕ → ℕ → World T → Type 0
  TriesWithin size j k w = Within (IsAloneOnSlot j) HasTried size j k w

  -- A list that was taken from a slot is counted down within a number of steps, where no value keeps a list.
  abbrev pub ListsAreCounted : Type 0
  ListsAreCounted =
      (size roots : ℕ) (events : List (Event T)) (w : World T) → Runs defers size events (at_start defers roots) w → ArePlain w
      → (j head : ℕ) (c : Leave) → w.row j ≡ Leaves (standing c (leaving.Settles (counting_down c.slot c.batch_size head)))
      → (k : ℕ) × CountsWithin size j k w

  -- And so it is where values keep lists, if nobody else settles on the slot.
  abbrev pub ListsAreSettled : Type 0
  ListsAreSettled =
      (size roots : ℕ) (events : List (Event T)) (w : World T) → Runs defers size events (at_start defers roots) w
      → (j head : ℕ) (c : Leave) → IsAloneOnSlot j w → w.row j ≡ Leaves (standing c (leaving.Settles (counting_down c.slot c.batch_size head)))
      → (k : ℕ) × SettlesWithin size j k w

  -- A block is retired, and a batch tried, within a number of steps, whatever lists values keep.
  abbrev pub BatchesAreTried : Type 0
  BatchesAreTried =
      (size roots : ℕ) (events : List (Event T)) (w : World T) → Runs defers size events (at_start defers roots) w
      → (j : ℕ) (c : Settle) → IsAloneOnSlot j w → IsToTry size c → w.row j ≡ Settles c → (k : ℕ) × TriesWithin size j k w
