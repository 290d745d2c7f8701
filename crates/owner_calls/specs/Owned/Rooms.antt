-- Room for pairs in the map of one owner.
use Rattle.std.specs.Prelude.{◌≡◌, ◌≢◌, ℕ, ◌<◌, ◌≤◌, ◌^◌, ◌⊎◌, ◌==◌, Bool, List, [], ◌∷◌, if◌then◌else◌, length, max, Result, Ok, Err, Some}
use Rattle.seize_words.specs.OneMemory.Mem.{Mem, value_at, word_at}
use Rattle.seize_words.specs.OneMemory.Word.{block_in}
use Rattle.seize_words.specs.declared.at.At.TheVariants.{Root}
use Rattle.seize_words.specs.declared.fault.Fault.{Fault}
use Rattle.seize_words.specs.declared.fault.Fault.TheVariants.{Capacity, Memory}
use Rattle.map_tables.specs.Lengths.{places_for}
use Rattle.map_tables.specs.declared.node.Node.{Node}
use Rattle.map_tables.specs.declared.node.Node.TheVariants as node
use Rattle.map_tables.specs.declared.setting.Setting.{Setting}
use Rattle.map_straight.specs.Shown.Chain.{CannotGrowIn, CountsTables, root_link, shapes_on}
use Rattle.papaya_raw.specs.Given.ReservesReserve.{needed}
use Rattle.owner_whole.specs.Given.LateFaults.{IsRoom}
use Rattle.owner_calls.specs.Owned.Owned.{Holds}

-- for so many pairs no table is long enough
abbrev pub AreTooMany : ℕ → Type 0
AreTooMany pairs = 2 ^ 48 < places_for pairs

-- so many further pairs need more places than a table can have, by themselves, or beside so many
abbrev pub NeedTooMany : ℕ → ℕ → Type 0
NeedTooMany additional count = (2 ^ 48 < needed additional 0) ⊎ (2 ^ 48 < needed additional count)

-- why no table can be made for them: none can follow the last one of the map, or they need too many places
abbrev pub CannotMakeRoom : {K V : Type 0} → Setting → Mem (Node K V) → ℕ → ℕ → Type 0
CannotMakeRoom setting m additional count = CannotGrowIn m setting ⊎ NeedTooMany additional count

-- Why there is no map with room for so many pairs: they are too many; or they are not, and memory was refused.
abbrev pub IsUnmade : ℕ → Fault → Type 0
IsUnmade pairs fault = ((fault ≡ Capacity) × AreTooMany pairs) ⊎ ((fault ≡ Memory) × (AreTooMany pairs → ⊥))

-- the tables of a map that was just made with so many places, each by its places and its turn: none, or a first one
abbrev pub tables_with : ℕ → List (ℕ × ℕ)
tables_with places = if places == 0 then [] else (max places 8, 0) ∷ []

-- of one that was just made for so many pairs: none for no pairs, or a first one with as many places as these need
abbrev pub tables_for : ℕ → List (ℕ × ℕ)
tables_for pairs = if pairs == 0 then [] else (needed pairs 0, 0) ∷ []

-- the words of a map show these tables, from the first one on
abbrev pub RepresentTables : {K V : Type 0} → Setting → Mem (Node K V) → List (ℕ × ℕ) → Type 0
RepresentTables setting m shapes = (tables : CountsTables m (root_link m setting)) × (shapes_on m tables.0 (root_link m setting) ≡ shapes)

-- The table of the root has as many places as so many further pairs need, beside so many that are there.
pub record HasRoomFor {K V : Type 0} (setting : Setting) (m : Mem (Node K V)) (additional count : ℕ) : Type 0 where
  pub root : ℕ
  pub root_is : word_at m (Root setting.root) ≡ Some root
  pub there : root ≢ 0
  pub len : ℕ
  pub limit : ℕ
  pub turn : ℕ
  pub table : value_at m (block_in root) ≡ Some (node.Table len limit turn)
  pub places : needed additional count ≤ len

-- What a reservation has come to: no pair has changed, and there is room; or it was refused for want of it.
abbrev pub RoomBy : {K V : Type 0} → (K → K → Bool) → (K → ℕ) → Setting → ℕ → Mem (Node K V) → List (K × V) → Result Unit Fault → Type 0
RoomBy same hash setting additional m xs (Ok done) = Holds same hash setting m xs × HasRoomFor setting m additional (length xs)
RoomBy same hash setting additional m xs (Err fault) = Holds same hash setting m xs × IsRoom fault × (fault ≡ Capacity → CannotMakeRoom setting m additional (length xs))
