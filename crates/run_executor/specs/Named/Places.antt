-- With how many places a map begins.
use Rattle.std.specs.Prelude.{ℕ, ◌==◌, max, if◌then◌else◌}
use Rattle.std.specs.Int.{IsPowerOfTwo}
use Rattle.papaya_raw.specs.Given.TablesLengths.{IsTableLen, places_for}
use Rattle.papaya_raw.specs.Given.TablesPowers.{next_power}

-- a map can be made with so many places: 1 for none, and its first table has 8 at least
abbrev pub IsFirstLen : ℕ → Type 0
IsFirstLen places = IsPowerOfTwo (max places 1) × IsTableLen (max places 8)

-- the places that a map is made with, for so many pairs at least: none for none
abbrev pub first_places : ℕ → ℕ
first_places capacity = if capacity == 0 then 0 else next_power (places_for capacity)
