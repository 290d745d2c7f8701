-- Places side by side, full or not, and strips that are under no rule.
use Rattle.std.specs.Prelude.{◌≡◌, ℕ, ◌<◌, Bool, true, false, slice_index_or, List, [], ◌∷◌, replicate}
use denote.RattleType.{RattleType}
use denote.RawPtr.{Ptr, InBlock}
use Rattle.seize_seats.specs.Seats.Strips.{Strip}
use Rattle.seize_seats.specs.Seats.Doors.{before}

-- of so many places none is full
abbrev pub AreEmpty : List Bool → ℕ → Type 0
AreEmpty fs n = (k : ℕ) → k < n → slice_index_or fs k false ≡ false

-- of so many places each is full
abbrev pub all_full : ℕ → List Bool
all_full n = replicate n true

-- the first of these strips lies there, and has so many numbers
abbrev pub HasFirst : RattleType → Ptr → ℕ → List Strip → Type 0
HasFirst R p n [] = ⊥
HasFirst R p n (s ∷ ss) = (s.words ≡ p) × InBlock p × (s.values ≡ p) × (s.skip ≡ before R n) × (s.size ≡ n)
