-- Texts of numbers with nothing that they can do without.
use Rattle.std.specs.Prelude.{◌≡◌, ◌≢◌, ℕ, ◌<◌, List, length, slice_index, ◌⊎◌}

-- no plus, no zero before another byte, and no zero behind a minus
abbrev pub IsPlain : List ℕ → Type 0
IsPlain text = (slice_index text 0 ≢ 43)
    × (slice_index text 0 ≡ 48 → length text ≡ 1)
    × (slice_index text 0 ≡ 45 → slice_index text 1 ≢ 48)

-- one of these
abbrev pub IsOther : List ℕ → Type 0
IsOther text = (slice_index text 0 ≡ 43)
    ⊎ (((slice_index text 0 ≡ 48) × (1 < length text))
    ⊎ ((slice_index text 0 ≡ 45) × (slice_index text 1 ≡ 48)))
