-- Entries in buckets, each twice as long as the one before it.
use Rattle.std.specs.Prelude.{◌≡◌, ℕ, ◌+◌, ◌<◌, ◌≤◌, List, [], ◌∷◌, ◌++◌, length}
use Rattle.seize_words.specs.OneMemory.Place.{capacity}

module _ {X : Type 0} where
  -- the entries of all buckets, one after another
  abbrev pub all_in : List (List X) → List X
  all_in [] = []
  all_in (bucket ∷ rest) = bucket ++ all_in rest

  -- the buckets from this number on are full
  abbrev pub AreFull : ℕ → List (List X) → Type 0
  AreFull number [] = Unit {0}
  AreFull number (bucket ∷ rest) = (length bucket ≡ capacity number) × AreFull (number + 1) rest

  -- the buckets from this number on are full, but for the last, which may have room left
  abbrev pub AreFilled : ℕ → List (List X) → Type 0
  AreFilled number [] = Unit {0}
  AreFilled number (bucket ∷ rest) =
      (length bucket ≤ capacity number) × ((0 < length rest → length bucket ≡ capacity number) × AreFilled (number + 1) rest)

-- Each bucket of slots is full, and there are no more than 59.
pub record IsBucketed (buckets : List (List (List ℕ))) : Type 0 where
  pub are_full : AreFull 0 buckets
  pub few : length buckets ≤ 59
