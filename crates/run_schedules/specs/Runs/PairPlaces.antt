-- A list of pairs with the place of each number's first pair.
use Rattle.std.specs.Prelude.{◌≡◌, ℕ, ◌==◌, List, Option, Some, None, find, slice_get, slice_index_or}
use Rattle.run_schedules.specs.declared.ended.Pair.{Pair}

-- Where a number has a place, the pair there is the first one of that number. Where it has none, no pair has the number.
pub record ArePlaces {K V : Type 0} (pairs : List (Pair K V)) (places : List (Option ℕ)) : Type 0 where
  pub found : (n place : ℕ) → slice_index_or places n None ≡ Some place
      → (pair : Pair K V) × (slice_get pairs place ≡ Some pair) × (find (λ p. p.number == n) pairs ≡ Some pair)
  pub missed : (n : ℕ) → slice_index_or places n None ≡ None → find (λ p. p.number == n) pairs ≡ None
