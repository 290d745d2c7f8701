-- The directory of blocks: where the entry of each number lies, and the free numbers.
use Rattle.std.specs.Prelude.{◌≡◌, ◌==◌, ℕ, List, [], ◌∷◌, ◌++◌, length, Option, if◌then◌else◌}
use Rattle.seize_words.specs.declared.block.Block.{Block}
use Rattle.seize_words.specs.OneMemory.Buckets.{all_in, AreFilled}
use Rattle.seize_words.specs.OneMemory.Free.{IsKept}
use Rattle.seize_words.specs.OneMemory.FreeNumbers.{FreeNumbers}

-- the buckets with an empty one behind them, where this is the number of the next
abbrev pub with_next : {X : Type 0} → List (List X) → ℕ → List (List X)
with_next buckets bucket = if bucket == length buckets then buckets ++ [] ∷ [] else buckets

-- The entries fill one bucket after another, in the order of their numbers, and the free numbers are theirs.
pub record IsDirectory {T : Type 0} (count : ℕ) (buckets : List (List (Option (Block T)))) (free : FreeNumbers) : Type 0 where
  pub are_filled : AreFilled 0 buckets
  pub counted : count ≡ length (all_in buckets)
  pub kept : IsKept (all_in buckets) free
