-- Which collector something is of.
use Rattle.std.specs.Prelude.{◌≡◌, ℕ}

-- The number of a collector, 0 where there is none; which memory is its own; and how many roots that has.
pub record Home : Type 0 where
  pub number : ℕ
  pub memory : ℕ
  pub roots : ℕ

-- Where the numbers agree the memory is one, as it is where one source has given them: of what has this number, and is of this memory.
abbrev pub OneSource : ℕ → ℕ → Home → Type 0
OneSource number memory home = number ≡ home.number → memory ≡ home.memory
