-- Free numbers: the list that they are, and the words that keep it.
use Rattle.std.specs.Prelude.{◌≡◌, ◌≢◌, ℕ, zero, suc, ◌+◌, ◌-◌, ◌*◌, ◌/◌, ◌%◌, ◌<◌, ◌≤◌, ◌==◌, List, [], ◌∷◌, length, slice_index, if◌then◌else◌, nat_lt}
use Rattle.std.specs.Int.{bit_at}

-- The free numbers in ascending order, and the last number that there is room for.
pub record FreeNumbers : Type 0 where
  pub numbers : List ℕ
  pub room : ℕ

-- the ascending numbers with this one among them
abbrev pub with_number : ℕ → List ℕ → List ℕ
with_number number [] = number ∷ []
with_number number (n ∷ numbers) =
    if nat_lt n number then n ∷ with_number number numbers else if n == number then n ∷ numbers else number ∷ n ∷ numbers

-- the numbers from `n` on whose flag is not 0
abbrev pub flagged_from : ℕ → List ℕ → List ℕ
flagged_from n [] = []
flagged_from n (zero ∷ flags) = flagged_from (n + 1) flags
flagged_from n (suc flag ∷ flags) = n ∷ flagged_from (n + 1) flags

-- a flag of words with 64 each
abbrev pub flag_at : List ℕ → ℕ → ℕ
flag_at words k = bit_at (slice_index words (k / 64)) (k % 64)

-- so many of the flags from a place on
abbrev pub flags_from : List ℕ → ℕ → ℕ → List ℕ
flags_from words k zero = []
flags_from words k (suc n) = flag_at words k ∷ flags_from words (k + 1) n

-- how many of them are set
abbrev pub set_among : List ℕ → ℕ → ℕ → ℕ
set_among words k zero = 0
set_among words k (suc n) = set_among words k n + flag_at words (k + n)

-- the flag that says of a word whether any of its own flags is set
abbrev pub flag_of : ℕ → ℕ
flag_of zero = 0
flag_of (suc word) = 1

-- where the row begins that lies so many rows below the row from this node on
abbrev pub row_below : ℕ → ℕ → ℕ
row_below zero node = node
row_below (suc rows) node = row_below rows (64 * node + 1)

-- each flag above the lowest row says of its node whether the word there has a flag set
abbrev pub AreFlags : ℕ → List ℕ → List ℕ → Type 0
AreFlags first nodes words = (k : ℕ) → k < 64 * first → flag_at nodes k ≡ flag_of (slice_index words (k + 1))

-- Words in a tree, one row after another. The root is node 0, and flag `k` of all is that of node `k + 1`. The lowest row begins at
-- `first`; its flags are those of numbers.
pub record IsTree (first : ℕ) (nodes : List ℕ) : Type 0 where
  pub whole : (rows : ℕ) × (first ≡ row_below rows 0)
  pub some : first ≤ length nodes
  pub within : length nodes ≤ 64 * first + 1
  pub flags : AreFlags first nodes nodes

-- how many flags the lowest row has
abbrev pub places : ℕ → List ℕ → ℕ
places first nodes = 64 * (length nodes - first)

-- the numbers whose flags are set
abbrev pub numbers_in : ℕ → List ℕ → List ℕ
numbers_in first nodes = flagged_from 1 (flags_from nodes (64 * first) (places first nodes))

-- This flag of the lowest row is set, behind so many others.
pub record IsBehind (first : ℕ) (nodes : List ℕ) (before node bit : ℕ) : Type 0 where
  pub low : first ≤ node
  pub within : node < length nodes
  pub small : bit < 64
  pub set : bit_at (slice_index nodes node) bit ≡ 1
  pub rank : set_among nodes (64 * first) (64 * (node - first) + bit) ≡ before

-- This flag of the lowest row is turned over, and the others there stay.
pub record IsTurned (first flag : ℕ) (old new : List ℕ) : Type 0 where
  pub there : flag_at new flag ≡ 1 - flag_at old flag
  pub others : (k : ℕ) → 64 * first ≤ k → k ≢ flag → flag_at new k ≡ flag_at old k
