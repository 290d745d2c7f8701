-- Where the words of a slot lie: in buckets, each twice as long as the one before it.
use Rattle.std.specs.Prelude.{◌≡◌, ℕ, ◌+◌, ◌*◌, ◌^◌, ◌<◌}

-- how many slots lie in a bucket
abbrev pub capacity : ℕ → ℕ
capacity bucket = 32 * 2 ^ bucket

-- The slot lies at this index of this bucket. The earlier buckets hold `capacity bucket - 32` slots together.
pub record IsPlace (slot bucket index : ℕ) : Type 0 where
  pub within : index < capacity bucket
  pub position : slot + 32 ≡ capacity bucket + index

-- no slot has two places
abbrev pub HasOnePlace : Type 0
HasOnePlace =
    (slot bucket index bucket' index' : ℕ) → IsPlace slot bucket index → IsPlace slot bucket' index' → (bucket ≡ bucket') × (index ≡ index')
