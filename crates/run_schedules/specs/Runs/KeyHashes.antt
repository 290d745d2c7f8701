-- The hashes of keys that are numbers.
use Rattle.std.specs.Prelude.{ℕ, ◌+◌, ◌*◌, ◌%◌, ◌^◌, List, [], ◌∷◌}
use Rattle.run_schedules.specs.declared.key_hash.KeyHash.{KeyHash}
use Rattle.run_schedules.specs.declared.key_hash.KeyHash.TheVariants.{Key, Zero}

-- one byte below the others
abbrev pub word_with : ℕ → ℕ → ℕ
word_with byte word = (word * 256 + byte) % 2 ^ 64

-- the number whose bytes these are, the lowest first
abbrev pub word_of : List ℕ → ℕ
word_of [] = 0
word_of (byte ∷ bytes) = word_with byte (word_of bytes)

-- a key's hash is the key, or 0
abbrev pub hash_by : KeyHash → ℕ → ℕ
hash_by Key word = word
hash_by Zero word = 0
