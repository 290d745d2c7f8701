-- The words of slots, as one record of words after another.
use Rattle.std.specs.Prelude.{ℕ, ◌+◌, ◌==◌, List, [], ◌++◌, Option, slice_get, slice_index_or, slice_set, if◌then◌else◌, length, replicate}
use Rattle.seize_words.specs.declared.slots.TheConstants.{SLOT_WORDS}
use Rattle.seize_words.specs.OneMemory.Place.{capacity}

-- a word of a slot, if there is one
abbrev pub slot_word : List (List ℕ) → ℕ → ℕ → Option ℕ
slot_word slots slot field = slice_get (slice_index_or slots slot []) field

-- the slots with another word at a field of one
abbrev pub with_slot_word : List (List ℕ) → ℕ → ℕ → ℕ → List (List ℕ)
with_slot_word slots slot field word = slice_set slots slot (slice_set (slice_index_or slots slot []) field word)

-- the slots with those of one more bucket, each word 0, where the bucket is the next one
abbrev pub with_bucket : List (List ℕ) → ℕ → List (List ℕ)
with_bucket slots bucket =
    if length slots + 32 == capacity bucket then slots ++ replicate (capacity bucket) (replicate SLOT_WORDS 0) else slots
