-- What is said of a memory with buckets of slots: each slot has two words, and there are as many as each seat knows of.
use Rattle.std.specs.Prelude.{◌≡◌, ◌≤◌, ◌<◌, ◌+◌, ◌-◌, ℕ, [], Some, Ok, length, slice_index_or}
use Rattle.seize_words.specs.OneMemory.Mem.{Mem}
use Rattle.seize_words.specs.OneMemory.Op.{Op, Out, Room, Roomed}
use Rattle.seize_words.specs.OneMemory.Place.{capacity}
use Rattle.seize_seats.specs.Seats.State.{State, view_of}

-- the buckets before this one are there
abbrev pub HasBuckets : Mem ℕ → ℕ → Type 0
HasBuckets m n = (length m.slots + 32 ≡ capacity n) × ((s : ℕ) → s < length m.slots → length (slice_index_or m.slots s []) ≡ 2)

abbrev pub AreRoomy : State ℕ ℕ (Unit {0}) → Type 0
AreRoomy s = ((n : ℕ) × HasBuckets s.memory n) × ((j v : ℕ) → view_of s j ≡ Some v → v ≤ length s.memory.slots)

-- who has made room for a bucket knows of its slots
abbrev pub finds_room : ℕ → Op ℕ → Out ℕ → ℕ → Type 0
finds_room v (Room b) (Roomed (Ok made)) w = w ≡ capacity (b + 1) - 32
finds_room v op out w = w ≡ v
