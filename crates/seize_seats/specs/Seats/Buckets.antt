-- Buckets of slots behind the first one: the words of each lie in a piece of memory of their own, a line for each slot, behind a door of its own.
use Rattle.std.specs.Prelude.{◌≡◌, ℕ, suc, ◌+◌, ◌-◌, ◌*◌, ◌≤◌, List, length}
use denote.RawPtr.{Ptr, null_ptr, InBlock, Testable}
use Rattle.seize_words.specs.OneMemory.Place.{capacity}
use Rattle.seize_seats.specs.Seats.Strips.{Strip}

-- A bucket is noted as strips are: where its words lie, its first slot, and how many it has.
abbrev pub bucket_at : ℕ → Ptr → Strip
bucket_at bucket p = record { words = p; skip = 0; values = null_ptr; first = capacity bucket - 32; size = capacity bucket }

-- The one behind the k-th door is the bucket that follows the k-th: its words lie in a block, whose address can be compared with null.
abbrev pub IsBucket : ℕ → Strip → Type 0
IsBucket k s = InBlock s.words × Testable s.words × (s ≡ bucket_at (suc k) s.words)

-- these are the words of so many roots, of the slots of the first bucket, and of those of all of these
abbrev pub AreBuckets : ℕ → List ℕ → List Strip → Type 0
AreBuckets roots ws ss = (length ss ≤ 32) × (length ws + 512 ≡ (roots + roots + capacity (suc (length ss))) * 16)
