-- What the word of a place says of a key that is looked for.
use Rattle.std.specs.Prelude.{ℕ, ◌/◌, ◌^◌, ◌==◌, ◌&&◌, Bool, not, if◌then◌else◌}
use Rattle.seize_words.specs.OneMemory.Word.{block_in, byte_in}
use Rattle.map_tables.specs.Chunks.{is_incremental}
use Rattle.map_tables.specs.Marks.{has_mark}
use Rattle.map_tables.specs.declared.marks.TheConstants.{COPYING, COPIED}
use Rattle.map_tables.specs.declared.resize_mode.ResizeMode.{ResizeMode}
use Rattle.map_tables.specs.declared.finding.Aim.{Aim}
use Rattle.map_tables.specs.declared.finding.Aim.TheVariants.{Looks, Changes, Stores}
use Rattle.map_tables.specs.declared.finding.Finding.{Finding}
use Rattle.map_tables.specs.declared.finding.Finding.TheVariants.{Free, Passed, Moved, Copying, There}

-- the word may name a pair of a key with this hash: it names a block, and has the byte of the hash
abbrev pub may_name : ℕ → ℕ → Bool
may_name hash word = not (block_in word == 0) && (byte_in word == hash / 2 ^ 57)

-- an empty place that is shut at once: it stays empty, so the key is not behind it, and nothing can be stored in it
abbrev pub shut : Aim → Finding
shut Looks = Free
shut Changes = Free
shut Stores = Moved

-- a word that names no pair
abbrev pub vacant : Bool → Aim → ℕ → Finding
vacant incremental aim word =
    if word == 0 then Free else (if word == COPYING then (if incremental then Passed else shut aim) else Passed)

-- A pair of the key that is marked for copying. A lookup takes it as it is; the others wait until it is copied, or go on where
-- all pairs are copied at once.
abbrev pub marked : Bool → Aim → Finding
marked incremental Looks = There
marked incremental Changes = if incremental then Copying else Moved
marked incremental Stores = if incremental then Copying else Moved

-- a word that names a pair of the key
abbrev pub named : Bool → Aim → ℕ → Finding
named incremental aim word =
    if incremental && has_mark word COPIED then Moved else (if has_mark word COPYING then marked incremental aim else There)

-- what a word says, in a mode, to a call with an aim, and whether it names a pair of the key
abbrev pub finding : ResizeMode → Aim → ℕ → Bool → Finding
finding mode aim word same =
    if block_in word == 0 then vacant (is_incremental mode) aim word else
    (if same then named (is_incremental mode) aim word else Passed)
