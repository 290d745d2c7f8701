-- What the answers of calls on one key say: which pairs they name, and what has come back.
use Rattle.std.specs.Prelude.{◌≡◌, ℕ, Bool, true, false, Option, Some, None}
use Rattle.map_tables.specs.declared.node.Node.{Node}
use Rattle.map_tables.specs.declared.node.Node.TheVariants.{Pair}
use Rattle.papaya_raw.specs.declared.machines.answer.KeyAnswer.TheVariants as answers
use Rattle.papaya_raw.specs.declared.machines.progress.Answer.{Answer}
use Rattle.papaya_raw.specs.declared.machines.progress.Answer.TheVariants.{Key as OfKey}
use Rattle.threads_callers.specs.declared.answers.Attempt.{Attempt}
use Rattle.threads_callers.specs.declared.answers.Attempt.TheVariants.{Stored, Present}

-- a pair was replaced by another one
abbrev pub is_replaced : Answer → Bool
is_replaced (OfKey (answers.Replaced old new)) = true
is_replaced _ = false

-- a pair was removed
abbrev pub is_removed : Answer → Bool
is_removed (OfKey (answers.Removed word)) = true
is_removed _ = false

-- the pair that was replaced, if one was,
abbrev pub replaced_by : Answer → Option ℕ
replaced_by (OfKey (answers.Replaced old new)) = Some old
replaced_by _ = None

-- or removed
abbrev pub removed_by : Answer → Option ℕ
removed_by (OfKey (answers.Removed word)) = Some word
removed_by _ = None

-- the pair was stored
abbrev pub has_stored : {K V : Type 0} → Attempt K V → Bool
has_stored Stored = true
has_stored (Present key value) = false

-- or it has come back
abbrev pub CameBack : {K V : Type 0} → K → V → Attempt K V → Type 0
CameBack key value Stored = Unit {0}
CameBack key value (Present k v) = (k ≡ key) × (v ≡ value)

abbrev pub IsOutOf : {K V : Type 0} → Option (Node K V) → Attempt K V → Type 0
IsOutOf unstored Stored = Unit {0}
IsOutOf unstored (Present key value) = unstored ≡ Some (Pair key value)
