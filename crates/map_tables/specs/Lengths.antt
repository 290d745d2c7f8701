-- How long the tables of a map are, and where they are too long.
use Rattle.std.specs.Prelude.{◌≡◌, ℕ, ◌+◌, ◌-◌, ◌*◌, ◌/◌, ◌^◌, ◌<◌, ◌≤◌, ◌⊎◌, ◌==◌, ◌&&◌, Bool, nat_le, nat_lt, if◌then◌else◌, max, Result, Ok, Err, IfOk}
use Rattle.std.specs.Int.{IsPowerOfTwo}
use Rattle.seize_words.specs.declared.fault.Fault.{Fault}
use Rattle.seize_words.specs.declared.fault.Fault.TheVariants.{Capacity}
use Rattle.map_tables.specs.declared.lengths.Reason.{Reason}
use Rattle.map_tables.specs.declared.lengths.Reason.TheVariants.{Full, Reserved, NoPlace}
use Rattle.map_tables.specs.Powers.{next_power}
use Rattle.map_tables.specs.Probes.{limit_of}

-- a number, where so many places are not too many for a table
abbrev pub if_few : ℕ → ℕ → Result ℕ Fault
if_few places number = if nat_le places (2 ^ 48) then Ok number else Err Capacity

-- a third more places than pairs
abbrev pub places_for : ℕ → ℕ
places_for pairs = pairs * 8 / 6

-- that, as a power of two
abbrev pub entries_of : ℕ → Result ℕ Fault
entries_of pairs = if_few (places_for pairs) (next_power (places_for pairs))

-- the length of a table for so many pairs
abbrev pub len_of : ℕ → Result ℕ Fault
len_of pairs = if_few (places_for pairs) (max (next_power (places_for pairs)) 8)

-- Half full and more: twice the length. An eighth full and less: half of it, yet no less than the map was made with. Else the same.
abbrev pub by_count : ℕ → ℕ → ℕ → ℕ
by_count len count initial =
    if nat_le (len / 2) count then len * 2 else (if nat_le count (len / 8) then max initial (len / 2) else len)

-- The length of the table after one of this length. Where a probe found no place, the count of the pairs is that of the counter, or the most that its
-- call met at a table which it found full, whichever is greater: others may have stored pairs that they have not counted yet.
abbrev pub next_len : Reason → ℕ → ℕ → ℕ → Result ℕ Fault
next_len (Full met most) len count initial =
    if_few (max (by_count len (max count most) initial) 8) (max (by_count len (max count most) initial) 8)
next_len (Reserved additional) len count initial = len_of (count + additional)
next_len NoPlace len count initial = if_few (max (len * 2) 8) (max (len * 2) 8)

-- of the tries at a table with this limit so many met pairs: seven eighths at least
abbrev pub is_crowded : ℕ → ℕ → Bool
is_crowded met limit = nat_le ((limit + 1) * 7) (met * 8)

-- The last try at the table after one of this length, with this last try. All places are tried where the table is as long as the one before and the tries
-- there met pairs, as those with one hash do, not what others left behind that were removed; and where it is there since a copied pair found no place.
abbrev pub next_limit : Reason → ℕ → ℕ → ℕ → ℕ
next_limit (Full met most) before tried len = if (len == before) && is_crowded met tried then len - 1 else limit_of len
next_limit (Reserved additional) before tried len = limit_of len
next_limit NoPlace before tried len = len - 1

-- the turn of the table after one with this turn
abbrev pub next_turn : ℕ → Result ℕ Fault
next_turn turn = if nat_lt turn (2 ^ 63) then Ok (turn + 1) else Err Capacity

-- A table that none can follow: twice as many places as it has are too many, or it has the last turn.
abbrev pub CannotBeFollowed : ℕ → ℕ → Type 0
CannotBeFollowed len turn = (2 ^ 48 < len * 2) ⊎ (2 ^ 63 ≤ turn)

-- no table can be made for this reason after one of this length and turn
abbrev pub NoneFollows : Reason → ℕ → ℕ → ℕ → ℕ → Type 0
NoneFollows reason len turn count initial = (next_len reason len count initial ≡ Err Capacity) ⊎ (2 ^ 63 ≤ turn)

-- it is made as the one before is full, or as a copied pair finds no place in that
abbrev pub GoesByTable : Reason → Type 0
GoesByTable (Reserved additional) = ⊥
GoesByTable _ = Unit {0}

-- what each table's length is
pub record IsTableLen (len : ℕ) : Type 0 where
  pub power : IsPowerOfTwo len
  pub least : 8 ≤ len
  pub most : len ≤ 2 ^ 48

-- so the masks of tables are their lengths less one, and all lengths fit a link's words
pub record HaveTableLens : Type 0 where
  pub made_for : (pairs : ℕ) → IfOk (len_of pairs) IsTableLen
  pub made_after : (reason : Reason) (len count initial : ℕ) → IsTableLen len → IsPowerOfTwo initial → IfOk (next_len reason len count initial) IsTableLen

-- where a call met no more pairs than the counter says, the length is that by the counter alone
abbrev pub GoByTheCounter : Type 0
GoByTheCounter = (met most len count initial : ℕ) → most ≤ count → next_len (Full met most) len count initial ≡ next_len (Full 0 0) len count initial

-- Where none can be made for such a reason, whatever the count, the one before cannot be followed.
abbrev pub OnlyTheLastEnds : Type 0
OnlyTheLastEnds =
    (reason : Reason) (len turn count initial : ℕ) → GoesByTable reason → initial ≤ 2 ^ 48 → NoneFollows reason len turn count initial → CannotBeFollowed len turn
