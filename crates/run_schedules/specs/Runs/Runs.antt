-- Why a map is refused, how many guards a registration may have, and which pair is the stored one of its number.
use Rattle.std.specs.Prelude.{◌≡◌, ℕ, zero, ◌*◌, ◌/◌, ◌^◌, nat_lt, List, Option, Some, None, if◌then◌else◌}
use Rattle.papaya_raw.specs.Given.TablesDeclared.resize_mode.ResizeMode.{ResizeMode}
use Rattle.papaya_raw.specs.Given.TablesDeclared.resize_mode.ResizeMode.TheVariants.{Incremental}
use Rattle.seize_words.specs.declared.fault.Fault.{Fault}
use Rattle.seize_words.specs.declared.fault.Fault.TheVariants.{ZeroChunk, Capacity}
use Rattle.run_schedules.specs.declared.ended.Pair.{Pair}
use Rattle.run_schedules.specs.Runs.Log.{pair_at}

-- A first table has the next power of two of a third more places than its capacity, and at most 2 ^ 48.
abbrev pub map_fault : ResizeMode → ℕ → Option Fault
map_fault (Incremental zero) capacity = Some ZeroChunk
map_fault _ capacity = if nat_lt (2 ^ 48) (capacity * 8 / 6) then Some Capacity else None

-- a registration has so many guards at most, living or forgotten
abbrev pub MOST_GUARDS : ℕ
MOST_GUARDS = 65535

module _ {K V : Type 0} where
  -- the pair is the stored one of its number
  abbrev pub IsStored : List (K × V) → Pair K V → Type 0
  IsStored stored p = pair_at stored p.number ≡ Some (p.key, p.value)
