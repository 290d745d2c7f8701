-- Why a builder makes no map, and which collector the map has that it makes.
use Rattle.std.specs.Prelude.{◌≡◌, ℕ, zero, Bool, true, false, if◌then◌else◌, Option, Some, None, Result, Ok, Err, MatchOption, MatchResult}
use Rattle.map_tables.specs.Lengths.{entries_of}
use Rattle.map_tables.specs.declared.resize_mode.ResizeMode.{ResizeMode}
use Rattle.map_tables.specs.declared.resize_mode.ResizeMode.TheVariants.{Incremental}
use Rattle.seize.specs.Collector.{Setting, made_by}
use Rattle.seize.specs.Ids.{given, following}
use Rattle.seize_words.specs.declared.fault.Fault.{Fault}
use Rattle.seize_words.specs.declared.fault.Fault.TheVariants.{Memory, ZeroChunk}

abbrev pub fault_of : {A : Type 0} → Result A Fault → Option Fault
fault_of (Ok a) = None
fault_of (Err fault) = Some fault

-- whether a map would never copy a place so
abbrev pub is_zero : ResizeMode → Bool
is_zero (Incremental zero) = true
is_zero mode = false

-- by how the map comes to its next table, and how many pairs are to have room: before anything is asked for
abbrev pub first_fault : ResizeMode → ℕ → Option Fault
first_fault mode capacity = if is_zero mode then Some ZeroChunk else fault_of (entries_of capacity)

-- the collector that was given, or the next one of the source, for one processor and one root
abbrev pub made_for : Option Setting → ℕ → Result Setting Fault
made_for (Some collector) next = Ok collector
made_for None next = made_by (given next) 1 1

-- the next number of the source is another one just where it was asked
abbrev pub ids_after : Option Fault → Option Setting → ℕ → ℕ
ids_after None None next = following next
ids_after first collector next = next

-- The first fault that there is: of what was chosen, of the source, or want of memory.
abbrev pub RefusedBy : Option Fault → Option Setting → ℕ → Fault → Type 0
RefusedBy first collector next fault =
    MatchOption first (MatchResult (made_for collector next) (λ _. fault ≡ Memory) (λ none. fault ≡ none)) (λ chosen. fault ≡ chosen)
