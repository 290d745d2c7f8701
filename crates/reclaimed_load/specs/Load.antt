-- What the words `load T N` ask for, and what is written for words.
use Rattle.std.specs.Prelude.{◌≡◌, ℕ, false, true, List, [], ◌∷◌, ◌++◌, Result, Ok, Err, codes, bytes_eq, if◌then◌else◌, ◌⊎◌}
use Rattle.std.specs.Fmt.{decimal}
use Rattle.std.specs.Io.KnownBytes.{Appends, Keeps}
use Rattle.reclaimed_script.specs.declared.fault.LineFault.{LineFault}
use Rattle.reclaimed_script.specs.declared.fault.LineFault.TheVariants.{UnknownEvent}
use Rattle.reclaimed_script.specs.Outputs.{ReportsFailure, SaysOnly, Streams, line, refused_line}
use Rattle.reclaimed_script.specs.Words.{number_between, ◌>>=◌}
use Rattle.seize_words.specs.declared.fault.Fault.{Fault}

-- so many threads, 1 to 16, and so many updates of each, up to 1,000,000
unfoldable pub load_by : List ℕ → List ℕ → Result (ℕ × ℕ) LineFault
load_by threads updates = do
  workers ← number_between 1 16 threads
  each ← number_between 0 1000000 updates
  Ok (workers, each)

-- `load T N`
abbrev pub load_of : List (List ℕ) → Result (ℕ × ℕ) LineFault
load_of (first ∷ threads ∷ updates ∷ []) = if bytes_eq first (codes "load") then load_by threads updates else Err UnknownEvent
load_of words = Err UnknownEvent

-- how many threads there were, how many keys the map has in the end, and the sum of their values
abbrev pub load_text : ℕ → ℕ → ℕ → List ℕ
load_text threads keys sum = line (codes "threads " ++ decimal threads) ++ line (codes "keys " ++ decimal keys) ++ line (codes "sum " ++ decimal sum)

abbrev pub usage : List ℕ
usage = codes "usage: reclaimed_map [load T N]\n"

-- what so many threads have left is printed, and nothing else
abbrev pub IsPrinted : ℕ → Streams → Type 0
IsPrinted threads s =
    (keys sum : ℕ) × (s.output_failed ≡ false) × Appends s.output_before s.output_after (load_text threads keys sum) × Keeps s.errors_before s.errors_after

-- a call was refused, which is told on the errors
abbrev pub IsRefused : Streams → Type 0
IsRefused s = (fault : Fault) × SaysOnly (refused_line fault) s

-- a write of what is printed failed, which is told on the errors
abbrev pub IsUnwritten : Streams → Type 0
IsUnwritten s = (s.output_failed ≡ true) × ReportsFailure true s.errors_failed s.errors_before s.errors_after

-- the status is 0 where all is printed, and else 1; other words are told how the program is used
abbrev pub EndsLoad : ℕ → Result (ℕ × ℕ) LineFault → Streams → Type 0
EndsLoad status (Ok asked) s = ((status ≡ 0) × IsPrinted asked.0 s) ⊎ ((status ≡ 1) × (IsRefused s ⊎ IsUnwritten s))
EndsLoad status (Err fault) s = (status ≡ 1) × SaysOnly usage s
