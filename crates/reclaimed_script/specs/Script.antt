-- What a whole script says: its events in order or its first faulty line, the setup of its collector, and how its keys get their hashes.
use Rattle.std.specs.Prelude.{◌≡◌, ℕ, ◌+◌, List, [], ◌∷◌, ◌++◌, length, Result, Ok, Err, IsOk, nat_lt, ◌==◌, if◌then◌else◌}
use Rattle.std.specs.List.{onto_first}
use Rattle.run_schedules.specs.declared.setup.Setup.{Setup}
use Rattle.run_schedules.specs.declared.event.Event.TheVariants.{Collector, Hash, MakeMap}
use Rattle.run_schedules.specs.declared.key_hash.KeyHash.{KeyHash}
use Rattle.run_schedules.specs.declared.key_hash.KeyHash.TheVariants.{Key}
use Rattle.reclaimed_script.specs.declared.fault.LineFault.{LineFault}
use Rattle.reclaimed_script.specs.declared.fault.LineFault.TheVariants.{TooLong, TooManyLines}
use Rattle.reclaimed_script.specs.declared.fault.ScriptStop.{ScriptStop}
use Rattle.reclaimed_script.specs.declared.fault.ScriptStop.TheVariants.{Line, ReadFailed, NoMemory}
use Rattle.reclaimed_script.specs.Lines.{ScriptEvent, event_of}

-- The lines of a text, each ended by a line feed, which the last may lack. A text that ends in one has no further line.
abbrev pub lines_of : List ℕ → List (List ℕ)
lines_of [] = []
lines_of (b ∷ bytes) = if b == 10 then [] ∷ lines_of bytes else onto_first b (lines_of bytes)

abbrev pub one_event : Result ScriptEvent LineFault → Result (List ScriptEvent) LineFault
one_event (Ok event) = Ok (event ∷ [])
one_event (Err fault) = Err fault

-- an empty line says nothing, any other an event
unfoldable pub events_of : List ℕ → Result (List ScriptEvent) LineFault
events_of [] = Ok []
events_of (b ∷ bytes) = one_event (event_of (b ∷ bytes))

-- what the line of this number says: at most 256 bytes are a line, and 1,000,000 lines a script
unfoldable pub line_at : ℕ → List ℕ → Result (List ScriptEvent) LineFault
line_at number line =
    if nat_lt 256 (length line) then Err TooLong
    else if nat_lt 1000000 number then Err TooManyLines
    else events_of line

-- these events, and then the others, if they have no fault
abbrev pub in_front : List ScriptEvent → Result (List ScriptEvent) (ℕ × LineFault) → Result (List ScriptEvent) (ℕ × LineFault)
in_front events (Ok others) = Ok (events ++ others)
in_front events (Err fault) = Err fault

-- what a line of this number says, and then the others: its fault comes before theirs
abbrev pub then_lines : ℕ → Result (List ScriptEvent) LineFault → Result (List ScriptEvent) (ℕ × LineFault) → Result (List ScriptEvent) (ℕ × LineFault)
then_lines number (Ok events) others = in_front events others
then_lines number (Err fault) others = Err (number, fault)

-- the events of lines of which the first has this number, or the first faulty line's number and fault
unfoldable pub script_from : ℕ → List (List ℕ) → Result (List ScriptEvent) (ℕ × LineFault)
script_from number [] = Ok []
script_from number (line ∷ lines) = then_lines number (line_at number line) (script_from (number + 1) lines)

-- the events of a script, or its first faulty line
abbrev pub script_of : List ℕ → Result (List ScriptEvent) (ℕ × LineFault)
script_of bytes = script_from 1 (lines_of bytes)

-- where no collector stands first
abbrev pub usual_setup : Setup
usual_setup = record { batch_size = 32; processors = 1; roots = 8 }

-- a collector's setup, if it is the first event
abbrev pub setup_of : List ScriptEvent → Setup
setup_of (Collector setup ∷ _) = setup
setup_of _ = usual_setup

-- the last that events say of hashes before the first that makes a map, or else this
abbrev pub hasher_from : KeyHash → List ScriptEvent → KeyHash
hasher_from by [] = by
hasher_from by (Hash said ∷ events) = hasher_from said events
hasher_from by (MakeMap map mode capacity ∷ events) = by
hasher_from by (_ ∷ events) = hasher_from by events

-- where nothing is said of them, the hash of a key is the key
abbrev pub hasher_of : List ScriptEvent → KeyHash
hasher_of events = hasher_from Key events

-- what a line of this number added to the events
abbrev pub Adds : List ScriptEvent → List ScriptEvent → Result (List ScriptEvent) LineFault → Type 0
Adds old new (Ok events) = new ≡ old ++ events
Adds old new (Err fault) = ⊥

-- why nothing was added: the fault of this line, or memory at a line with no fault
abbrev pub AddsNothing : ℕ → Result (List ScriptEvent) LineFault → ScriptStop → Type 0
AddsNothing number said (Line n fault) = (n ≡ number) × (said ≡ Err fault)
AddsNothing number said (NoMemory n) = (n ≡ number) × IsOk said
AddsNothing number said (ReadFailed n) = ⊥
