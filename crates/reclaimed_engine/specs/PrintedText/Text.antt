-- What is printed for a finished run: its events in order, and then what is left at the end.
use Rattle.std.specs.Prelude.{ℕ, ◌+◌, ◌*◌, ◌/◌, ◌%◌, ◌^◌, List, [], ◌∷◌, ◌++◌, Option, Some, None, length, codes}
use Rattle.std.specs.List.{flat_map, filter_map, zip}
use Rattle.std.specs.Fmt.{decimal}
use Rattle.std.specs.Global.{Vec}
use Rattle.run_schedules.specs.declared.call.Response.{Response}
use Rattle.run_schedules.specs.declared.call.Response.TheVariants.{Absent, Found, Stored, Occupied, Kept, Inserted, Updated, Removed, Aborted, Completed, Counted}
use Rattle.run_schedules.specs.declared.effect.Effect.{Effect}
use Rattle.run_schedules.specs.declared.effect.Effect.TheVariants.{Reclaimed, Ended}
use Rattle.run_schedules.specs.declared.effect.Thing.TheVariants.{APair}
use Rattle.run_schedules.specs.declared.outcome.Outcome.{Outcome}
use Rattle.run_schedules.specs.declared.outcome.Outcome.TheVariants.{Done, Slot, Goes, Asks, Waits, Ready, Shows, Answered, Shape, Refused}
use Rattle.run_schedules.specs.declared.record.Run.{Run}
use Rattle.run_schedules.specs.declared.shapes.TableShape.{TableShape}
use Rattle.run_schedules.specs.declared.ended.Living.{Living}
use Rattle.run_schedules.specs.declared.ended.Pair.{Pair}
use Rattle.reclaimed_script.specs.Outputs.{line, refused_line}
use Rattle.reclaimed_engine.specs.PrintedText.Ascending.{ascending}
use Rattle.run_schedules.specs.Schedules.Runs.{pair_of}

-- a pair and a run of a script: its keys are numbers, and its values words
abbrev pub WordPair : Type 0
WordPair = Pair ℕ (List ℕ)

abbrev pub WordRun : Type 0
WordRun = Run ℕ (List ℕ)

-- ` #n`
abbrev pub tag : ℕ → List ℕ
tag number = codes " #" ++ decimal number

-- ` k v`, the key and the value, where there is a pair
abbrev pub key_and_value : Option WordPair → List ℕ
key_and_value None = []
key_and_value (Some pair) = codes " " ++ decimal pair.key ++ codes " " ++ pair.value

-- ` #n k v`, the number, the key and the value of a pair
abbrev pub numbered : WordRun → ℕ → List ℕ
numbered run number = tag number ++ key_and_value (pair_of run number)

-- the line of a call that was answered
abbrev pub answer_line : WordRun → Response (List ℕ) → List ℕ
answer_line run Absent = line (codes "none")
answer_line run (Found number) = line (codes "some" ++ numbered run number)
answer_line run (Stored number) = line (codes "stored" ++ numbered run number)
answer_line run (Occupied number value) = line (codes "occupied" ++ numbered run number ++ codes " " ++ value)
answer_line run (Kept number) = line (codes "kept" ++ numbered run number)
answer_line run (Inserted number) = line (codes "inserted" ++ numbered run number)
answer_line run (Updated old new) = line (codes "updated" ++ numbered run old ++ numbered run new)
answer_line run (Removed number) = line (codes "removed" ++ numbered run number)
answer_line run (Aborted value) = line (codes "aborted " ++ value)
answer_line run Completed = line (codes "ok")
answer_line run (Counted count) = line (codes "len " ++ decimal count)

-- the line of a call that asks about a pair, or about none
abbrev pub asks_line : WordRun → Option ℕ → List ℕ
asks_line run None = line (codes "asks none")
asks_line run (Some number) = line (codes "asks" ++ numbered run number)

-- ` len:limit`, the length and the last try of a table
abbrev pub table_shape : TableShape → List ℕ
table_shape table = codes " " ++ decimal table.len ++ codes ":" ++ decimal table.limit

-- the line of the tables of a map
abbrev pub shape_line : List TableShape → List ℕ
shape_line tables = line (codes "shape" ++ flat_map table_shape tables)

-- the line of what an event came to
abbrev pub outcome_line : WordRun → Outcome (List ℕ) → List ℕ
outcome_line run Done = line (codes "ok")
outcome_line run (Slot slot) = line (codes "slot " ++ decimal slot)
outcome_line run Goes = line (codes "goes")
outcome_line run (Asks question) = asks_line run question
outcome_line run Waits = line (codes "waits")
outcome_line run Ready = line (codes "ready")
outcome_line run (Shows number) = line (codes "some" ++ numbered run number)
outcome_line run (Answered answer) = answer_line run answer
outcome_line run (Shape tables) = shape_line tables.items
outcome_line run (Refused fault) = refused_line fault

-- a line for a pair that was reclaimed, whether it had left the map or ended with it, and nothing for another effect
abbrev pub back_line : WordRun → Effect → List ℕ
back_line run (Reclaimed (APair number)) = line (codes "back" ++ numbered run number)
back_line run (Ended number) = line (codes "back" ++ numbered run number)
back_line run _ = []

abbrev pub back_lines : WordRun → List Effect → List ℕ
back_lines run effects = flat_map (back_line run) effects

-- an event's line, and after it a line for each pair that it gave back
abbrev pub event_lines : WordRun → (Outcome (List ℕ) × Vec Effect) → List ℕ
event_lines run event = outcome_line run event.0 ++ back_lines run event.1.items

-- ` k:v`
abbrev pub entry : WordPair → List ℕ
entry pair = codes " " ++ decimal pair.key ++ codes ":" ++ pair.value

-- a living map's line: its name and its pairs
abbrev pub map_line : WordRun → Living → List ℕ
map_line run living = line (codes "map " ++ living.name ++ flat_map entry (ascending (λ pair. pair.key) (filter_map (pair_of run) living.pairs.items)))

-- The bytes of a name as digits of a number in base 256, of which the first has this weight. With the weight 2^120 names of up to 16 bytes stand in the order of
-- a dictionary.
abbrev pub name_number : ℕ → List ℕ → ℕ
name_number weight [] = 0
name_number weight (byte ∷ name) = (byte * weight % 2 ^ 128 + name_number (weight / 256) name) % 2 ^ 128

-- maps in the order of their names
abbrev pub by_name : List Living → List Living
by_name maps = ascending (λ living. name_number (2 ^ 120) living.name) maps

-- the numbers of the pairs that left their map and were not reclaimed
abbrev pub waiting_line : List ℕ → List ℕ
waiting_line numbers = line (codes "waiting" ++ flat_map tag numbers)

-- the maps, the pairs that still wait, the tables that still wait, and how many pairs were stored and reclaimed
abbrev pub final_lines : WordRun → List ℕ
final_lines run =
    flat_map (map_line run) (by_name run.maps.items)
    ++ waiting_line run.waiting.items
    ++ line (codes "tables " ++ decimal run.tables)
    ++ line (codes "stored " ++ decimal run.stored ++ codes " back " ++ decimal (length run.given_back))

-- all that is printed for a run
abbrev pub text_of : WordRun → List ℕ
text_of run = flat_map (event_lines run) (zip run.outcomes.items run.effects.items) ++ final_lines run

-- the one line that is printed for a schedule that cannot be read
abbrev pub fault_line : ℕ → List ℕ → List ℕ
fault_line number text = line (codes "line " ++ decimal number ++ codes ": " ++ text)
