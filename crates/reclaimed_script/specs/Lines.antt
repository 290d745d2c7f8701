-- What one line of a script says.
use Rattle.std.specs.Prelude.{◌≡◌, ℕ, ◌^◌, List, [], ◌∷◌, Result, Ok, Err, IsOk, codes, bytes_eq, if◌then◌else◌}
use Rattle.papaya_raw.specs.Given.TablesDeclared.resize_mode.ResizeMode.TheVariants.{Incremental, Blocking}
use Rattle.run_schedules.specs.declared.event.Event.{Event}
use Rattle.run_schedules.specs.declared.event.Event.TheVariants.{Collector, Hash, Choose, Register, Unregister, Enter, Own, Refresh, Flush, DropGuard, Forget, ReclaimAll, Close, MakeMap, EndMap, ShowShape, Begin, Step, Go, Replied, OneCall, Next, Stop}
use Rattle.run_schedules.specs.declared.key_hash.KeyHash.{KeyHash}
use Rattle.run_schedules.specs.declared.key_hash.KeyHash.TheVariants.{Key, Zero}
use Rattle.reclaimed_script.specs.declared.fault.LineFault.{LineFault}
use Rattle.reclaimed_script.specs.declared.fault.LineFault.TheVariants.{UnknownEvent, BadWord}
use Rattle.reclaimed_script.specs.declared.fault.LineStop.{LineStop}
use Rattle.reclaimed_script.specs.declared.fault.LineStop.TheVariants as stops
use Rattle.reclaimed_script.specs.Words.{words_of, name_of, caller_of, number_of, number_between, next_of, none_of, one_of, two_of, three_of, ◌>>=◌}
use Rattle.reclaimed_script.specs.Calls.{call_said, reply_said, nomem_of}

-- an event of a script: keys are numbers, names and values are words
abbrev pub ScriptEvent : Type 0
ScriptEvent = Event ℕ (List ℕ)

-- `collector B P R`: batch size, processors from 1 to 2^63, roots from 1 to 65,536
unfoldable pub collector_of : List (List ℕ) → Result ScriptEvent LineFault
collector_of words = do
  said ← three_of words
  batch_size ← number_of said.0
  processors ← number_between 1 (2 ^ 63) said.1
  roots ← number_between 1 65536 said.2
  Ok (Collector (record { batch_size = batch_size; processors = processors; roots = roots }))

-- a way of hashing keys: `key` or `zero`
abbrev pub key_hash_of : List ℕ → Result KeyHash LineFault
key_hash_of word =
    if bytes_eq word (codes "key") then Ok Key
    else if bytes_eq word (codes "zero") then Ok Zero
    else Err BadWord

-- `hash key` or `hash zero`
unfoldable pub hash_of : List (List ℕ) → Result ScriptEvent LineFault
hash_of words = do
  said ← one_of words
  by ← key_hash_of said
  Ok (Hash by)

-- `choose C`: which of the free block numbers the next block gets
unfoldable pub choose_of : List (List ℕ) → Result ScriptEvent LineFault
choose_of words = do
  said ← one_of words
  choice ← number_of said
  Ok (Choose choice)

-- `register N`
unfoldable pub register_of : List (List ℕ) → Result ScriptEvent LineFault
register_of words = do
  said ← one_of words
  registration ← name_of said
  Ok (Register registration)

-- `unregister N`
unfoldable pub unregister_of : List (List ℕ) → Result ScriptEvent LineFault
unregister_of words = do
  said ← one_of words
  registration ← name_of said
  Ok (Unregister registration)

-- `enter G N`: a guard of a registration
unfoldable pub enter_of : List (List ℕ) → Result ScriptEvent LineFault
enter_of words = do
  said ← two_of words
  guard ← name_of said.0
  registration ← name_of said.1
  Ok (Enter guard registration)

-- `own G`: a guard with a slot of its own
unfoldable pub own_of : List (List ℕ) → Result ScriptEvent LineFault
own_of words = do
  said ← one_of words
  guard ← name_of said
  Ok (Own guard)

-- `refresh G`
unfoldable pub refresh_of : List (List ℕ) → Result ScriptEvent LineFault
refresh_of words = do
  said ← one_of words
  guard ← name_of said
  Ok (Refresh guard)

-- `flush G`
unfoldable pub flush_of : List (List ℕ) → Result ScriptEvent LineFault
flush_of words = do
  said ← one_of words
  guard ← name_of said
  Ok (Flush guard)

-- `drop G`
unfoldable pub drop_of : List (List ℕ) → Result ScriptEvent LineFault
drop_of words = do
  said ← one_of words
  guard ← name_of said
  Ok (DropGuard guard)

-- `forget G`
unfoldable pub forget_of : List (List ℕ) → Result ScriptEvent LineFault
forget_of words = do
  said ← one_of words
  guard ← name_of said
  Ok (Forget guard)

-- `reclaim_all`, with no word behind it
unfoldable pub reclaim_all_of : List (List ℕ) → Result ScriptEvent LineFault
reclaim_all_of words = do
  nothing ← none_of words
  Ok ReclaimAll

-- `close`, with no word behind it
unfoldable pub close_of : List (List ℕ) → Result ScriptEvent LineFault
close_of words = do
  nothing ← none_of words
  Ok Close

-- `inc n c` behind the map's name: places a writer copies, and the least capacity
unfoldable pub incremental_of : List ℕ → List (List ℕ) → Result ScriptEvent LineFault
incremental_of map words = do
  said ← two_of words
  map_name ← name_of map
  places ← number_of said.0
  capacity ← number_of said.1
  Ok (MakeMap map_name (Incremental places) capacity)

-- `block c` behind the map's name
unfoldable pub blocking_of : List ℕ → List (List ℕ) → Result ScriptEvent LineFault
blocking_of map words = do
  said ← one_of words
  map_name ← name_of map
  capacity ← number_of said
  Ok (MakeMap map_name Blocking capacity)

-- `map M inc n c` or `map M block c`: the third word decides the form
unfoldable pub map_of : List (List ℕ) → Result ScriptEvent LineFault
map_of words = do
  map ← next_of words
  mode ← next_of map.1
  if bytes_eq mode.0 (codes "inc") then incremental_of map.0 mode.1
      else if bytes_eq mode.0 (codes "block") then blocking_of map.0 mode.1
      else Err BadWord

-- `end M`
unfoldable pub end_of : List (List ℕ) → Result ScriptEvent LineFault
end_of words = do
  said ← one_of words
  map ← name_of said
  Ok (EndMap map)

-- `shape M`
unfoldable pub shape_of : List (List ℕ) → Result ScriptEvent LineFault
shape_of words = do
  said ← one_of words
  map ← name_of said
  Ok (ShowShape map)

-- `call G M` and a call: it is begun for the caller without a name, and then goes on
unfoldable pub call_of : List (List ℕ) → Result ScriptEvent LineFault
call_of words = do
  guard ← next_of words
  map ← next_of guard.1
  call ← call_said map.1
  guard_name ← name_of guard.0
  map_name ← name_of map.0
  Ok (OneCall guard_name map_name call)

-- `begin C G M` and a call
unfoldable pub begin_of : List (List ℕ) → Result ScriptEvent LineFault
begin_of words = do
  caller ← next_of words
  guard ← next_of caller.1
  map ← next_of guard.1
  call ← call_said map.1
  caller_name ← caller_of caller.0
  guard_name ← name_of guard.0
  map_name ← name_of map.0
  Ok (Begin caller_name guard_name map_name call)

-- `step C` or `step C nomem`: one step of the caller's call
unfoldable pub step_of : List (List ℕ) → Result ScriptEvent LineFault
step_of words = do
  caller ← next_of words
  refuse ← nomem_of caller.1
  caller_name ← caller_of caller.0
  Ok (Step caller_name refuse)

-- `go C` or `go C nomem`: its steps while it goes on
unfoldable pub go_of : List (List ℕ) → Result ScriptEvent LineFault
go_of words = do
  caller ← next_of words
  refuse ← nomem_of caller.1
  caller_name ← caller_of caller.0
  Ok (Go caller_name refuse)

-- `reply C` and a reply
unfoldable pub reply_of : List (List ℕ) → Result ScriptEvent LineFault
reply_of words = do
  caller ← next_of words
  reply ← reply_said caller.1
  caller_name ← caller_of caller.0
  Ok (Replied caller_name reply)

-- `next C`: the next pair of the caller's walk
unfoldable pub walk_next_of : List (List ℕ) → Result ScriptEvent LineFault
walk_next_of words = do
  said ← one_of words
  caller ← caller_of said
  Ok (Next caller)

-- `stop C`: the end of the caller's walk
unfoldable pub stop_of : List (List ℕ) → Result ScriptEvent LineFault
stop_of words = do
  said ← one_of words
  caller ← caller_of said
  Ok (Stop caller)

-- of events of callers the first word decides
unfoldable pub caller_event_from : List ℕ → List (List ℕ) → Result ScriptEvent LineFault
caller_event_from first words =
    if bytes_eq first (codes "call") then call_of words
    else if bytes_eq first (codes "begin") then begin_of words
    else if bytes_eq first (codes "step") then step_of words
    else if bytes_eq first (codes "go") then go_of words
    else if bytes_eq first (codes "reply") then reply_of words
    else if bytes_eq first (codes "next") then walk_next_of words
    else if bytes_eq first (codes "stop") then stop_of words
    else Err UnknownEvent

-- of events on maps the first word decides
unfoldable pub map_event_from : List ℕ → List (List ℕ) → Result ScriptEvent LineFault
map_event_from first words =
    if bytes_eq first (codes "map") then map_of words
    else if bytes_eq first (codes "end") then end_of words
    else if bytes_eq first (codes "shape") then shape_of words
    else caller_event_from first words

-- of events on guards the first word decides
unfoldable pub guard_event_from : List ℕ → List (List ℕ) → Result ScriptEvent LineFault
guard_event_from first words =
    if bytes_eq first (codes "enter") then enter_of words
    else if bytes_eq first (codes "own") then own_of words
    else if bytes_eq first (codes "refresh") then refresh_of words
    else if bytes_eq first (codes "flush") then flush_of words
    else if bytes_eq first (codes "drop") then drop_of words
    else if bytes_eq first (codes "forget") then forget_of words
    else map_event_from first words

-- the first word decides the event
unfoldable pub event_from : List ℕ → List (List ℕ) → Result ScriptEvent LineFault
event_from first words =
    if bytes_eq first (codes "collector") then collector_of words
    else if bytes_eq first (codes "hash") then hash_of words
    else if bytes_eq first (codes "choose") then choose_of words
    else if bytes_eq first (codes "register") then register_of words
    else if bytes_eq first (codes "unregister") then unregister_of words
    else if bytes_eq first (codes "reclaim_all") then reclaim_all_of words
    else if bytes_eq first (codes "close") then close_of words
    else guard_event_from first words

unfoldable pub event_of_words : List (List ℕ) → Result ScriptEvent LineFault
event_of_words [] = Err UnknownEvent
event_of_words (first ∷ words) = event_from first words

-- what a line that is not empty says, apart from its length and its number
unfoldable pub event_of : List ℕ → Result ScriptEvent LineFault
event_of line = event_of_words (words_of line)

-- What the reader of a line returned is what the line says. Memory runs out only at a line with no fault.
abbrev pub ReturnsWhatItSays : Result ScriptEvent LineStop → Result ScriptEvent LineFault → Type 0
ReturnsWhatItSays (Ok event) said = said ≡ Ok event
ReturnsWhatItSays (Err (stops.Fault fault)) said = said ≡ Err fault
ReturnsWhatItSays (Err stops.Memory) said = IsOk said
