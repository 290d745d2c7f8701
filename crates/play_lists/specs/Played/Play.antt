-- A list of acts is played: from memory and machines each act computes the next ones, and the entry of the history that it is.
use Rattle.std.specs.Prelude.{ℕ, ◌+◌, ◌*◌, ◌/◌, ◌==◌, Bool, true, false, not, List, [], ◌∷◌, ◌++◌, length, Option, Some, None, option_map, Result, is_ok, if◌then◌else◌}
use Rattle.many_acts.specs.Acts.Acts.{Act, Answer, Nothing, OfCall, OfReply, OfAsking, OfMaking, OfEnding, OfReclaiming, BeginsCall, StepsCall, TellsCall, AsksCall, StopsCall, BeginsMaking, StepsMaking, BeginsEnding, StepsEnding, BeginsRow, StepsRow, Wanted, Get, Remove, Insert, TryToInsert, Compute, Update, UpdateOrInsert, TryToInsertWith, RemoveIf, GetKeyValue, ContainsKey, GetOrInsert, GetOrInsertWith, RemoveEntry, MakeRoom, Count, GoOver}
use Rattle.many_acts.specs.Acts.AsSteps.{changed_of, row_changed}
use Rattle.many_acts.specs.Acts.Doings.{Doing, Does, BeginsReclaiming, BeginsClearing, StepsReclaiming, Chooses, memory_chosen}
use Rattle.seize_acts.specs.Acts.Answers.{Grant, stepped, then_on}
use Rattle.run_schedules.specs.Given.SeizeWordsMem.{Mem}
use Rattle.seize.specs.Enter.{enter_plan, unregister_plan}
use Rattle.seize.specs.Leave.{leave_plan}
use Rattle.seize.specs.ReclaimAll.{reclaiming_all, clearing, reclaim_all_plan}
use Rattle.seize.specs.Register.{register_plan}
use Rattle.seize.specs.Settle.{settle_plan}
use Rattle.seize.specs.World.{Request, Register', Enter', Leave', LeaveOwned, Refresh, Unregister', Flush, with_at}
use Rattle.seize.specs.declared.advance.Advance.{Advance}
use Rattle.seize.specs.declared.advance.Advance.TheVariants as progress
use Rattle.seize.specs.declared.rows.leave.Leave.{Leave}
use Rattle.seize.specs.declared.rows.leave.Leaving.{Leaving}
use Rattle.seize.specs.declared.rows.leave.Leaving.TheVariants as leaves
use Rattle.seize.specs.declared.rows.reclaim_all.ReclaimAll.{ReclaimAll}
use Rattle.seize.specs.declared.rows.register.Registering.{Registering}
use Rattle.seize.specs.declared.rows.register.Registering.TheVariants as registers
use Rattle.seize.specs.declared.rows.settle.Settled.{Settled}
use Rattle.seize.specs.declared.rows.settle.Settled.TheVariants as settled
use Rattle.seize.specs.declared.states.TheConstants.{ACTIVE}
use Rattle.map_tables.specs.Nodes.{deferred_word, was_left}
use Rattle.map_tables.specs.declared.node.Node.{Node}
use Rattle.map_tables.specs.declared.setting.Setting.{Setting}
use Rattle.run_kept.specs.Given.ResizeNewMap.{new_map_plan, opening}
use Rattle.run_finds.specs.Given.ResizeDeclared.new_map.NewMap.{NewMap}
use Rattle.run_finds.specs.Given.ResizeDeclared.new_map.Opening.{Opening}
use Rattle.run_finds.specs.Given.ResizeDeclared.new_map.Opening.TheVariants as openings
use Rattle.run_finds.specs.Given.ReservesDeclared.sweep.Purpose.TheVariants as purpose
use Rattle.run_schedules.specs.Given.RawEndMap.{ending, end_map_plan}
use Rattle.run_finds.specs.Given.RawMachine.{machine_plan, machine_replied, machine_asked}
use Rattle.run_finds.specs.Given.RawDeclared.machines.asking.MachineReply.{MachineReply as Told}
use Rattle.run_finds.specs.Given.RawDeclared.machines.asking.MachineReply.TheVariants as told
use Rattle.run_finds.specs.Given.RawDeclared.machines.end_map.EndMap.{EndMap}
use Rattle.run_finds.specs.Given.RawDeclared.machines.machine.Machine.{Machine}
use Rattle.run_finds.specs.Given.RawDeclared.machines.progress.Progress.{Progress as CallProgress}
use Rattle.run_finds.specs.Given.RawDeclared.machines.progress.Progress.TheVariants as comes
use Rattle.run_kept.specs.Given.EffectsDeclared.changed.Changed.{Changed}
use Rattle.run_kept.specs.Given.EffectsDeclared.changed.Changed.TheVariants as changes
use Rattle.many_acts.specs.Given.CallersTogether.{in_slot}
use Rattle.many_acts.specs.Given.FinishesMaps.{with_call}
use Rattle.many_acts.specs.Given.ScenesReplying.{unless_stopped}
use Rattle.many_acts.specs.Given.ScenesRows.{begun_row, of_registering, of_settling, of_storing}
use Rattle.many_acts.specs.Given.ScenesScene.{at_first, row_of, slot_of}
use Rattle.many_acts.specs.Given.ScenesStepping.{has_ended}
use Rattle.many_acts.specs.Given.ScenesDeclared.row.RowTold.{RowTold}
use Rattle.many_acts.specs.Given.ScenesDeclared.row.RowTold.TheVariants as rows_tell
use Rattle.many_acts.specs.Given.ScenesDeclared.row.SlotCall.{SlotCall}
use Rattle.many_acts.specs.Given.ScenesDeclared.row.SlotCall.TheVariants as slot_call
use Rattle.many_acts.specs.Given.ScenesDeclared.row.SlotRow.{SlotRow}
use Rattle.many_acts.specs.Given.ScenesDeclared.row.SlotRow.TheVariants as rows
use Rattle.run_schedules.specs.declared.call.Call.{Call}
use Rattle.run_schedules.specs.declared.call.Call.TheVariants as calls
use Rattle.run_schedules.specs.declared.call.OneKey.TheVariants as one
use Rattle.run_schedules.specs.declared.call.Reply.{Reply}
use Rattle.run_schedules.specs.declared.call.Reply.TheVariants as reply
use Rattle.run_schedules.specs.declared.outcome.Outcome.{Outcome}
use Rattle.run_schedules.specs.declared.outcome.Outcome.TheVariants as outcome
use Rattle.run_kept.specs.Given.EffectsEffects.{effects_of, known_after}
use Rattle.run_kept.specs.Given.EffectsKnown.{Known, nothing_known}
use Rattle.run_kept.specs.Given.EffectsDeclared.acting.Acting.{Acting}
use Rattle.run_kept.specs.Given.EffectsDeclared.acting.Acting.TheVariants as acting
use Rattle.run_finds.specs.Given.NamedMachines.{aborted_by, machine_for}
use Rattle.run_finds.specs.Given.NamedSeen.{kind_of}
use Rattle.run_finds.specs.Given.NamedTelling.{answer_of, kept, number_by}
use Rattle.run_finds.specs.Given.ExecutorDeclared.kind.CallKind.{CallKind}
use Rattle.run_schedules.specs.Deeds.Deeds.{Deed, Begins, Steps, Replies, Stops, Registers, Opens, Shuts, Leaves, Tends, MapComes, Makes, MapFails, Ends, MapGoes, ReclaimsAll, Entry}

-- what is wanted of a map, as the call that it is in the words of a run
abbrev pub call_for : {K V : Type 0} → Wanted K V → Call K V
call_for (Get key) = calls.On (one.Get key)
call_for (Remove key) = calls.On (one.Remove key)
call_for (Insert key value) = calls.On (one.Insert key value)
call_for (TryToInsert key value) = calls.On (one.TryInsert key value)
call_for (Compute key) = calls.On (one.Compute key)
call_for (Update key) = calls.On (one.Update key)
call_for (UpdateOrInsert key None) = calls.On (one.UpdateOrInsertWith key)
call_for (UpdateOrInsert key (Some value)) = calls.On (one.UpdateOrInsert key value)
call_for (TryToInsertWith key) = calls.On (one.TryInsertWith key)
call_for (RemoveIf key) = calls.On (one.RemoveIf key)
call_for (GetKeyValue key) = calls.On (one.GetKeyValue key)
call_for (ContainsKey key) = calls.On (one.ContainsKey key)
call_for (GetOrInsert key value) = calls.On (one.GetOrInsert key value)
call_for (GetOrInsertWith key) = calls.On (one.GetOrInsertWith key)
call_for (RemoveEntry key) = calls.On (one.RemoveEntry key)
call_for (MakeRoom additional) = calls.Reserve additional
call_for Count = calls.Len
call_for (GoOver purpose.Walks) = calls.Walk
call_for (GoOver purpose.Clears) = calls.Clear
call_for (GoOver purpose.Retains) = calls.Retain

-- What a call is told. No act tells what a closure aborts with: it is this.
abbrev pub reply_for : {V : Type 0} → V → Told V → Reply V
reply_for aborts (told.Insert value) = reply.Gives value
reply_for aborts told.Remove = reply.Removes
reply_for aborts told.Abort = reply.Aborts aborts
reply_for aborts told.Yes = reply.Decides true
reply_for aborts told.No = reply.Decides false

-- a call under way: what it is, its machine, and the value that it keeps
pub record Calling (K V : Type 0) : Type 0 where
  pub call : Call K V
  pub machine : Machine K V K
  pub value : Option V

-- a map that is made, with its hasher
pub record Making (S : Type 0) : Type 0 where
  pub map : ℕ
  pub hasher : S
  pub machine : NewMap

-- and one that ends
pub record Ending : Type 0 where
  pub map : ℕ
  pub machine : EndMap

-- The memory, the maps that stand, and what callers have under way: calls, by map, makings, ends, rows between calls, and who reclaims all.
pub record Now (K V S : Type 0) : Type 0 where
  pub memory : Mem (Node K V)
  pub maps : ℕ → Option (Setting × S)
  pub calls : ℕ → ℕ → Option (Calling K V)
  pub makers : ℕ → Option (Making S)
  pub enders : ℕ → Option Ending
  pub rows : ℕ → Option SlotRow
  pub all : Option ReclaimAll

-- That, what is known of the blocks, the history so far, the newest entry first, and what callers were told, the newest last.
pub record State (K V S : Type 0) : Type 0 where
  pub now : Now K V S
  pub known : Known
  pub history : List (Entry K V)
  pub told : List (Answer K V)

-- nothing was played yet, and there are so many roots
abbrev pub first_now : {K V S : Type 0} → ℕ → Now K V S
first_now {K} {V} roots = record {
  memory = (at_first {K = K} {V = V} roots).world.memory;
  maps = λ m. None;
  calls = λ m i. None;
  makers = λ i. None;
  enders = λ i. None;
  rows = λ i. None;
  all = None;
}

abbrev pub first_state : {K V S : Type 0} → ℕ → State K V S
first_state roots = record { now = first_now roots; known = nothing_known; history = []; told = [] }

-- it was asked for a growth, and refused it
abbrev pub is_refusal : Changed → Bool
is_refusal (changes.Unmade kind) = true
is_refusal (changes.Roomed bucket had) = not had
is_refusal changed = false

module _ {K V S : Type 0} where
  -- something has begun, and there is no entry of it
  abbrev pub began : Now K V S → State K V S → State K V S
  began now s = record s { now = now; told = s.told ++ Nothing ∷ [] }

  -- this was done with no operation, if it was
  abbrev pub did : Bool → Deed K V → Outcome V → Answer K V → Now K V S → State K V S → State K V S
  did done deed outcome answer now s =
      record s { now = now; history = if done then record { deed = deed; outcome = outcome; effects = []; refused = false } ∷ s.history else s.history; told = s.told ++ answer ∷ [] }

  -- and this with one, made by whoever acts so, that has changed this
  abbrev pub worked : Acting → Changed → Deed K V → Outcome V → Answer K V → Now K V S → State K V S → State K V S
  worked who changed deed outcome answer now s =
      record {
        now = now;
        known = known_after who changed s.known;
        history = record { deed = deed; outcome = outcome; effects = effects_of who s.known changed; refused = is_refusal changed } ∷ s.history;
        told = s.told ++ answer ∷ [];
      }

-- Calls

-- what the step of a call comes to
abbrev pub outcome_of : {K V : Type 0} → Known → CallKind → Option V → CallProgress (Node K V) → Outcome V
outcome_of known kind value comes.Goes = outcome.Goes
outcome_of known kind value (comes.Gave back) = outcome.Goes
outcome_of known kind value (comes.Unstored back) = outcome.Goes
outcome_of known kind value comes.Waits = outcome.Waits
outcome_of known kind value (comes.Asks word) = outcome.Asks (option_map (number_by known) word)
outcome_of known kind value comes.Ready = outcome.Ready
outcome_of known kind value (comes.Pair word) = outcome.Shows (number_by known word)
outcome_of known kind value (comes.Done said) = outcome.Answered (answer_of known kind value said)
outcome_of known kind value (comes.Refused fault) = outcome.Refused fault

-- the value of a pair that was not stored comes back to the call
abbrev pub keeps : {K V : Type 0} → CallKind → CallProgress (Node K V) → Option V → Option V
keeps kind (comes.Unstored back) value = kept kind back value
keeps kind progress value = value

-- it goes on as this machine, unless it has ended
abbrev pub going : {K V : Type 0} → Calling K V → Machine K V K → CallProgress (Node K V) → Option (Calling K V)
going c machine told = if has_ended told then None else Some (record c { machine = machine; value = keeps (kind_of c.call) told c.value })

-- one that takes a reply goes on by it, and one that does not take it as it was
abbrev pub replied_call : {K V : Type 0} → Machine K V K × Result Unit (Told V) → Reply V → Calling K V → Calling K V
replied_call to reply c = record c { machine = to.0; value = if is_ok to.1 then aborted_by reply else c.value }

-- of this caller, on this map
module _ {K V S : Type 0} (i m : ℕ) where
  abbrev pub begun_call : (S → K → ℕ) → Call K V → Setting × S → Calling K V
  begun_call hash call at = record { call = call; machine = machine_for (in_slot at.0 (slot_of i)) (hash at.1) call; value = None }

  abbrev pub call_begun : (S → K → ℕ) → Call K V → State K V S → Setting × S → State K V S
  call_begun hash call s at = did true (Begins i (slot_of i) m call) outcome.Goes Nothing (record s.now { calls = with_call s.now.calls m i (Some (begun_call hash call at)) }) s

  abbrev pub call_stepped : Calling K V → Changed → State K V S → Mem (Node K V) × (Machine K V K × CallProgress (Node K V)) → State K V S
  call_stepped c changed s p =
      worked (acting.Call i m) changed (Steps i) (outcome_of (known_after (acting.Call i m) changed s.known) (kind_of c.call) c.value p.1.1) (OfCall p.1.1)
      (record s.now { memory = p.0; calls = with_call s.now.calls m i (going c p.1.0 p.1.1) }) s

  -- what the closure aborts with that is told to, is given by the number of the act, so many of which were done before
  abbrev pub call_replied : (ℕ → V) → Told V → State K V S → Calling K V → State K V S
  call_replied aborts told s c =
      let to = machine_replied c.machine told in
      let reply = reply_for (aborts (length s.told)) told in
      did (is_ok to.1) (Replies i reply) outcome.Goes (OfReply to.1) (record s.now { calls = with_call s.now.calls m i (Some (replied_call to reply c)) }) s

  -- what a walk that is ready is asked for is the step that comes
  abbrev pub call_asked : State K V S → Calling K V → State K V S
  call_asked s c =
      let to = machine_asked c.machine in
      did false (Steps i) outcome.Goes (OfAsking to.1) (record s.now { calls = with_call s.now.calls m i (Some (record c { machine = to.0 })) }) s

  -- and given up it is under way no more
  abbrev pub call_stopped : State K V S → Calling K V → State K V S
  call_stopped s c =
      let ready = (machine_asked c.machine).1 in
      did ready (Stops i) outcome.Done (OfAsking ready) (record s.now { calls = with_call s.now.calls m i (unless_stopped ready c) }) s

-- Makings and ends of maps

-- the root is taken
abbrev pub has_root : Opening → Bool
has_root openings.Takes = false
has_root (openings.Refused fault) = false
has_root _ = true

-- for so many pairs a map is made that begins with so many places, or with no table
abbrev pub pairs_for : ℕ → ℕ
pairs_for places = (places * 3 + 3) / 4

-- A map comes as its root is taken, and there is none where the making gives the root up.
abbrev pub making_deed : {K V : Type 0} → ℕ → NewMap → NewMap → Deed K V
making_deed map before after =
    if has_root before.stands then (if has_root after.stands then Makes map else MapFails map)
    else (if has_root after.stands then MapComes map after.setting.root after.setting.mode (pairs_for after.len) else Makes map)

abbrev pub making_outcome : {V : Type 0} → Advance Setting → Outcome V
making_outcome progress.Goes = outcome.Goes
making_outcome progress.Waits = outcome.Waits
making_outcome (progress.Done setting) = outcome.Done
making_outcome (progress.Refused fault) = outcome.Refused fault

abbrev pub is_over : {T : Type 0} → Settled T → Bool
is_over settled.Done = true
is_over _ = false

abbrev pub settled_outcome : {T V : Type 0} → Settled T → Outcome V
settled_outcome settled.Done = outcome.Done
settled_outcome settled.Waits = outcome.Waits
settled_outcome _ = outcome.Goes

-- an end goes on, or is over
abbrev pub ended_on : {T : Type 0} → Ending → EndMap → Settled T → Option Ending
ended_on f machine told = if is_over told then None else Some (record f { machine = machine })

abbrev pub ending_deed : {K V T : Type 0} → Ending → Settled T → Deed K V
ending_deed f told = if is_over told then MapGoes f.map else Ends f.map

module _ {K V S : Type 0} (i : ℕ) where
  abbrev pub making_begun : ℕ → ℕ → S → Setting → ℕ → State K V S → State K V S
  making_begun roots map hasher given places s =
      began (record s.now { makers = with_at s.now.makers i (Some (record { map = map; hasher = hasher; machine = opening given roots places })) }) s

  -- it goes on; or its map stands; or there is none
  abbrev pub made_on : Making S → NewMap → Advance Setting → Now K V S → Now K V S
  made_on b machine (progress.Done setting) now = record now { maps = with_at now.maps b.map (Some (setting, b.hasher)); makers = with_at now.makers i None }
  made_on b machine (progress.Refused fault) now = record now { makers = with_at now.makers i None }
  made_on b machine told now = record now { makers = with_at now.makers i (Some (record b { machine = machine })) }

  abbrev pub making_stepped : Making S → Changed → State K V S → Mem (Node K V) × (NewMap × Advance Setting) → State K V S
  making_stepped b changed s p =
      worked (acting.Making b.map) changed (making_deed b.map b.machine p.1.0) (making_outcome p.1.1) (OfMaking p.1.1) (made_on b p.1.0 p.1.1 (record s.now { memory = p.0 })) s

  abbrev pub ending_begun : ℕ → State K V S → Setting × S → State K V S
  ending_begun m s at =
      began (record s.now { maps = with_at s.now.maps m None; enders = with_at s.now.enders i (Some (record { map = m; machine = ending at.0 false })) }) s

  abbrev pub ending_stepped : Ending → Changed → State K V S → Mem (Node K V) × (EndMap × Settled (Node K V)) → State K V S
  ending_stepped f changed s p =
      worked (acting.Ending f.map) changed (ending_deed f p.1.1) (settled_outcome p.1.1) (OfEnding p.1.1)
      (record s.now { memory = p.0; enders = with_at s.now.enders i (ended_on f p.1.0 p.1.1) }) s

-- Rows

-- A section begins by the last step of an entering, of a registering that enters, and of a refreshing; and ends by the first step of a leaving or a refreshing.
abbrev pub registers_as : {K V : Type 0} → Registering → ℕ → Deed K V
registers_as registers.Enter s = Opens s
registers_as _ s = Registers s

abbrev pub leaves_as : {K V : Type 0} → Leave → Leaving → Deed K V
leaves_as c leaves.Swaps = Shuts c.slot
leaves_as c leaves.Over = if c.becomes == ACTIVE then Opens c.slot else Leaves c.slot
leaves_as c _ = Leaves c.slot

abbrev pub row_deed : {K V : Type 0} → SlotRow → Deed K V
row_deed (rows.Registers c) = registers_as c.stands c.slot
row_deed (rows.Enters c) = Opens c.slot
row_deed (rows.Leaves c) = leaves_as c c.stands
row_deed (rows.Flushes c) = Tends c.slot
row_deed (rows.Frees c) = Tends c.slot

abbrev pub row_outcome : {T V : Type 0} → RowTold T → Outcome V
row_outcome rows_tell.Goes = outcome.Goes
row_outcome rows_tell.Waits = outcome.Waits
row_outcome (rows_tell.Gave value) = outcome.Goes
row_outcome rows_tell.Done = outcome.Done
row_outcome (rows_tell.Registered s) = outcome.Slot s
row_outcome (rows_tell.Refused fault) = outcome.Refused fault

-- the row that a request between calls is
abbrev pub slot_call_of : Request → Option SlotCall
slot_call_of (Register' enters) = Some (slot_call.Register enters)
slot_call_of (Enter' s) = Some slot_call.Enter
slot_call_of (Leave' s) = Some slot_call.Leave
slot_call_of (LeaveOwned s) = Some slot_call.LeaveOwned
slot_call_of (Refresh s) = Some slot_call.Refresh
slot_call_of (Flush s) = Some slot_call.Flush
slot_call_of (Unregister' s) = Some slot_call.Unregister
slot_call_of _ = None

-- what the next step of a row comes to
abbrev pub slot_row_steps : {K V : Type 0} → SlotRow → Grant → Mem (Node K V) → Option (Mem (Node K V) × (SlotRow × RowTold (Node K V)))
slot_row_steps (rows.Registers c) g m = option_map (λ p. (p.0, (rows.Registers p.1.0, of_registering p.1.1))) (stepped m g (register_plan c))
slot_row_steps (rows.Enters c) g m = option_map (λ p. (p.0, (rows.Enters p.1.0, of_storing p.1.1))) (stepped m g (enter_plan c))
slot_row_steps (rows.Leaves c) g m = option_map (λ p. (p.0, (rows.Leaves p.1.0, of_settling p.1.1))) (stepped m g (leave_plan deferred_word c))
slot_row_steps (rows.Flushes c) g m = option_map (λ p. (p.0, (rows.Flushes p.1.0, of_settling p.1.1))) (stepped m g (settle_plan deferred_word c))
slot_row_steps (rows.Frees c) g m = option_map (λ p. (p.0, (rows.Frees p.1.0, of_storing p.1.1))) (stepped m g (unregister_plan c))

-- it goes on, unless it has come to its end
abbrev pub row_on : {T : Type 0} → SlotRow → RowTold T → Option SlotRow
row_on after rows_tell.Goes = Some after
row_on after rows_tell.Waits = Some after
row_on after (rows_tell.Gave value) = Some after
row_on after told = None

-- who reclaims all goes on, or is over
abbrev pub all_on : {T : Type 0} → ReclaimAll → Settled T → Option ReclaimAll
all_on c told = if is_over told then None else Some c

module _ {K V S : Type 0} where
  abbrev pub row_begun : ℕ → ℕ → State K V S → SlotCall → State K V S
  row_begun batch_size i s called = began (record s.now { rows = with_at s.now.rows i (Some (begun_row (slot_of i) batch_size called)) }) s

  abbrev pub row_stepped : ℕ → SlotRow → Changed → State K V S → Mem (Node K V) × (SlotRow × RowTold (Node K V)) → State K V S
  row_stepped i row changed s p =
      worked acting.Row changed (row_deed row) (row_outcome p.1.1) Nothing (record s.now { memory = p.0; rows = with_at s.now.rows i (row_on p.1.0 p.1.1) }) s

  -- a choice of a number comes
  abbrev pub choice_come : ℕ → State K V S → State K V S
  choice_come choice s = began (record s.now { memory = memory_chosen choice s.now.memory }) s

  -- who reclaims all begins, and takes a step

  abbrev pub all_begun : ReclaimAll → State K V S → State K V S
  all_begun c s = began (record s.now { all = Some c }) s

  abbrev pub all_stepped : Changed → State K V S → Mem (Node K V) × (ReclaimAll × Settled (Node K V)) → State K V S
  all_stepped changed s p =
      worked acting.Row changed (ReclaimsAll (is_over p.1.1)) (settled_outcome p.1.1) (OfReclaiming p.1.1) (record s.now { memory = p.0; all = all_on p.1.0 p.1.1 }) s

module _ {K V S : Type 0} (same : K → K → Bool) (hash : S → K → ℕ) (batch_size roots : ℕ) (aborts : ℕ → V) where
  -- the steps of what is under way, if it is there and the memory may choose so

  abbrev pub step_call : ℕ → ℕ → Grant → State K V S → Setting × S → Calling K V → Option (State K V S)
  step_call i m g s at c =
      let plan = machine_plan same same (hash at.1) c.machine in
      option_map (call_stepped i m c (changed_of s.now.memory g plan) s) (stepped s.now.memory g plan)

  abbrev pub step_making : ℕ → Grant → State K V S → Making S → Option (State K V S)
  step_making i g s b =
      let plan = new_map_plan {K = K} {V = V} b.machine in
      option_map (making_stepped i b (changed_of s.now.memory g plan) s) (stepped s.now.memory g plan)

  abbrev pub step_ending : ℕ → Grant → State K V S → Ending → Option (State K V S)
  step_ending i g s f =
      let plan = end_map_plan {K = K} {V = V} f.machine in
      option_map (ending_stepped i f (changed_of s.now.memory g plan) s) (stepped s.now.memory g plan)

  abbrev pub step_row : ℕ → Grant → State K V S → SlotRow → Option (State K V S)
  step_row i g s row = option_map (row_stepped i row (row_changed (row_of row) g s.now.memory) s) (slot_row_steps row g s.now.memory)

  abbrev pub step_all : Grant → State K V S → ReclaimAll → Option (State K V S)
  step_all g s c =
      let plan = reclaim_all_plan deferred_word was_left c in
      option_map (all_stepped (changed_of s.now.memory g plan) s) (stepped s.now.memory g plan)

  -- One act, where it may be.
  abbrev pub play_act : Act K V S → State K V S → Option (State K V S)
  play_act (BeginsCall i m wanted) s = option_map (call_begun i m hash (call_for wanted) s) (s.now.maps m)
  play_act (StepsCall i m g) s = then_on (s.now.maps m) (λ at. then_on (s.now.calls m i) (step_call i m g s at))
  play_act (TellsCall i m reply) s = option_map (call_replied i m aborts reply s) (s.now.calls m i)
  play_act (AsksCall i m) s = option_map (call_asked i m s) (s.now.calls m i)
  play_act (StopsCall i m) s = option_map (call_stopped i m s) (s.now.calls m i)
  play_act (BeginsMaking i map hasher given places) s = Some (making_begun i roots map hasher given places s)
  play_act (StepsMaking i g) s = then_on (s.now.makers i) (step_making i g s)
  play_act (BeginsEnding i m) s = option_map (ending_begun i m s) (s.now.maps m)
  play_act (StepsEnding i g) s = then_on (s.now.enders i) (step_ending i g s)
  play_act (BeginsRow i request) s = option_map (row_begun batch_size i s) (slot_call_of request)
  play_act (StepsRow i g) s = then_on (s.now.rows i) (step_row i g s)

  -- what a caller does that reclaims all, and choices
  abbrev pub play : Doing K V S → State K V S → Option (State K V S)
  play (Does act) s = play_act act s
  play (BeginsReclaiming i) s = Some (all_begun (reclaiming_all batch_size roots) s)
  play (BeginsClearing i) s = Some (all_begun (clearing roots) s)
  play (StepsReclaiming g) s = then_on s.now.all (step_all g s)
  play (Chooses choice) s = Some (choice_come choice s)

  -- a list, the newest last
  abbrev pub play_all : List (Doing K V S) → State K V S → Option (State K V S)
  play_all [] s = Some s
  play_all (doing ∷ doings) s = then_on (play doing s) (play_all doings)
