-- What a step of each machine does that one owner runs.
use Rattle.std.specs.Prelude.{ℕ, Bool, Option, Some, None}
use denote.Ref.{Bor}
use Rattle.seize_words.specs.OneMemory.Plan.{Plan, plan_as}
use Rattle.seize.specs.Leave.{leave_plan}
use Rattle.seize.specs.declared.advance.Advance.{Advance}
use Rattle.seize.specs.declared.advance.Advance.TheVariants as progress
use Rattle.seize.specs.declared.rows.leave.Leave.{Leave}
use Rattle.seize.specs.declared.rows.settle.Settled.{Settled}
use Rattle.seize.specs.declared.rows.settle.Settled.TheVariants as settled
use Rattle.map_tables.specs.declared.node.Node.{Node}
use Rattle.map_tables.specs.declared.trial.Trial.{Trial}
use Rattle.map_straight.specs.Given.ResizeDeclared.yielding.Yielding.{Yielding}
use Rattle.map_straight.specs.Given.ResizeDeclared.yielding.Yielding.TheVariants as outcome
use Rattle.papaya_raw.specs.Given.ReservesReserve.{reserve_plan}
use Rattle.papaya_raw.specs.Given.ReservesDeclared.reserve.Reserve.{Reserve}
use Rattle.papaya_raw.specs.Call.{call_plan}
use Rattle.papaya_raw.specs.declared.machines.answer.Called.{Called}
use Rattle.papaya_raw.specs.declared.machines.answer.Called.TheVariants as called
use Rattle.papaya_raw.specs.declared.machines.call.KeyCall.{KeyCall}
use Rattle.owner_calls.specs.declared.machines.Stop.{Stop}
use Rattle.owner_calls.specs.declared.machines.Stop.TheVariants as stop
use Rattle.owner_calls.specs.declared.machines.OnKey.{OnKey}
use Rattle.owner_calls.specs.declared.machines.ForRoom.{ForRoom}
use Rattle.owner_calls.specs.declared.machines.OwnerRefresh.{OwnerRefresh}

module _ {K V Q S : Type 0} where
  -- after a step of its call, by what that told
  abbrev pub on_key_settled : OnKey K V Q S → Called (Node K V) → OnKey K V Q S × Advance Stop
  on_key_settled u (called.Unstored value) = (record u { unstored = Some value }, progress.Goes)
  on_key_settled u (called.Asks asked) = (u, progress.Done (stop.Asks asked))
  on_key_settled u (called.Done answer) = (u, progress.Done (stop.Answered answer))
  on_key_settled u (called.Refused fault) = (u, progress.Refused fault)
  on_key_settled u _ = (u, progress.Goes)

  abbrev pub on_key_after : OnKey K V Q S → KeyCall K V Q × Called (Node K V) → OnKey K V Q S × Advance Stop
  on_key_after u end = on_key_settled (record u { call = end.0 }) end.1

  abbrev pub on_key_plan : (Q → K → Bool) → (K → K → Bool) → (S → K → ℕ) → OnKey K V Q S → Plan (Node K V) (OnKey K V Q S × Advance Stop)
  on_key_plan asks same hashes u = plan_as (on_key_after u) (call_plan asks same (hashes u.hasher.now) u.call)

-- a call, with the hasher of its map
abbrev pub on_call : {K V Q S : Type 0} → Bor S → KeyCall K V Q → OnKey K V Q S
on_call hasher c = record { call = c; hasher = hasher; unstored = None }

-- the call is at this try
abbrev pub at_trial : {K V Q S : Type 0} → OnKey K V Q S → Trial → OnKey K V Q S
at_trial u trial = record u { call = record u.call { trial = trial } }

abbrev pub for_room_settled : {S T : Type 0} → ForRoom S → Yielding T Unit → ForRoom S × Advance Unit
for_room_settled r (outcome.Done end) = (r, progress.Done end)
for_room_settled r (outcome.Refused fault) = (r, progress.Refused fault)
for_room_settled r _ = (r, progress.Goes)

module _ {K V S : Type 0} where
  -- after a step of its reservation, by what that told
  abbrev pub for_room_after : ForRoom S → Reserve × Yielding (Node K V) Unit → ForRoom S × Advance Unit
  for_room_after r end = for_room_settled (record r { reserve = end.0 }) end.1

  abbrev pub for_room_plan : (S → K → ℕ) → ForRoom S → Plan (Node K V) (ForRoom S × Advance Unit)
  for_room_plan hashes r = plan_as (for_room_after r) (reserve_plan (hashes r.hasher.now) r.reserve)

module _ {T : Type 0} where
  -- after a step of the row, by what that told
  abbrev pub refreshes_settled : OwnerRefresh → Settled T → OwnerRefresh × Advance Unit
  refreshes_settled r settled.Done = (r, progress.Done tt)
  refreshes_settled r _ = (r, progress.Goes)

  abbrev pub refreshes_after : OwnerRefresh → Leave × Settled T → OwnerRefresh × Advance Unit
  refreshes_after r end = refreshes_settled (record { leave = end.0 }) end.1

  abbrev pub refreshes_plan : (T → Option ℕ) → OwnerRefresh → Plan T (OwnerRefresh × Advance Unit)
  refreshes_plan defers r = plan_as (refreshes_after r) (leave_plan defers r.leave)
