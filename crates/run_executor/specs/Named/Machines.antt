-- The machine of a call, what it is told, and that it is as far as is seen.
use Rattle.std.specs.Prelude.{◌≡◌, ℕ, Option, Some, None}
use Rattle.papaya_raw.specs.Given.TablesDeclared.setting.Setting.{Setting}
use Rattle.papaya_raw.specs.CallAsks.{computing, updating, updating_or_inserting, trying_to_insert_with, removing_if}
use Rattle.papaya_raw.specs.CallPoints.{getting, removing, inserting, trying_to_insert}
use Rattle.papaya_raw.specs.declared.machines.asking.Told.TheVariants.{Nothing, Value}
use Rattle.papaya_raw.specs.declared.machines.call.KeyCall.{KeyCall}
use Rattle.papaya_raw.specs.declared.machines.machine.Machine.{Machine}
use Rattle.papaya_raw.specs.declared.machines.machine.Machine.TheVariants as kinds
use Rattle.run_places.specs.Given.ResizeSum.{summing}
use Rattle.papaya_raw.specs.Given.ReservesReserve.{reserving}
use Rattle.papaya_raw.specs.Given.SweepsSweepPoints.{sweeping}
use Rattle.papaya_raw.specs.Given.ReservesDeclared.sweep.Purpose.{Purpose}
use Rattle.papaya_raw.specs.Given.ReservesDeclared.sweep.Purpose.TheVariants.{Walks, Clears, Retains}
use Rattle.papaya_raw.specs.Given.ReservesDeclared.sweep.Sweep.{Sweep}
use Rattle.papaya_raw.specs.Given.ReservesDeclared.sweep.Sweeping.{Sweeping}
use Rattle.papaya_raw.specs.Given.ReservesDeclared.sweep.Sweeping.TheVariants as at
use Rattle.run_places.specs.Given.LateFaults.{RoomInReserving, RoomInSweeping}
use Rattle.run_schedules.specs.declared.call.Call.{Call}
use Rattle.run_schedules.specs.declared.call.Call.TheVariants.{On, Reserve, Clear, Retain, Len, Walk}
use Rattle.run_schedules.specs.declared.call.OneKey.{OneKey}
use Rattle.run_schedules.specs.declared.call.OneKey.TheVariants.{Get, GetKeyValue, ContainsKey, Insert, TryInsert, TryInsertWith, GetOrInsert, GetOrInsertWith, Update, UpdateOrInsert, UpdateOrInsertWith, Compute, Remove, RemoveEntry, RemoveIf}
use Rattle.run_schedules.specs.declared.call.Reply.{Reply}
use Rattle.run_schedules.specs.declared.call.Reply.TheVariants.{Aborts}
use Rattle.run_executor.specs.declared.caller.Stands.{Stands as HowFar}
use Rattle.run_executor.specs.declared.caller.Stands.TheVariants as far
use Rattle.run_executor.specs.declared.kind.CallKind.{CallKind}
use Rattle.run_executor.specs.declared.kind.CallKind.TheVariants as kind

module _ {K V : Type 0} (setting : Setting) (hash : K → ℕ) where
  -- the machine with which a call begins
  abbrev pub machine_on : OneKey K V → KeyCall K V K
  machine_on (Get k) = getting setting (hash k) k
  machine_on (GetKeyValue k) = getting setting (hash k) k
  machine_on (ContainsKey k) = getting setting (hash k) k
  machine_on (Insert k v) = inserting setting (hash k) k v
  machine_on (TryInsert k v) = trying_to_insert setting (hash k) k v
  machine_on (TryInsertWith k) = trying_to_insert_with setting (hash k) k
  machine_on (GetOrInsert k v) = trying_to_insert setting (hash k) k v
  machine_on (GetOrInsertWith k) = trying_to_insert_with setting (hash k) k
  machine_on (Update k) = updating setting (hash k) k
  machine_on (UpdateOrInsert k v) = updating_or_inserting setting (hash k) k (Value v)
  machine_on (UpdateOrInsertWith k) = updating_or_inserting setting (hash k) k Nothing
  machine_on (Compute k) = computing setting (hash k) k
  machine_on (Remove k) = removing setting (hash k) k
  machine_on (RemoveEntry k) = removing setting (hash k) k
  machine_on (RemoveIf k) = removing_if setting (hash k) k

  abbrev pub machine_for : Call K V → Machine K V K
  machine_for (On one) = kinds.Key (machine_on one)
  machine_for (Reserve additional) = kinds.Reserve (reserving setting additional)
  machine_for Clear = kinds.Sweep (sweeping setting Clears)
  machine_for Retain = kinds.Sweep (sweeping setting Retains)
  machine_for Len = kinds.Count (summing setting)
  machine_for Walk = kinds.Sweep (sweeping setting Walks)

-- what a closure aborts with
abbrev pub aborted_by : {V : Type 0} → Reply V → Option V
aborted_by (Aborts v) = Some v
aborted_by _ = None

-- what a sweep is for, by its call
abbrev pub IsFor : CallKind → Purpose → Type 0
IsFor kind.Clears purpose = purpose ≡ Clears
IsFor kind.Retains purpose = purpose ≡ Retains
IsFor kind.Walks purpose = purpose ≡ Walks
IsFor _ purpose = ⊥

-- it goes over no table yet
abbrev pub IsBefore : Sweeping → Type 0
IsBefore at.Reads = Unit {0}
IsBefore at.Follows = Unit {0}
IsBefore (at.Copies copier) = Unit {0}
IsBefore _ = ⊥

-- where a sweep stands: a walk that goes on has come to no pair yet, a retaining asks, and one that shows pairs is ready
abbrev pub SweepIsAt : HowFar → Sweep → Type 0
SweepIsAt far.Goes sweep = sweep.purpose ≡ Walks → IsBefore sweep.stands
SweepIsAt (far.Asks question) sweep = (word : ℕ) × (sweep.stands ≡ at.Asks word) × (sweep.purpose ≡ Retains)
SweepIsAt far.Ready sweep = sweep.stands ≡ at.Ready

-- A machine is that of its call, and as far. Of a call on one key that asks, the moment says where it stands; other calls neither ask nor show.
abbrev pub IsAsFar : {K V : Type 0} → CallKind → HowFar → Machine K V K → Type 0
IsAsFar kind how (kinds.Sweep sweep) = IsFor kind sweep.purpose × SweepIsAt how sweep
IsAsFar kind far.Ready machine = ⊥
IsAsFar kind (far.Asks question) (kinds.Key call) = Unit {0}
IsAsFar kind (far.Asks question) machine = ⊥
IsAsFar kind far.Goes machine = Unit {0}

-- what it comes to be refused for, where its call is on no key, is room
abbrev pub RefusedForRoom : {K V : Type 0} → Machine K V K → Type 0
RefusedForRoom (kinds.Reserve reserve) = RoomInReserving reserve.stands
RefusedForRoom (kinds.Sweep sweep) = RoomInSweeping sweep.stands
RefusedForRoom machine = Unit {0}
