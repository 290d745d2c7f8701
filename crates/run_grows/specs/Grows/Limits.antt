-- Where a call can have no further table: one of its map's is as long as a table can be, or has the last turn, or was there at a moment since the call began.
use Rattle.std.specs.Prelude.{◌≡◌, ◌≢◌, ◌⊎◌, ◌<◌, ◌^◌, ℕ, true, List, Some}
use Rattle.run_finds.specs.Given.SeizeWordsDeclared.fault.Fault.{Fault}
use Rattle.run_finds.specs.Given.SeizeWordsDeclared.fault.Fault.TheVariants.{Capacity}
use Rattle.papaya_raw.specs.Given.TablesLengths.{CannotBeFollowed, GoesByTable}
use Rattle.papaya_raw.specs.Given.TablesDeclared.lengths.Reason.{Reason}
use Rattle.papaya_raw.specs.Given.TablesDeclared.table.Table.{Table}
use Rattle.papaya_raw.specs.Given.ReservesReserve.{needed}
use Rattle.papaya_raw.specs.Given.ReservesDeclared.reserve.Reserving.{Reserving}
use Rattle.papaya_raw.specs.declared.machines.machine.Machine.{Machine}
use Rattle.papaya_raw.specs.declared.machines.machine.Machine.TheVariants as kinds
use Rattle.papaya_raw.specs.declared.machines.progress.Progress.{Progress}
use Rattle.papaya_raw.specs.declared.machines.progress.Progress.TheVariants as progress
use Rattle.run_schedules.specs.Schedules.Coming.{is_at_limit}
use Rattle.run_schedules.specs.Schedules.Lists.{OneOf}
use Rattle.run_schedules.specs.Schedules.Moment.{Moment, UnderWay as CallThere}
use Rattle.run_schedules.specs.Schedules.Views.{call_of}
use Rattle.run_finds.specs.Given.LateFaults.{HoldsInCalling, HoldsInReserving, HoldsInSweeping}
use Rattle.run_finds.specs.Given.CallersTogether.{UnderWay}
use Rattle.run_finds.specs.Given.FinishesMachines.{machine_of}
use Rattle.run_finds.specs.Given.ScenesScene.{Scene}
use Rattle.run_schedules.specs.Schedules.Transition.{Past}

-- a call is refused for the length of a table for this alone,
abbrev pub IsFor : Type 0 → Fault → Type 0
IsFor Why fault = fault ≡ Capacity → Why

-- and so it is where it is to put one behind another that none can follow
abbrev pub IsForDeferral : Type 0 → Table → Reason → Type 0
IsForDeferral Why before reason = GoesByTable reason × (CannotBeFollowed before.len before.turn → Why)

-- so many further pairs need more places than a table can have, however few are there
abbrev pub NeedsMore : ℕ → Type 0
NeedsMore additional = 2 ^ 48 < needed additional 0

abbrev pub RoomEnds : Type 0 → Reserving → Type 0
RoomEnds Why p = HoldsInReserving (IsFor Why) (IsForDeferral Why) p

-- so it is of a call, whichever it is, wherever it stands,
abbrev pub MachineEnds : {K V Q : Type 0} → Type 0 → Machine K V Q → Type 0
MachineEnds Why (kinds.Key p) = HoldsInCalling (IsFor Why) (IsForDeferral Why) p.trial.table p.stands
MachineEnds Why (kinds.Reserve r) = RoomEnds (Why ⊎ NeedsMore r.additional) r.stands
MachineEnds Why (kinds.Sweep c) = HoldsInSweeping (IsFor Why) (IsForDeferral Why) c.stands
MachineEnds Why (kinds.Count sum) = Unit {0}

-- and of what it says
abbrev pub SaysFor : {T : Type 0} → Type 0 → Progress T → Type 0
SaysFor Why (progress.Refused fault) = IsFor Why fault
SaysFor Why _ = Unit {0}

module _ {K V : Type 0} where
  abbrev pub IsAtLimit : ℕ → Moment K V → Type 0
  IsAtLimit map m = is_at_limit map m ≡ true

  -- it was so at a moment of the log since then, or is so now
  abbrev pub HadLimit : ℕ → ℕ → Past K V → Type 0
  HadLimit map begun log = OneOf (IsAtLimit map) (log.since begun)

  abbrev pub HasLimit : ℕ → ℕ → Past K V → Moment K V → Type 0
  HasLimit map begun log m = HadLimit map begun log ⊎ IsAtLimit map m

  -- so it is of each call that is under way;
  abbrev pub RefinesLimits : (ℕ → List ℕ) → Past K V → Moment K V → Scene K V → Type 0
  RefinesLimits name log m s =
      (map i : ℕ) (u : UnderWay K V K) → s.calls map i ≡ Some u → (c : CallThere K V) → call_of (name i) m ≡ Some c → MachineEnds (HasLimit map c.begun log m) (machine_of u)

  -- in the midst of an event of caller i, by the log alone of each other call
  abbrev pub OthersHadLimit : (ℕ → List ℕ) → Past K V → ℕ → Moment K V → Scene K V → Type 0
  OthersHadLimit name log i m s =
      (map j : ℕ) (u : UnderWay K V K) → s.calls map j ≡ Some u → j ≢ i → (c : CallThere K V) → call_of (name j) m ≡ Some c → MachineEnds (HadLimit map c.begun log) (machine_of u)
