-- What a call on one key has met at the tries of its table: each place was taken, now or at a moment since the call began, and a pair was met where one lay there; unless the table is the last one no more.
use Rattle.std.specs.Prelude.{◌≡◌, ◌≢◌, ◌⊎◌, ◌+◌, ◌<◌, ◌≤◌, ℕ, zero, suc, List, Some}
use Rattle.papaya_raw.specs.declared.machines.asking.Asking.{Asking}
use Rattle.papaya_raw.specs.declared.machines.asking.Asking.TheVariants as asking
use Rattle.papaya_raw.specs.declared.machines.asking.Gap.{Gap}
use Rattle.papaya_raw.specs.declared.machines.asking.Gap.TheVariants as gaps
use Rattle.papaya_raw.specs.declared.machines.call.Calling.{Calling}
use Rattle.papaya_raw.specs.declared.machines.call.Calling.TheVariants as at
use Rattle.papaya_raw.specs.declared.machines.call.KeyCall.{KeyCall}
use Rattle.papaya_raw.specs.declared.machines.machine.Machine.{Machine}
use Rattle.papaya_raw.specs.declared.machines.machine.Machine.TheVariants as kinds
use Rattle.run_schedules.specs.declared.effect.Spot.{Spot}
use Rattle.run_schedules.specs.Schedules.Lists.{OneOf}
use Rattle.run_schedules.specs.Schedules.Moment.{Moment, UnderWay as CallThere}
use Rattle.run_schedules.specs.Schedules.Tries.{try_at, FindsTaken}
use Rattle.run_schedules.specs.Schedules.Views.{call_of}
use Rattle.run_finds.specs.Given.CallersTogether.{UnderWay}
use Rattle.run_finds.specs.Given.FinishesMachines.{machine_of}
use Rattle.run_finds.specs.Within.{many_of}
use Rattle.run_finds.specs.Given.ScenesScene.{Scene}
use Rattle.run_schedules.specs.Schedules.Transition.{Past}
use Rattle.std.specs.List.{AllByRecursion}

-- By what is so of a place and of so many pairs there:
module _ (Why : Spot × ℕ → Type 0) where
  -- the first so many tries of a hash in a table of a turn and a length meet so many pairs
  abbrev pub MeetsBy : ℕ → ℕ → ℕ → ℕ → ℕ → Type 0
  MeetsBy turn len hash zero met = met ≡ 0
  MeetsBy turn len hash (suc try) met = (before : ℕ) × (pairs : ℕ) × MeetsBy turn len hash try before × Why (try_at turn len hash try, pairs) × (met ≡ before + pairs)

  module _ {K V Q : Type 0} (p : KeyCall K V Q) where
    -- a call has met what so many tries meet
    abbrev pub HasTried : ℕ → Type 0
    HasTried tries = (p.trial.met ≤ tries) × MeetsBy p.trial.table.turn p.trial.table.len p.hash tries p.trial.met

    -- at a try those before it, and then all of its table
    abbrev pub TriedAtGap : Gap → Type 0
    TriedAtGap gaps.NoTable = Unit {0}
    TriedAtGap gaps.Free = HasTried p.trial.probe.len
    TriedAtGap gaps.Past = HasTried (suc p.trial.table.limit)
    TriedAtGap gaps.Last = HasTried (suc p.trial.table.limit)

    abbrev pub TriedAsking : Asking → Type 0
    TriedAsking (asking.Absent gap) = TriedAtGap gap
    TriedAsking (asking.Present word) = HasTried p.trial.probe.len
    TriedAsking (asking.Fills word) = HasTried p.trial.probe.len
    TriedAsking (asking.GivesUp word) = HasTried p.trial.probe.len

    abbrev pub TriedAt : Calling → Type 0
    TriedAt at.Probes = HasTried p.trial.probe.len
    TriedAt (at.Tries word new) = HasTried p.trial.probe.len
    TriedAt (at.Asks asking) = TriedAsking asking
    TriedAt at.Nexts = HasTried (suc p.trial.table.limit)
    TriedAt (at.Allocs making) = HasTried (suc p.trial.table.limit)
    TriedAt _ = Unit {0}

  -- so it is of a machine
  abbrev pub MachineTried : {K V Q : Type 0} → Machine K V Q → Type 0
  MachineTried (kinds.Key p) = TriedAt p p.stands
  MachineTried _ = Unit {0}

module _ {K V : Type 0} where
  -- at a moment the place is taken, and so many pairs lie there, or its table is not the last one of the map
  abbrev pub TakenOrPassed : ℕ → Spot × ℕ → Moment K V → Type 0
  TakenOrPassed map x m = FindsTaken map x.0 m x.1 ⊎ (suc x.0.turn < many_of map m)

  -- no map had more tables at any of the moments since an entry than at the last one
  abbrev pub TablesLast : Past K V → Type 0
  TablesLast log = (begun : ℕ) → AllByRecursion (λ v. (map : ℕ) → many_of map v ≤ many_of map log.now) (log.since begun)

  -- so it was at a moment of the log since the call began, or is so now
  abbrev pub HadTaken : ℕ → ℕ → Past K V → Spot × ℕ → Type 0
  HadTaken map begun log x = OneOf (TakenOrPassed map x) (log.since begun)

  abbrev pub HasTaken : ℕ → ℕ → Past K V → Moment K V → Spot × ℕ → Type 0
  HasTaken map begun log m x = HadTaken map begun log x ⊎ TakenOrPassed map x m

  -- so it is of each call that is under way;
  abbrev pub RefinesTries : (ℕ → List ℕ) → Past K V → Moment K V → Scene K V → Type 0
  RefinesTries name log m s =
      (map i : ℕ) (u : UnderWay K V K) → s.calls map i ≡ Some u → (c : CallThere K V) → call_of (name i) m ≡ Some c → MachineTried (HasTaken map c.begun log m) (machine_of u)

  -- in the midst of an event of caller i, by the log alone of each other call
  abbrev pub OthersHadTried : (ℕ → List ℕ) → Past K V → ℕ → Moment K V → Scene K V → Type 0
  OthersHadTried name log i m s =
      (map j : ℕ) (u : UnderWay K V K) → s.calls map j ≡ Some u → j ≢ i → (c : CallThere K V) → call_of (name j) m ≡ Some c → MachineTried (HadTaken map c.begun log) (machine_of u)
