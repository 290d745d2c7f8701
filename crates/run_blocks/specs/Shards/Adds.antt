-- What a machine that is about to count adds, and that it is what a moment of a run says that the call has stored or removed.
use Rattle.std.specs.Prelude.{◌≡◌, ◌==◌, ℕ, cond, List, Option, Some, None}
use Rattle.run_debts.specs.Given.ReservesDeclared.sweep.Sweeping.{Sweeping}
use Rattle.run_debts.specs.Given.ReservesDeclared.sweep.Sweeping.TheVariants as sweeping
use Rattle.run_debts.specs.Given.RawDeclared.machines.call.Calling.{Calling}
use Rattle.run_debts.specs.Given.RawDeclared.machines.call.Calling.TheVariants as calling
use Rattle.run_debts.specs.Given.RawDeclared.machines.machine.Machine.{Machine}
use Rattle.run_debts.specs.Given.RawDeclared.machines.machine.Machine.TheVariants as kinds
use Rattle.run_debts.specs.Given.SchedulesMoment.{UnderWay as CallThere, Moment}
use Rattle.run_debts.specs.Given.SchedulesViews.{call_of}
use Rattle.owner_calls.specs.Given.CallersTogether.{UnderWay}
use Rattle.run_debts.specs.Given.FinishesMachines.{machine_of}
use Rattle.run_debts.specs.Given.ScenesScene.{Scene}

-- a call on one key is about to count the pair of this word, which it has removed, or one that it has stored, if the word is 0
abbrev pub adds_in_calling : Calling → Option ℕ
adds_in_calling (calling.Counts removed) = Some removed
adds_in_calling _ = None

-- a sweep is about to count the one of this word
abbrev pub adds_in_sweeping : Sweeping → Option ℕ
adds_in_sweeping (sweeping.Counts removed) = Some removed
adds_in_sweeping _ = None

-- nothing else ever is
abbrev pub adds_of : {K V Q : Type 0} → Machine K V Q → Option ℕ
adds_of (kinds.Key p) = adds_in_calling p.stands
adds_of (kinds.Sweep c) = adds_in_sweeping c.stands
adds_of (kinds.Reserve r) = None
adds_of (kinds.Count sum) = None

module _ {K V : Type 0} where
  -- the call has gained one pair and lost none, where none was removed, or lost one and gained none
  abbrev pub Adds : ℕ → CallThere K V → Type 0
  Adds removed c = (c.gained ≡ cond (removed == 0) 1 0) × (c.lost ≡ cond (removed == 0) 0 1)

  -- so it is of each call under way whose machine is about to count
  abbrev pub RefinesAdds : (ℕ → List ℕ) → Moment K V → Scene K V → Type 0
  RefinesAdds name m s =
      (of i : ℕ) (u : UnderWay K V K) → s.calls of i ≡ Some u → (removed : ℕ) → adds_of (machine_of u) ≡ Some removed
      → (c : CallThere K V) → call_of (name i) m ≡ Some c → Adds removed c
