-- What is promised of a walk that is ready: it has as little in hand as a call that has ended.
use Rattle.std.specs.Prelude.{◌≡◌, ℕ, true, false, List, Some, None}
use Rattle.run_debts.specs.Given.RawMachine.{machine_asked}
use Rattle.run_debts.specs.Given.SchedulesMoment.{UnderWay as CallThere, Moment}
use Rattle.run_debts.specs.Given.SchedulesViews.{call_of}
use Rattle.owner_calls.specs.Given.CallersTogether.{UnderWay}
use Rattle.run_debts.specs.Given.EffectsKnown.{Known}
use Rattle.run_debts.specs.Given.FinishesMachines.{machine_of}
use Rattle.run_blocks.specs.Owes.Made.{RefinesMade}
use Rattle.run_blocks.specs.Owes.Short.{RefinesShort}
use Rattle.run_blocks.specs.Owes.Tables.{RefinesOwnTables}
use Rattle.run_debts.specs.Given.ScenesScene.{Scene}

-- It has neither a block for a pair nor a table that it has made, and is short of no growth.
abbrev pub WalksAreClear : Type 0 → Type 0 → Type 0
WalksAreClear K V =
    (name : ℕ → List ℕ) (m : Moment K V) (known : Known) (s : Scene K V) → RefinesMade name m known s → RefinesOwnTables name m known s → RefinesShort name m s
    → (map i : ℕ) (u : UnderWay K V K) → s.calls map i ≡ Some u → (machine_asked (machine_of u)).1 ≡ true
    → (c : CallThere K V) → call_of (name i) m ≡ Some c → (c.has_block ≡ false) × (c.table ≡ None) × (c.is_short ≡ false)
