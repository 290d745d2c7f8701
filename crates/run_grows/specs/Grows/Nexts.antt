-- For what a copier makes a table: its map has a second table, or had one at a moment since the call began.
use Rattle.std.specs.Prelude.{◌≡◌, ◌≢◌, ◌⊎◌, ℕ, List, Some}
use Rattle.run_finds.specs.Given.ResizeDeclared.new_table.NewTable.{NewTable}
use Rattle.run_schedules.specs.Schedules.Growing.{HasNext}
use Rattle.run_schedules.specs.Schedules.Lists.{OneOf}
use Rattle.run_schedules.specs.Schedules.Moment.{Moment, UnderWay as CallThere}
use Rattle.run_schedules.specs.Schedules.Views.{call_of}
use Rattle.run_finds.specs.Given.CallersTogether.{UnderWay}
use Rattle.run_finds.specs.Given.FinishesMachines.{machine_of}
use Rattle.run_grows.specs.Grows.Further.{MachineMakes}
use Rattle.run_finds.specs.Given.ScenesScene.{Scene}
use Rattle.run_schedules.specs.Schedules.Transition.{Past}

module _ {K V : Type 0} where
  -- it had one at a moment of the log since then, or has one now
  abbrev pub HadNext : ℕ → ℕ → Past K V → Type 0
  HadNext map begun log = OneOf (HasNext map) (log.since begun)

  abbrev pub MayFollow : ℕ → ℕ → Past K V → Moment K V → Type 0
  MayFollow map begun log m = HadNext map begun log ⊎ HasNext map m

  -- so it is of each call whose copier makes a table;
  abbrev pub RefinesNexts : (ℕ → List ℕ) → Past K V → Moment K V → Scene K V → Type 0
  RefinesNexts name log m s =
      (map i : ℕ) (u : UnderWay K V K) → s.calls map i ≡ Some u → (c : CallThere K V) → call_of (name i) m ≡ Some c → MachineMakes (λ (n : NewTable). MayFollow map c.begun log m) (machine_of u)

  -- in the midst of an event of caller i, by the log alone of each other call
  abbrev pub OthersHadNext : (ℕ → List ℕ) → Past K V → ℕ → Moment K V → Scene K V → Type 0
  OthersHadNext name log i m s =
      (map j : ℕ) (u : UnderWay K V K) → s.calls map j ≡ Some u → j ≢ i → (c : CallThere K V) → call_of (name j) m ≡ Some c → MachineMakes (λ (n : NewTable). HadNext map c.begun log) (machine_of u)
