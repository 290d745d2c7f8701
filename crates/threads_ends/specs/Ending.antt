-- What a seat knows while it ends the map that was its own, and once that is over.
use Rattle.std.specs.Prelude.{◌≡◌, ℕ, Bool, true, false, Some, None}
use Rattle.seize.specs.declared.rows.settle.Settled.{Settled}
use Rattle.seize.specs.declared.rows.settle.Settled.TheVariants as settled
use Rattle.map_tables.specs.declared.node.Node.{Node}
use Rattle.map_tables.specs.declared.setting.Setting.{Setting}
use Rattle.papaya_raw.specs.declared.machines.end_map.EndMap.{EndMap}
use Rattle.threads_steps.specs.Given.ActsLefts.{IsOn, GetsOn}
use Rattle.threads_steps.specs.Given.ViewsBegun.{ending_own}
use Rattle.threads_steps.specs.Given.ViewsRule.{side_of}
use Rattle.threads_steps.specs.Given.ViewsDeclared.view.EndOfMap.{EndOfMap}
use Rattle.threads_steps.specs.Given.ViewsDeclared.view.Map.{Map}
use Rattle.threads_steps.specs.Given.ViewsDeclared.view.View.{View}
use Rattle.threads_steps.specs.Given.ViewsDeclared.view.SeatWork.{SeatWork}
use Rattle.threads_steps.specs.Given.ViewsDeclared.view.SeatWork.TheVariants.{Nothing, Ends}

-- a step has told that all is over
abbrev pub is_done : {T : Type 0} → Settled T → Bool
is_done settled.Done = true
is_done _ = false

module _ {K V S : Type 0} where
  -- it owns a map of this setting
  abbrev pub OwnsWith : Setting → View K V S → Type 0
  OwnsWith setting v = (map : Map S) × (v.own ≡ Some map) × (map.setting ≡ setting)

  -- it begins to end its map, of which so much is left
  abbrev pub BeginsEnding : View K V S → View K V S → Type 0
  BeginsEnding v w = (map : Map S) × (left : ℕ) × (v.own ≡ Some map) × (w ≡ ending_own v map left)

  -- how much is left of the end that is under way, and of the list along which that goes
  abbrev pub left_in : SeatWork K V S → ℕ
  left_in (Ends end) = end.left
  left_in work = 0

  abbrev pub along_in : SeatWork K V S → ℕ
  along_in (Ends end) = end.along
  along_in work = 0

  -- it ends a map by this machine, which is not over
  pub record IsEnding (machine : EndMap) (v : View K V S) : Type 0 where
    pub end : EndOfMap
    pub works : v.work ≡ Ends end
    pub is : end.machine ≡ machine
    pub on : IsOn machine.stands

  -- what a step of the end tells: it goes on, or it is over
  abbrev pub EndedSo : EndMap → Settled (Node K V) → View K V S → Type 0
  EndedSo machine settled.Goes v = IsEnding machine v
  EndedSo machine settled.Waits v = ⊥
  EndedSo machine (settled.Gave value) v = IsEnding machine v
  EndedSo machine settled.Done v = v.work ≡ Nothing

  -- and less is left then
  abbrev pub GetsOnBy : EndMap → EndMap → Settled (Node K V) → View K V S → View K V S → Type 0
  GetsOnBy c d told v w = GetsOn c (d, told) (left_in v.work, along_in v.work) (left_in w.work, along_in w.work)

  -- All else that it knows is as it was.
  pub record StaysElse (v w : View K V S) : Type 0 where
    pub side : side_of w ≡ side_of v
    pub map : w.map ≡ v.map
    pub by : w.by ≡ v.by
    pub own : w.own ≡ v.own
    pub calls : w.calls ≡ v.calls

  -- The end is over: it has nothing under way, and no map of its own any more.
  pub record HasEndedOwn (v w : View K V S) : Type 0 where
    pub free : w.work ≡ Nothing
    pub gone : w.own ≡ None
    pub side : side_of w ≡ side_of v
    pub map : w.map ≡ v.map
    pub by : w.by ≡ v.by
    pub calls : w.calls ≡ v.calls
