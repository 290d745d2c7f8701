-- The tables that are left over at a moment of a run: each is one of a map whose end is under way, and which that end has not reclaimed.
use Rattle.std.specs.Prelude.{◌≡◌, ◌<◌, ◌≤◌, ℕ, Bool, List, Some, None}
use Rattle.run_debts.specs.Given.SeizeDeclared.advance.Advance.{Advance}
use Rattle.run_debts.specs.Given.SeizeDeclared.rows.settle.Settled.{Settled}
use Rattle.run_debts.specs.Given.SeizeWorld.{LeftTo, Begin, Step, times}
use Rattle.run_debts.specs.Given.TablesDeclared.node.Node.{Node}
use Rattle.run_debts.specs.Given.TablesDeclared.setting.Setting.{Setting}
use Rattle.run_debts.specs.Given.RawDeclared.machines.progress.Progress.{Progress as CallTold}
use Rattle.run_debts.specs.Given.RunsDeclared.effect.TableId.{TableId}
use Rattle.run_debts.specs.Given.SchedulesMoment.{Moment}
use Rattle.run_debts.specs.Given.CallersTogether.{UnderWay}
use Rattle.run_debts.specs.Given.EffectsEffects.{known_after}
use Rattle.run_debts.specs.Given.EffectsKnown.{Known, nothing_known}
use Rattle.run_debts.specs.Given.EffectsDeclared.acting.Acting.TheVariants.{Call, Making, Ending, Row}
use Rattle.run_debts.specs.Given.EffectsDeclared.role.Role.TheVariants as role
use Rattle.run_debts.specs.Given.ScenesDeclared.row.RowTold.{RowTold}
use Rattle.run_debts.specs.Given.ScenesDeclared.row.SlotCall.{SlotCall}
use Rattle.run_debts.specs.Given.ScenesDeclared.row.SlotRow.{SlotRow}
use Rattle.run_debts.specs.Given.FinishesEndings.{Finishing}
use Rattle.run_debts.specs.Given.FinishesMakings.{Beginning}
use Rattle.run_debts.specs.Given.FinishesMaps.{Standing}
use Rattle.run_debts.specs.Given.OthersEndings.{ending_after}
use Rattle.run_debts.specs.Given.OthersRows.{scene_then}
use Rattle.run_debts.specs.Given.MomentsWhole.{RefinesWhole}
use Rattle.run_debts.specs.Due.{OwnAreMade}
use Rattle.run_waiting.specs.Lives.Behind.{NoTableLeft}
use Rattle.run_debts.specs.Given.ScenesEnding.{EndingLeads, ending_begun}
use Rattle.run_debts.specs.Given.ScenesHeld.{Held, IsAt}
use Rattle.run_debts.specs.Given.ScenesMaking.{MakingLeads}
use Rattle.run_debts.specs.Given.ScenesOnSlots.{RowBegins, RowLeads}
use Rattle.run_debts.specs.Given.ScenesRows.{request_of}
use Rattle.run_debts.specs.Given.ScenesScene.{IsOnSlot, Scene, at_first, slot_of}
use Rattle.run_debts.specs.Given.ScenesStepping.{StepLeads, scene_after}

-- the block is a table of the map that this caller ends, which its end is still to reclaim
pub record IsToTake {K V : Type 0} (s : Scene K V) (i b : ℕ) : Type 0 where
  pub f : Finishing K V
  pub ends : s.enders i ≡ Some f
  pub fresh : times b f.back ≡ 0
  pub turn : ℕ
  pub from : f.chart.first ≤ turn
  pub made : turn < f.chart.past
  pub is : b ≡ f.blocks.table turn

-- each table that is left over to a caller is one that its end is to reclaim
abbrev pub RefinesLeft : {K V : Type 0} → Known → Scene K V → Type 0
RefinesLeft known s = (b len : ℕ) (t : TableId) (i : ℕ) → known.roles b ≡ role.Table t len → s.world.hand b ≡ LeftTo i → IsToTake s i b

-- The promises: none is left over before all events,
abbrev pub LeftBegins : Type 0 → Type 0 → Type 0
LeftBegins K V = (roots : ℕ) → RefinesLeft {K = K} {V = V} nothing_known (at_first roots)

-- it is as it was in the same world, with the same ends under way,
abbrev pub OthersPreserveLeft : Type 0 → Type 0 → Type 0
OthersPreserveLeft K V = (known : Known) (s t : Scene K V) → RefinesLeft known s → t.world ≡ s.world → t.enders ≡ s.enders → RefinesLeft known t

-- and where one begins an end who had none under way.
abbrev pub EndingsBeginLeft : Type 0 → Type 0 → Type 0
EndingsBeginLeft K V =
    (known : Known) (s : Scene K V) → RefinesLeft known s → (map i : ℕ) (standing : Standing K) → s.enders i ≡ None → RefinesLeft known (ending_begun map i standing s)

-- So none is left over to who ends no map, and none at all where nobody ends one;
abbrev pub NoneIsLeftTo : Type 0 → Type 0 → Type 0
NoneIsLeftTo K V =
    (known : Known) (s : Scene K V) → RefinesLeft known s → (i : ℕ) → s.enders i ≡ None → (b len : ℕ) (t : TableId) → known.roles b ≡ role.Table t len → s.world.hand b ≡ LeftTo i → ⊥

abbrev pub NoneIsLeft : Type 0 → Type 0 → Type 0
NoneIsLeft K V = (known : Known) (s : Scene K V) → RefinesLeft known s → ((i : ℕ) → s.enders i ≡ None) → NoTableLeft known s.world

-- and where none is, this is so.
abbrev pub WhereNoneIsLeft : Type 0 → Type 0 → Type 0
WhereNoneIsLeft K V = (known : Known) (s : Scene K V) → NoTableLeft known s.world → RefinesLeft known s

module _ (K V : Type 0) (same : K → K → Bool) (hash : ℕ → K → ℕ) where
  -- So it is where a row begins on a slot, and after a step of it,
  abbrev pub RowsBeginLeft : Type 0
  RowsBeginLeft =
      (known : Known) (s : Scene K V) (old new : Held K V) → RefinesLeft known s
      → (called : SlotCall) (i : ℕ) (leads : RowBegins same hash called i s old new)
      → RefinesLeft known (scene_then same hash (Begin i (request_of (slot_of i) called)) s old new leads.2)

  abbrev pub RowsPreserveLeft : Type 0
  RowsPreserveLeft =
      (name : ℕ → List ℕ) (m : Moment K V) (known : Known) (s : Scene K V) (old new : Held K V) → IsAt same hash old s → RefinesWhole same name m known s → RefinesLeft known s
      → (i : ℕ) (told : RowTold (Node K V)) (leads : RowLeads same hash i told s old new) (row : SlotRow) (here : IsOnSlot s i row)
      → RefinesLeft (known_after Row new.changed known) (scene_then same hash (Step i) s old new (leads row here).2)

  -- after a step of the making of a map, and of a call,
  abbrev pub MakingsPreserveLeft : Type 0
  MakingsPreserveLeft =
      (known : Known) (s : Scene K V) (old new : Held K V) → OwnAreMade known s.world → RefinesLeft known s
      → (i : ℕ) (told : Advance Setting) (leads : MakingLeads same hash i told s old new) (b : Beginning K) (here : s.makers i ≡ Some b)
      → RefinesLeft (known_after (Making b.map) new.changed known) (record s { world = (leads b here).2.step.w2 })

  abbrev pub CallsPreserveLeft : Type 0
  CallsPreserveLeft =
      (name : ℕ → List ℕ) (m : Moment K V) (known : Known) (s : Scene K V) (old new : Held K V) → IsAt same hash old s → RefinesWhole same name m known s → OwnAreMade known s.world
      → RefinesLeft known s
      → (map i : ℕ) (u : UnderWay K V K) (here : s.calls map i ≡ Some u) (told : CallTold (Node K V)) (leads : StepLeads same hash i told s old new)
      → (let to = leads map u here in RefinesLeft (known_after (Call i map) new.changed known) (scene_after same s old new map i to.0 u to.1 told to.4))

  -- and of the end of a map, which leaves none over once it is over.
  abbrev pub EndingsPreserveLeft : Type 0
  EndingsPreserveLeft =
      (name : ℕ → List ℕ) (m : Moment K V) (known : Known) (s : Scene K V) (old new : Held K V) → IsAt same hash old s → RefinesWhole same name m known s → RefinesLeft known s
      → (i : ℕ) (told : Settled (Node K V)) (leads : EndingLeads same hash i told s old new) (f : Finishing K V) (here : s.enders i ≡ Some f) (map : ℕ) → s.maps map ≡ None
      → (let to = leads f here in
      RefinesLeft (known_after (Ending map) new.changed known) (ending_after same hash s new i f to.0 to.2.w2 to.2.deed told to.3))
