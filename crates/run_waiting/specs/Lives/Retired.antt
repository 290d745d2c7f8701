-- The tables that the collector has at a moment of a run: each is told to be retired, or the row of a call is to retire it.
use Rattle.std.specs.Prelude.{◌≡◌, ◌≢◌, ◌⊎◌, ℕ, Bool, true, List, Option, Some, None}
use Rattle.run_debts.specs.Given.SeizeWordsWord.{block_in}
use Rattle.run_debts.specs.Given.SeizeDeclared.advance.Advance.{Advance}
use Rattle.run_debts.specs.Given.SeizeDeclared.rows.settle.Settled.{Settled}
use Rattle.run_debts.specs.Given.SeizeWorld.{Row, Settles, Rests, Handed, Begin, Step}
use Rattle.run_debts.specs.Given.TablesDeclared.node.Node.{Node}
use Rattle.run_debts.specs.Given.TablesDeclared.setting.Setting.{Setting}
use Rattle.run_debts.specs.Given.RawDeclared.machines.progress.Progress.{Progress as CallTold}
use Rattle.run_debts.specs.Given.RunsDeclared.effect.TableId.{TableId}
use Rattle.run_debts.specs.Given.SchedulesEffects.{with_effects, AtEachEffect}
use Rattle.run_debts.specs.Given.SchedulesMoment.{Moment, start}
use Rattle.run_debts.specs.Given.SchedulesViews.{is_stage, is_retired}
use Rattle.run_debts.specs.Given.CallersTogether.{UnderWay}
use Rattle.run_debts.specs.Given.EffectsEffects.{effects_of, known_after}
use Rattle.run_debts.specs.Given.EffectsKnown.{Known, nothing_known}
use Rattle.run_debts.specs.Given.EffectsDeclared.acting.Acting.TheVariants.{Call, Making, Ending, Row as OfRow}
use Rattle.run_debts.specs.Given.EffectsDeclared.role.Role.TheVariants as role
use Rattle.run_debts.specs.Given.ScenesDeclared.row.RowTold.{RowTold}
use Rattle.run_debts.specs.Given.ScenesDeclared.row.SlotCall.{SlotCall}
use Rattle.run_debts.specs.Given.ScenesDeclared.row.SlotRow.{SlotRow}
use Rattle.run_debts.specs.Given.FinishesEndings.{Finishing}
use Rattle.run_debts.specs.Given.FinishesMakings.{Beginning}
use Rattle.run_debts.specs.Given.FinishesMaps.{Standing}
use Rattle.run_debts.specs.Given.OthersEndings.{ending_after}
use Rattle.run_debts.specs.Given.OthersMakings.{WasNew}
use Rattle.run_debts.specs.Given.OthersRows.{scene_then}
use Rattle.run_debts.specs.Given.MomentsOnSlots.{HadRetired}
use Rattle.run_debts.specs.Given.MomentsWhole.{RefinesWhole}
use Rattle.run_debts.specs.Due.{RowObligation, ToRetire, due_in_settle, OwnAreMade}
use Rattle.run_debts.specs.Entries.{EntriesAreBlank}
use Rattle.run_debts.specs.Given.ScenesEnding.{EndingLeads, ending_begun}
use Rattle.run_debts.specs.Given.ScenesHeld.{Held, IsAt}
use Rattle.run_debts.specs.Given.ScenesMaking.{MakingLeads}
use Rattle.run_debts.specs.Given.ScenesOnSlots.{RowBegins, RowLeads}
use Rattle.run_debts.specs.Given.ScenesRows.{request_of}
use Rattle.run_debts.specs.Given.ScenesScene.{HasCall, IsOnSlot, Scene, at_first, slot_of}
use Rattle.run_debts.specs.Given.ScenesStepping.{StepLeads, scene_after}

-- this block is the one to be retired
abbrev pub IsPendingRetirement : ℕ → Option RowObligation → Type 0
IsPendingRetirement b (Some (ToRetire word)) = block_in word ≡ b
IsPendingRetirement b _ = ⊥

-- the row is to retire this block, and has not told its batch of it
abbrev pub IsToRetire : ℕ → Row → Type 0
IsToRetire b (Settles c) = IsPendingRetirement b (due_in_settle c c.stands)
IsToRetire b _ = ⊥

-- Each block of a table that the collector has is of one that is told to be retired, or the row within a call is to retire it. A table has a place.
pub record RefinesRetiredTables {K V : Type 0} (m : Moment K V) (known : Known) (s : Scene K V) : Type 0 where
  pub tables : (b len : ℕ) (t : TableId) → known.roles b ≡ role.Table t len → s.world.hand b ≡ Handed
      → (is_stage is_retired t m ≡ true) ⊎ ((i : ℕ) × HasCall s i × IsToRetire b (s.world.row i))
  pub lengths : (b len : ℕ) (t : TableId) → known.roles b ≡ role.Table t len → len ≢ 0

-- whoever has a call under way has one still, or its row is over
abbrev pub CallsStay : {K V : Type 0} → Scene K V → Scene K V → Type 0
CallsStay s t = (i : ℕ) → HasCall s i → HasCall t i ⊎ (t.world.row i ≡ Rests)

-- The promises: the collector has nothing before all events,
abbrev pub RetiredBegins : Type 0 → Type 0 → Type 0
RetiredBegins K V = (roots : ℕ) → RefinesRetiredTables {K = K} {V = V} start nothing_known (at_first roots)

-- it is as it was where no table and no block changes, as where a call begins, is told something or comes to an outcome, and where a map comes or is there no more,
abbrev pub OthersLeaveRetired : Type 0 → Type 0 → Type 0
OthersLeaveRetired K V = (m v : Moment K V) (known : Known) (s t : Scene K V) → RefinesRetiredTables m known s → v.tables ≡ m.tables → t.world ≡ s.world → CallsStay s t → RefinesRetiredTables v known t

-- and where the end of a map begins.
abbrev pub EndingsBeginRetired : Type 0 → Type 0 → Type 0
EndingsBeginRetired K V = (m : Moment K V) (known : Known) (s : Scene K V) → RefinesRetiredTables m known s → (map i : ℕ) (standing : Standing K) → RefinesRetiredTables m known (ending_begun map i standing s)

module _ (K V : Type 0) (same : K → K → Bool) (hash : ℕ → K → ℕ) where
  -- So it is where a row begins on a slot,
  abbrev pub RowsBeginRetired : Type 0
  RowsBeginRetired =
      (m : Moment K V) (known : Known) (s : Scene K V) (old new : Held K V) → IsAt same hash old s → RefinesRetiredTables m known s
      → (called : SlotCall) (i : ℕ) (leads : RowBegins same hash called i s old new)
      → RefinesRetiredTables m known (scene_then same hash (Begin i (request_of (slot_of i) called)) s old new leads.2)

  -- and after a step of it.
  abbrev pub RowsPreserveRetired : Type 0
  RowsPreserveRetired =
      (name : ℕ → List ℕ) (m : Moment K V) (known : Known) (s : Scene K V) (old new : Held K V) → IsAt same hash old s → RefinesWhole same name m known s → RefinesRetiredTables m known s
      → (i : ℕ) (told : RowTold (Node K V)) (leads : RowLeads same hash i told s old new) (row : SlotRow) (here : IsOnSlot s i row)
      → RefinesRetiredTables (with_effects None None (effects_of OfRow known new.changed) m) (known_after OfRow new.changed known) (scene_then same hash (Step i) s old new (leads row here).2)

  -- A table that it reclaims was retired.
  abbrev pub RowsFindRetired : Type 0
  RowsFindRetired =
      (name : ℕ → List ℕ) (m : Moment K V) (known : Known) (s : Scene K V) (old new : Held K V) → IsAt same hash old s → RefinesWhole same name m known s → RefinesRetiredTables m known s
      → (i : ℕ) (told : RowTold (Node K V)) → RowLeads same hash i told s old new → (row : SlotRow) → IsOnSlot s i row
      → AtEachEffect HadRetired None None (effects_of OfRow known new.changed) m

  -- And it is so after each step of the making of a map,
  abbrev pub MakingsPreserveRetired : Type 0
  MakingsPreserveRetired =
      (name : ℕ → List ℕ) (m : Moment K V) (known : Known) (s : Scene K V) (old new : Held K V) → IsAt same hash old s → RefinesWhole same name m known s → OwnAreMade known s.world → RefinesRetiredTables m known s
      → (i : ℕ) (told : Advance Setting) (leads : MakingLeads same hash i told s old new) (b : Beginning K) (here : s.makers i ≡ Some b) (of : Option ℕ) → WasNew b.map told m
      → RefinesRetiredTables (with_effects None of (effects_of (Making b.map) known new.changed) m) (known_after (Making b.map) new.changed known) (record s { world = (leads b here).2.step.w2 })

  -- and of a call, of its row, too.
  abbrev pub CallsPreserveRetired : Type 0
  CallsPreserveRetired =
      (name : ℕ → List ℕ) (m : Moment K V) (known : Known) (s : Scene K V) (old new : Held K V) → IsAt same hash old s → RefinesWhole same name m known s
      → EntriesAreBlank s → OwnAreMade known s.world → RefinesRetiredTables m known s
      → (map i : ℕ) (u : UnderWay K V K) (here : s.calls map i ≡ Some u) (told : CallTold (Node K V)) (leads : StepLeads same hash i told s old new)
      → (let to = leads map u here in
      RefinesRetiredTables (with_effects (Some (name i)) (Some map) (effects_of (Call i map) known new.changed) m) (known_after (Call i map) new.changed known)
      (scene_after same s old new map i to.0 u to.1 told to.4))

  -- And of the end of a map, which does not stand then.
  abbrev pub EndingsPreserveRetired : Type 0
  EndingsPreserveRetired =
      (name : ℕ → List ℕ) (m : Moment K V) (known : Known) (s : Scene K V) (old new : Held K V) → IsAt same hash old s → RefinesWhole same name m known s → RefinesRetiredTables m known s
      → (i : ℕ) (told : Settled (Node K V)) (leads : EndingLeads same hash i told s old new) (f : Finishing K V) (here : s.enders i ≡ Some f) (map : ℕ) → s.maps map ≡ None
      → (let to = leads f here in
      RefinesRetiredTables (with_effects None (Some map) (effects_of (Ending map) known new.changed) m) (known_after (Ending map) new.changed known)
      (ending_after same hash s new i f to.0 to.2.w2 to.2.deed told to.3))
