-- In which order pairs lie behind tables, at a moment of a run: the list of a table in use is that of the blocks of the pairs that wait behind it, the last one first.
use Rattle.std.specs.Prelude.{◌≡◌, ℕ, Bool, List, map, Option, Some, None}
use Rattle.run_debts.specs.Given.SeizeDeclared.advance.Advance.{Advance}
use Rattle.run_debts.specs.Given.SeizeDeclared.rows.settle.Settled.{Settled}
use Rattle.run_debts.specs.Given.SeizeFurther.{FurtherAre}
use Rattle.run_debts.specs.Given.SeizeWorld.{World, InUse, Begin, Step}
use Rattle.run_debts.specs.Given.TablesNodes.{deferred_word}
use Rattle.run_debts.specs.Given.TablesDeclared.node.Node.{Node}
use Rattle.run_debts.specs.Given.TablesDeclared.setting.Setting.{Setting}
use Rattle.run_debts.specs.Given.RawDeclared.machines.progress.Progress.{Progress as CallTold}
use Rattle.run_debts.specs.Given.RunsDeclared.effect.TableId.{TableId}
use Rattle.run_debts.specs.Given.SchedulesEffects.{with_effects}
use Rattle.run_debts.specs.Given.SchedulesMoment.{Moment, start}
use Rattle.run_debts.specs.Given.SchedulesViews.{behind}
use Rattle.run_debts.specs.Given.CallersTogether.{UnderWay}
use Rattle.run_debts.specs.Given.EffectsEffects.{effects_of, known_after}
use Rattle.run_debts.specs.Given.EffectsKnown.{Known, nothing_known}
use Rattle.run_debts.specs.Given.EffectsDeclared.acting.Acting.TheVariants.{Call, Ending, Making, Row}
use Rattle.run_debts.specs.Given.EffectsDeclared.role.Role.TheVariants as role
use Rattle.run_debts.specs.Given.ScenesDeclared.row.RowTold.{RowTold}
use Rattle.run_debts.specs.Given.ScenesDeclared.row.SlotCall.{SlotCall}
use Rattle.run_debts.specs.Given.ScenesDeclared.row.SlotRow.{SlotRow}
use Rattle.run_debts.specs.Given.FinishesEndings.{Finishing}
use Rattle.run_debts.specs.Given.FinishesMakings.{Beginning}
use Rattle.run_debts.specs.Given.FinishesMaps.{Standing}
use Rattle.run_debts.specs.Given.OthersEndings.{ending_after}
use Rattle.run_debts.specs.Given.OthersMakings.{WasNew}
use Rattle.run_debts.specs.Given.OthersRows.{scene_then}
use Rattle.run_debts.specs.Given.MomentsWhole.{RefinesWhole}
use Rattle.run_debts.specs.Due.{OwnAreMade}
use Rattle.run_debts.specs.Entries.{EntriesAreBlank}
use Rattle.run_debts.specs.Hand.{RefinesObligations}
use Rattle.run_waiting.specs.Lives.Behind.{RefinesWaiting}
use Rattle.run_waiting.specs.Lives.Lying.{RefinesLying}
use Rattle.run_debts.specs.Given.ScenesEnding.{EndingLeads, ending_begun}
use Rattle.run_debts.specs.Given.ScenesHeld.{Held, IsAt}
use Rattle.run_debts.specs.Given.ScenesMaking.{MakingLeads}
use Rattle.run_debts.specs.Given.ScenesOnSlots.{RowBegins, RowLeads}
use Rattle.run_debts.specs.Given.ScenesRows.{request_of}
use Rattle.run_debts.specs.Given.ScenesScene.{IsOnSlot, Scene, at_first, slot_of}
use Rattle.run_debts.specs.Given.ScenesStepping.{StepLeads}

-- the blocks on the list of a table in use are noted, in their order, as the pairs that the moment says wait behind it
abbrev pub RefinesOrder : {K V : Type 0} → Moment K V → Known → World (Node K V) → Type 0
RefinesOrder m known w =
    (c len owner : ℕ) (t : TableId) (blocks : List ℕ) → known.roles c ≡ role.Table t len → w.hand c ≡ InUse owner → FurtherAre deferred_word w.memory c blocks
    → map known.roles blocks ≡ map role.Pair (behind t m.deferred)

-- The promises: so it is before all events,
abbrev pub OrderBegins : Type 0 → Type 0 → Type 0
OrderBegins K V = (roots : ℕ) → RefinesOrder {K = K} {V = V} start nothing_known (at_first {K = K} {V = V} roots).world

-- in the same world where the same pairs wait,
abbrev pub OthersLeaveOrder : Type 0 → Type 0 → Type 0
OthersLeaveOrder K V = (m v : Moment K V) (known : Known) (w : World (Node K V)) → RefinesOrder m known w → v.deferred ≡ m.deferred → RefinesOrder v known w

-- and where the end of a map begins.
abbrev pub EndingsBeginOrder : Type 0 → Type 0 → Type 0
EndingsBeginOrder K V =
    (m : Moment K V) (known : Known) (s : Scene K V) → RefinesOrder m known s.world → (map i : ℕ) (standing : Standing K) → RefinesOrder m known (ending_begun map i standing s).world

module _ (K V : Type 0) (same : K → K → Bool) (hash : ℕ → K → ℕ) where
  -- So it is where a row begins on a slot, and after a step of it,
  abbrev pub RowsBeginOrder : Type 0
  RowsBeginOrder =
      (m : Moment K V) (known : Known) (s : Scene K V) (old new : Held K V) → RefinesOrder m known s.world
      → (called : SlotCall) (i : ℕ) (leads : RowBegins same hash called i s old new)
      → RefinesOrder m known (scene_then same hash (Begin i (request_of (slot_of i) called)) s old new leads.2).world

  abbrev pub RowsPreserveOrder : Type 0
  RowsPreserveOrder =
      (name : ℕ → List ℕ) (m : Moment K V) (known : Known) (s : Scene K V) (old new : Held K V) → IsAt same hash old s → RefinesWhole same name m known s → RefinesOrder m known s.world
      → (i : ℕ) (told : RowTold (Node K V)) (leads : RowLeads same hash i told s old new) (row : SlotRow) (here : IsOnSlot s i row)
      → RefinesOrder (with_effects None None (effects_of Row known new.changed) m) (known_after Row new.changed known) (scene_then same hash (Step i) s old new (leads row here).2).world

  -- after a step of the making of a map, whose table is a new one,
  abbrev pub MakingsPreserveOrder : Type 0
  MakingsPreserveOrder =
      (name : ℕ → List ℕ) (m : Moment K V) (known : Known) (s : Scene K V) (old new : Held K V) → IsAt same hash old s → RefinesWhole same name m known s → OwnAreMade known s.world
      → RefinesWaiting m known s.world → RefinesOrder m known s.world
      → (i : ℕ) (told : Advance Setting) (leads : MakingLeads same hash i told s old new) (b : Beginning K) (here : s.makers i ≡ Some b) (of : Option ℕ) → WasNew b.map told m
      → RefinesOrder (with_effects None of (effects_of (Making b.map) known new.changed) m) (known_after (Making b.map) new.changed known) (leads b here).2.step.w2

  -- of a call, whoever's row it is,
  abbrev pub CallsPreserveOrder : Type 0
  CallsPreserveOrder =
      (name : ℕ → List ℕ) (m : Moment K V) (known : Known) (s : Scene K V) (old new : Held K V) → IsAt same hash old s → RefinesWhole same name m known s
      → EntriesAreBlank s → OwnAreMade known s.world → RefinesObligations name m known s → RefinesWaiting m known s.world → RefinesLying m known s.world → RefinesOrder m known s.world
      → (map i : ℕ) (u : UnderWay K V K) (here : s.calls map i ≡ Some u) (told : CallTold (Node K V)) (leads : StepLeads same hash i told s old new)
      → RefinesOrder (with_effects (Some (name i)) (Some map) (effects_of (Call i map) known new.changed) m) (known_after (Call i map) new.changed known) (leads map u here).4.w2

  -- and of the end of a map.
  abbrev pub EndingsPreserveOrder : Type 0
  EndingsPreserveOrder =
      (name : ℕ → List ℕ) (m : Moment K V) (known : Known) (s : Scene K V) (old new : Held K V) → IsAt same hash old s → RefinesWhole same name m known s → RefinesOrder m known s.world
      → (i : ℕ) (told : Settled (Node K V)) (leads : EndingLeads same hash i told s old new) (f : Finishing K V) (here : s.enders i ≡ Some f) (map : ℕ) → s.maps map ≡ None
      → (let to = leads f here in
      RefinesOrder (with_effects None (Some map) (effects_of (Ending map) known new.changed) m) (known_after (Ending map) new.changed known)
      (ending_after same hash s new i f to.0 to.2.w2 to.2.deed told to.3).world)
