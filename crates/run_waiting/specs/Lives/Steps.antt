-- How steps lead on from what waits behind tables: it waits there still, and none of it is reclaimed before the table is.
use Rattle.std.specs.Prelude.{◌≡◌, ℕ, Bool, List, Option, Some, None}
use Rattle.run_debts.specs.Given.SeizeDeclared.advance.Advance.{Advance}
use Rattle.run_debts.specs.Given.SeizeDeclared.rows.settle.Settled.{Settled}
use Rattle.run_debts.specs.Given.SeizeWorld.{World, Event, Begin, Step, Runs}
use Rattle.run_debts.specs.Given.TablesNodes.{deferred_word}
use Rattle.run_debts.specs.Given.TablesDeclared.node.Node.{Node}
use Rattle.run_debts.specs.Given.TablesDeclared.setting.Setting.{Setting}
use Rattle.run_debts.specs.Given.RawDeclared.machines.progress.Progress.{Progress as CallTold}
use Rattle.run_debts.specs.Given.RunsDeclared.effect.Effect.{Effect}
use Rattle.run_debts.specs.Given.SchedulesEffects.{with_effects, AtEachEffect}
use Rattle.run_debts.specs.Given.RunsDeclared.effect.TableId.{TableId}
use Rattle.run_debts.specs.Given.SchedulesMoment.{Behind, Moment, start}
use Rattle.run_debts.specs.Given.RuleInWorld.{AllUsers}
use Rattle.run_debts.specs.Given.CallersTogether.{CameAbout, UnderWay}
use Rattle.run_debts.specs.Given.EffectsEffects.{effects_of, known_after}
use Rattle.run_debts.specs.Given.EffectsKnown.{Known, nothing_known}
use Rattle.run_debts.specs.Given.EffectsDeclared.acting.Acting.TheVariants.{Call, Ending, Making, Row}
use Rattle.run_debts.specs.Given.EffectsDeclared.role.Role.TheVariants as role
use Rattle.run_debts.specs.Given.ScenesDeclared.row.RowTold.{RowTold}
use Rattle.run_debts.specs.Given.ScenesDeclared.row.SlotCall.{SlotCall}
use Rattle.run_debts.specs.Given.ScenesDeclared.row.SlotRow.{SlotRow}
use Rattle.run_debts.specs.Given.FinishesEndings.{Finishing}
use Rattle.run_debts.specs.Given.FinishesMakings.{Beginning}
use Rattle.run_debts.specs.Given.FinishesMaps.{Standing}
use Rattle.run_debts.specs.Given.FollowsSteps.{IsOfNoRow}
use Rattle.run_debts.specs.Given.OthersEndings.{ending_after}
use Rattle.run_debts.specs.Given.OthersMakings.{WasNew}
use Rattle.run_debts.specs.Given.OthersRows.{scene_then}
use Rattle.run_debts.specs.Given.SpotsOnSlots.{WaitUnreclaimed}
use Rattle.run_debts.specs.Given.MomentsEndings.{WaitsOn}
use Rattle.run_debts.specs.Given.MomentsWhole.{RefinesWhole}
use Rattle.run_waiting.specs.Lives.Behind.{IsDeferredTo, RefinesWaiting, WaitsOnce}
use Rattle.run_debts.specs.Given.ScenesEnding.{EndingLeads, ending_begun}
use Rattle.run_debts.specs.Given.ScenesHeld.{Held, IsAt}
use Rattle.run_debts.specs.Given.ScenesMaking.{MakingLeads}
use Rattle.run_debts.specs.Given.ScenesOnSlots.{RowBegins, RowLeads}
use Rattle.run_debts.specs.Given.ScenesRows.{request_of}
use Rattle.run_debts.specs.Given.ScenesScene.{IsOnSlot, Scene, at_first, slot_of}
use Rattle.run_debts.specs.Given.ScenesStepping.{StepLeads}

-- The promises: nothing waits before all events,
abbrev pub WaitingBegins : Type 0 → Type 0 → Type 0
WaitingBegins K V = (roots : ℕ) → RefinesWaiting {K = K} {V = V} start nothing_known (at_first {K = K} {V = V} roots).world

-- it is as it was where the same pairs wait, and pairs are where they were, as where a call begins, is told something or comes to an outcome, and where a map comes or
-- is there no more,
abbrev pub OthersLeaveWaiting : Type 0 → Type 0 → Type 0
OthersLeaveWaiting K V =
    (m v : Moment K V) (known : Known) (w : World (Node K V)) → RefinesWaiting m known w → v.deferred ≡ m.deferred → v.place ≡ m.place → RefinesWaiting v known w

-- and where the end of a map begins.
abbrev pub EndingsBeginWaiting : Type 0 → Type 0 → Type 0
EndingsBeginWaiting K V =
    (m : Moment K V) (known : Known) (s : Scene K V) → RefinesWaiting m known s.world → (map i : ℕ) (standing : Standing K) → RefinesWaiting m known (ending_begun map i standing s).world

-- Whatever happens next, nothing is reclaimed that waits behind a table which is reclaimed, or ends with its map.
abbrev pub EffectsFindWaiting : Type 0 → Type 0 → Type 0
EffectsFindWaiting K V = (m : Moment K V) (known : Known) (s : Scene K V) → RefinesWaiting m known s.world → (f : Effect) → WaitUnreclaimed m f × WaitsOn m f

-- And so it is after whatever users do, none of it a row's, where the same pairs wait, what is told to be behind a table is told so still, and blocks of pairs and tables
-- are what they were.
abbrev pub UsersPreserveWaiting : Type 0 → Type 0 → Type 0
UsersPreserveWaiting K V =
    (size : ℕ) (m v : Moment K V) (known known2 : Known) (w w2 : World (Node K V)) → CameAbout size w → RefinesWaiting m known w
    → (events : List (Event (Node K V))) → AllUsers events → Runs deferred_word size events w w2 → v.deferred ≡ m.deferred
    → ((n : ℕ) (t : TableId) → IsDeferredTo known w n t → m.place n ≡ Behind → v.place n ≡ Behind)
    → ((b n : ℕ) → known.roles b ≡ role.Pair n → known2.roles b ≡ role.Pair n) → ((b len : ℕ) (t : TableId) → known.roles b ≡ role.Table t len → known2.roles b ≡ role.Table t len)
    → RefinesWaiting v known2 w2

module _ (K V : Type 0) (same : K → K → Bool) (hash : ℕ → K → ℕ) where
  -- So it is where a row begins on a slot,
  abbrev pub RowsBeginWaiting : Type 0
  RowsBeginWaiting =
      (m : Moment K V) (known : Known) (s : Scene K V) (old new : Held K V) → RefinesWaiting m known s.world
      → (called : SlotCall) (i : ℕ) (leads : RowBegins same hash called i s old new)
      → RefinesWaiting m known (scene_then same hash (Begin i (request_of (slot_of i) called)) s old new leads.2).world

  -- and after a step of it.
  abbrev pub RowsPreserveWaiting : Type 0
  RowsPreserveWaiting =
      (name : ℕ → List ℕ) (m : Moment K V) (known : Known) (s : Scene K V) (old new : Held K V) → IsAt same hash old s → RefinesWhole same name m known s → RefinesWaiting m known s.world
      → (i : ℕ) (told : RowTold (Node K V)) (leads : RowLeads same hash i told s old new) (row : SlotRow) (here : IsOnSlot s i row)
      → RefinesWaiting (with_effects None None (effects_of Row known new.changed) m) (known_after Row new.changed known) (scene_then same hash (Step i) s old new (leads row here).2).world

  -- What waits behind a table that it reclaims is not reclaimed.
  abbrev pub RowsFindWaiting : Type 0
  RowsFindWaiting =
      (m : Moment K V) (known : Known) (s : Scene K V) (old new : Held K V) → RefinesWaiting m known s.world
      → (i : ℕ) (told : RowTold (Node K V)) → RowLeads same hash i told s old new → (row : SlotRow) → IsOnSlot s i row
      → AtEachEffect WaitUnreclaimed None None (effects_of Row known new.changed) m

  -- And it is so after each step of the making of a map, on whichever map its effects are told, if on any.
  abbrev pub MakingsPreserveWaiting : Type 0
  MakingsPreserveWaiting =
      (name : ℕ → List ℕ) (m : Moment K V) (known : Known) (s : Scene K V) (old new : Held K V) → IsAt same hash old s → RefinesWhole same name m known s → RefinesWaiting m known s.world
      → (i : ℕ) (told : Advance Setting) (leads : MakingLeads same hash i told s old new) (b : Beginning K) (here : s.makers i ≡ Some b) (of : Option ℕ) → WasNew b.map told m
      → RefinesWaiting (with_effects None of (effects_of (Making b.map) known new.changed) m) (known_after (Making b.map) new.changed known) (leads b here).2.step.w2

  -- And after a step of a call that is none of a row.
  abbrev pub CallsPreserveWaiting : Type 0
  CallsPreserveWaiting =
      (name : ℕ → List ℕ) (m : Moment K V) (known : Known) (s : Scene K V) (old new : Held K V) → IsAt same hash old s → RefinesWhole same name m known s → RefinesWaiting m known s.world
      → (map i : ℕ) (u : UnderWay K V K) (here : s.calls map i ≡ Some u) (told : CallTold (Node K V)) (leads : StepLeads same hash i told s old new)
      → (let to = leads map u here in
      IsOfNoRow same old.batch_size old.roots s.world s.maps s.calls s.makers s.enders map to.0 i new.memory to.4.w2 to.4.maps2 to.4.next u to.1 told to.4.did
      → RefinesWaiting (with_effects (Some (name i)) (Some map) (effects_of (Call i map) known new.changed) m) (known_after (Call i map) new.changed known) to.4.w2)

  -- And what waits behind a table is not reclaimed as that ends with its map.
  abbrev pub EndingsFindWaiting : Type 0
  EndingsFindWaiting =
      (name : ℕ → List ℕ) (m : Moment K V) (known : Known) (s : Scene K V) (old new : Held K V) → IsAt same hash old s → RefinesWhole same name m known s → RefinesWaiting m known s.world
      → (i : ℕ) (told : Settled (Node K V)) → EndingLeads same hash i told s old new → (f : Finishing K V) → s.enders i ≡ Some f → (map : ℕ) → s.maps map ≡ None
      → AtEachEffect WaitsOn None (Some map) (effects_of (Ending map) known new.changed) m

  -- And it is so after that, if each pair that waits does so behind one table alone.
  abbrev pub EndingsPreserveWaiting : Type 0
  EndingsPreserveWaiting =
      (name : ℕ → List ℕ) (m : Moment K V) (known : Known) (s : Scene K V) (old new : Held K V) → IsAt same hash old s → RefinesWhole same name m known s → WaitsOnce m.deferred → RefinesWaiting m known s.world
      → (i : ℕ) (told : Settled (Node K V)) (leads : EndingLeads same hash i told s old new) (f : Finishing K V) (here : s.enders i ≡ Some f) (map : ℕ) → s.maps map ≡ None
      → (let to = leads f here in
      RefinesWaiting (with_effects None (Some map) (effects_of (Ending map) known new.changed) m) (known_after (Ending map) new.changed known)
      (ending_after same hash s new i f to.0 to.2.w2 to.2.deed told to.3).world)
