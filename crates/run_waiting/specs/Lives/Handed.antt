-- What the collector has at a moment of a run, pair by pair: one that it has was handed over, or waits behind a table, or the row of a call has it in hand still; and what is told to
-- be handed over it has, and that waits behind nothing. So it is with tables that are told to be retired.
use Rattle.std.specs.Prelude.{◌≡◌, ◌⊎◌, ℕ, Bool, true, List, map, Option, Some, None}
use Rattle.run_debts.specs.Given.SeizeWordsWord.{block_in}
use Rattle.run_debts.specs.Given.SeizeLaw.{is_retired as was_retired}
use Rattle.run_debts.specs.Given.SeizeDeclared.advance.Advance.{Advance}
use Rattle.run_debts.specs.Given.SeizeDeclared.rows.settle.Settled.{Settled}
use Rattle.run_debts.specs.Given.SeizeWorld.{World, Row, Rests, Settles, Defers, Handed, Begin, Step}
use Rattle.run_debts.specs.Given.TablesDeclared.node.Node.{Node}
use Rattle.run_debts.specs.Given.TablesDeclared.setting.Setting.{Setting}
use Rattle.run_debts.specs.Given.RawDeclared.machines.progress.Progress.{Progress as CallTold}
use Rattle.run_debts.specs.Given.RunsDeclared.effect.Effect.{Effect}
use Rattle.run_debts.specs.Given.RunsDeclared.effect.Effect.TheVariants.{Reclaimed}
use Rattle.run_debts.specs.Given.RunsDeclared.effect.TableId.{TableId}
use Rattle.run_debts.specs.Given.RunsDeclared.effect.Thing.TheVariants.{APair}
use Rattle.run_debts.specs.Given.SchedulesEffects.{with_effects, AtEachEffect}
use Rattle.run_debts.specs.Given.SchedulesLists.{is_among}
use Rattle.run_debts.specs.Given.SchedulesMoment.{Deferral, Moment, start}
use Rattle.run_debts.specs.Given.SchedulesReclaims.{is_handed}
use Rattle.run_debts.specs.Given.SchedulesViews.{is_stage, is_retired}
use Rattle.run_debts.specs.Given.CallersTogether.{UnderWay, CameAbout}
use Rattle.run_debts.specs.Given.EffectsEffects.{effects_of, known_after}
use Rattle.run_debts.specs.Given.EffectsKnown.{Known, nothing_known}
use Rattle.run_debts.specs.Given.EffectsDeclared.acting.Acting.TheVariants.{Call, Making, Ending, Row as OfRow}
use Rattle.run_debts.specs.Given.EffectsDeclared.role.Role.TheVariants as role
use Rattle.run_debts.specs.Given.ScenesDeclared.row.RowTold.{RowTold}
use Rattle.run_debts.specs.Given.ScenesDeclared.row.SlotCall.{SlotCall}
use Rattle.run_debts.specs.Given.ScenesDeclared.row.SlotRow.{SlotRow}
use Rattle.run_debts.specs.Given.FinishesEndings.{Finishing}
use Rattle.run_debts.specs.Given.FinishesMakings.{Beginning}
use Rattle.run_debts.specs.Given.FinishesMaps.{Standing}
use Rattle.run_debts.specs.Given.OthersEndings.{ending_after}
use Rattle.run_debts.specs.Given.OthersMakings.{WasNew}
use Rattle.run_debts.specs.Given.OthersRows.{scene_then}
use Rattle.run_debts.specs.Given.MomentsWhole.{RefinesWhole}
use Rattle.run_debts.specs.Due.{RowObligation, ToRetire, ToPut, due_in_settle, due_in_defer, OwnAreMade}
use Rattle.run_debts.specs.Entries.{EntriesAreBlank}
use Rattle.run_waiting.specs.Lives.Behind.{RefinesWaiting}
use Rattle.run_waiting.specs.Lives.Retired.{RefinesRetiredTables, CallsStay}
use Rattle.run_waiting.specs.Lives.Waiting.{waits_behind}
use Rattle.run_debts.specs.Given.ScenesEnding.{EndingLeads, ending_begun}
use Rattle.run_debts.specs.Given.ScenesHeld.{Held, IsAt}
use Rattle.run_debts.specs.Given.ScenesMaking.{MakingLeads}
use Rattle.run_debts.specs.Given.ScenesOnSlots.{RowBegins, RowLeads}
use Rattle.run_debts.specs.Given.ScenesRows.{request_of}
use Rattle.run_debts.specs.Given.ScenesScene.{HasCall, IsOnSlot, Scene, at_first, slot_of}
use Rattle.run_debts.specs.Given.ScenesStepping.{StepLeads, scene_after}

-- the block is the one to be retired, or to be put behind another one
abbrev pub IsMeant : ℕ → Option RowObligation → Type 0
IsMeant b (Some (ToRetire word)) = block_in word ≡ b
IsMeant b (Some (ToPut word place)) = block_in word ≡ b
IsMeant b None = ⊥

-- the row is to retire this block, or is putting it behind another one
abbrev pub IsToHand : ℕ → Row → Type 0
IsToHand b (Settles c) = IsMeant b (due_in_settle c c.stands)
IsToHand b (Defers s c) = IsMeant b (due_in_defer c c.stands)
IsToHand b _ = ⊥

-- the collector has the block, and it waits behind no other one
abbrev pub IsHandedOver : {T : Type 0} → World T → ℕ → Type 0
IsHandedOver w b = (w.hand b ≡ Handed) × (waits_behind b w.log ≡ None)

-- the pair waits behind some table
abbrev pub is_deferred : ℕ → List Deferral → Bool
is_deferred n deferred = is_among n (map (λ d. d.pair) deferred)

-- the pair in this block was handed over, or waits, or the row of a call has it in hand
abbrev pub HasGone : {K V : Type 0} → Moment K V → Scene K V → (b n : ℕ) → Type 0
HasGone m s b n = (is_handed (m.place n) ≡ true) ⊎ (is_deferred n m.deferred ≡ true) ⊎ ((i : ℕ) × HasCall s i × IsToHand b (s.world.row i))

pub record RefinesHanded {K V : Type 0} (m : Moment K V) (known : Known) (s : Scene K V) : Type 0 where
  -- so it is of each pair whose block the collector has
  pub pairs : (b n : ℕ) → known.roles b ≡ role.Pair n → s.world.hand b ≡ Handed → HasGone m s b n
  -- a pair that is told to be handed over, and a table that is told to be retired, the collector has, and it waits behind nothing
  pub handed : (n : ℕ) → is_handed (m.place n) ≡ true → (b : ℕ) × (known.roles b ≡ role.Pair n) × IsHandedOver s.world b
  pub tables : (t : TableId) → is_stage is_retired t m ≡ true → (b : ℕ) × (len : ℕ) × (known.roles b ≡ role.Table t len) × IsHandedOver s.world b

-- a pair that is reclaimed was handed over
abbrev pub HadHanded : {K V : Type 0} → Moment K V → Effect → Type 0
HadHanded m (Reclaimed (APair n)) = is_handed (m.place n) ≡ true
HadHanded m _ = Unit {0}

-- The promises: the collector has nothing before all events,
abbrev pub HandedBegins : Type 0 → Type 0 → Type 0
HandedBegins K V = (roots : ℕ) → RefinesHanded {K = K} {V = V} start nothing_known (at_first roots)

-- it is as it was where no pair, no table and no block changes, as where a call begins, is told something or comes to an outcome, and where a map comes or is there no more,
abbrev pub OthersLeaveHanded : Type 0 → Type 0 → Type 0
OthersLeaveHanded K V =
    (m v : Moment K V) (known : Known) (s t : Scene K V) → RefinesHanded m known s → v.place ≡ m.place → v.deferred ≡ m.deferred → v.tables ≡ m.tables → t.world ≡ s.world → CallsStay s t
    → RefinesHanded v known t

-- and where the end of a map begins.
abbrev pub EndingsBeginHanded : Type 0 → Type 0 → Type 0
EndingsBeginHanded K V = (m : Moment K V) (known : Known) (s : Scene K V) → RefinesHanded m known s → (map i : ℕ) (standing : Standing K) → RefinesHanded m known (ending_begun map i standing s)

-- And while no row is under way, what is told to be handed over was retired.
abbrev pub HandedAtQuiescence : Type 0 → Type 0 → Type 0
HandedAtQuiescence K V =
    (batch_size : ℕ) (m : Moment K V) (known : Known) (s : Scene K V) → CameAbout batch_size s.world → RefinesHanded m known s → ((i : ℕ) → s.world.row i ≡ Rests)
    → ((n : ℕ) → is_handed (m.place n) ≡ true → (b : ℕ) × (known.roles b ≡ role.Pair n) × (was_retired b s.world.log ≡ true))
    × ((t : TableId) → is_stage is_retired t m ≡ true → (b : ℕ) × (len : ℕ) × (known.roles b ≡ role.Table t len) × (was_retired b s.world.log ≡ true))

module _ (K V : Type 0) (same : K → K → Bool) (hash : ℕ → K → ℕ) where
  -- So it is where a row begins on a slot,
  abbrev pub RowsBeginHanded : Type 0
  RowsBeginHanded =
      (m : Moment K V) (known : Known) (s : Scene K V) (old new : Held K V) → IsAt same hash old s → RefinesHanded m known s
      → (called : SlotCall) (i : ℕ) (leads : RowBegins same hash called i s old new)
      → RefinesHanded m known (scene_then same hash (Begin i (request_of (slot_of i) called)) s old new leads.2)

  -- and after a step of it: what waited behind a table that it reclaims is handed over then.
  abbrev pub RowsPreserveHanded : Type 0
  RowsPreserveHanded =
      (name : ℕ → List ℕ) (m : Moment K V) (known : Known) (s : Scene K V) (old new : Held K V) → IsAt same hash old s → RefinesWhole same name m known s → RefinesWaiting m known s.world
      → RefinesHanded m known s
      → (i : ℕ) (told : RowTold (Node K V)) (leads : RowLeads same hash i told s old new) (row : SlotRow) (here : IsOnSlot s i row)
      → RefinesHanded (with_effects None None (effects_of OfRow known new.changed) m) (known_after OfRow new.changed known) (scene_then same hash (Step i) s old new (leads row here).2)

  -- A pair that it reclaims was handed over.
  abbrev pub RowsFindHanded : Type 0
  RowsFindHanded =
      (name : ℕ → List ℕ) (m : Moment K V) (known : Known) (s : Scene K V) (old new : Held K V) → IsAt same hash old s → RefinesWhole same name m known s → RefinesWaiting m known s.world
      → RefinesHanded m known s
      → (i : ℕ) (told : RowTold (Node K V)) → RowLeads same hash i told s old new → (row : SlotRow) → IsOnSlot s i row
      → AtEachEffect HadHanded None None (effects_of OfRow known new.changed) m

  -- And it is so after each step of the making of a map,
  abbrev pub MakingsPreserveHanded : Type 0
  MakingsPreserveHanded =
      (name : ℕ → List ℕ) (m : Moment K V) (known : Known) (s : Scene K V) (old new : Held K V) → IsAt same hash old s → RefinesWhole same name m known s → RefinesHanded m known s
      → (i : ℕ) (told : Advance Setting) (leads : MakingLeads same hash i told s old new) (b : Beginning K) (here : s.makers i ≡ Some b) (of : Option ℕ) → WasNew b.map told m
      → RefinesHanded (with_effects None of (effects_of (Making b.map) known new.changed) m) (known_after (Making b.map) new.changed known) (record s { world = (leads b here).2.step.w2 })

  -- and of a call, of its row, too.
  abbrev pub CallsPreserveHanded : Type 0
  CallsPreserveHanded =
      (name : ℕ → List ℕ) (m : Moment K V) (known : Known) (s : Scene K V) (old new : Held K V) → IsAt same hash old s → RefinesWhole same name m known s
      → EntriesAreBlank s → OwnAreMade known s.world → RefinesWaiting m known s.world → RefinesRetiredTables m known s → RefinesHanded m known s
      → (map i : ℕ) (u : UnderWay K V K) (here : s.calls map i ≡ Some u) (told : CallTold (Node K V)) (leads : StepLeads same hash i told s old new)
      → (let to = leads map u here in
      RefinesHanded (with_effects (Some (name i)) (Some map) (effects_of (Call i map) known new.changed) m) (known_after (Call i map) new.changed known)
      (scene_after same s old new map i to.0 u to.1 told to.4))

  -- And of the end of a map, which does not stand then.
  abbrev pub EndingsPreserveHanded : Type 0
  EndingsPreserveHanded =
      (name : ℕ → List ℕ) (m : Moment K V) (known : Known) (s : Scene K V) (old new : Held K V) → IsAt same hash old s → RefinesWhole same name m known s → RefinesWaiting m known s.world
      → RefinesRetiredTables m known s → RefinesHanded m known s
      → (i : ℕ) (told : Settled (Node K V)) (leads : EndingLeads same hash i told s old new) (f : Finishing K V) (here : s.enders i ≡ Some f) (map : ℕ) → s.maps map ≡ None
      → (let to = leads f here in
      RefinesHanded (with_effects None (Some map) (effects_of (Ending map) known new.changed) m) (known_after (Ending map) new.changed known)
      (ending_after same hash s new i f to.0 to.2.w2 to.2.deed told to.3))
