-- What is promised of the tables that calls have made where another one than a call takes a step, and where walks go on or are given up.
use Rattle.std.specs.Prelude.{◌≡◌, ℕ, Bool, true, List, [], ◌∷◌, Option, Some, None}
use Rattle.run_debts.specs.Given.SeizeWorld.{Step, with_at}
use Rattle.run_debts.specs.Given.SeizeDeclared.advance.Advance.{Advance}
use Rattle.run_debts.specs.Given.SeizeDeclared.rows.settle.Settled.{Settled}
use Rattle.run_debts.specs.Given.TablesDeclared.node.Node.{Node}
use Rattle.run_debts.specs.Given.TablesDeclared.setting.Setting.{Setting}
use Rattle.run_debts.specs.Given.RunsDeclared.effect.Effect.{Effect}
use Rattle.run_debts.specs.Given.RunsDeclared.effect.Effect.TheVariants.{TableMade}
use Rattle.run_debts.specs.Given.SchedulesEffects.{with_effects}
use Rattle.run_debts.specs.Given.SchedulesMoment.{Moment, start}
use Rattle.owner_calls.specs.Given.CallersTogether.{UnderWay}
use Rattle.run_debts.specs.Given.EffectsEffects.{effects_of, known_after}
use Rattle.run_debts.specs.Given.EffectsKnown.{Known, nothing_known}
use Rattle.run_debts.specs.Given.EffectsDeclared.acting.Acting.TheVariants as acts
use Rattle.run_debts.specs.Given.ScenesDeclared.row.RowTold.{RowTold}
use Rattle.run_debts.specs.Given.ScenesDeclared.row.SlotRow.{SlotRow}
use Rattle.run_debts.specs.Given.FinishesEndings.{Finishing}
use Rattle.run_debts.specs.Given.FinishesMakings.{Beginning}
use Rattle.run_debts.specs.Given.FinishesMaps.{with_call}
use Rattle.run_debts.specs.Given.FollowsCalling.{NoneNamed}
use Rattle.run_debts.specs.Given.FollowsShows.{Refines}
use Rattle.run_debts.specs.Given.MomentsWhole.{RefinesWhole}
use Rattle.run_debts.specs.Given.OthersEndings.{ending_after}
use Rattle.run_debts.specs.Given.OthersMakings.{making_after}
use Rattle.run_debts.specs.Given.OthersRows.{scene_then}
use Rattle.run_debts.specs.Given.OthersWalks.{given_up}
use Rattle.run_blocks.specs.Owes.Tables.{RefinesOwnTables}
use Rattle.run_debts.specs.Given.ScenesEnding.{EndingLeads}
use Rattle.run_debts.specs.Given.ScenesHeld.{Held, IsAt}
use Rattle.run_debts.specs.Given.ScenesMaking.{MakingLeads}
use Rattle.run_debts.specs.Given.ScenesOnSlots.{RowLeads}
use Rattle.run_debts.specs.Given.ScenesReplying.{AskLeads, StopLeads, scene_with, unless_stopped}
use Rattle.run_debts.specs.Given.ScenesScene.{IsOnSlot, Scene, at_first}

module _ (K V : Type 0) (same : K → K → Bool) (hash : ℕ → K → ℕ) where
  -- Where a walk goes on to its next pair, each has the table that it had,
  abbrev pub WalksPreserveOwnTables : Type 0
  WalksPreserveOwnTables =
      (name : ℕ → List ℕ) (m : Moment K V) (known : Known) (s : Scene K V) (old new : Held K V) → RefinesWhole same name m known s → RefinesOwnTables name m known s
      → (i : ℕ) (leads : AskLeads same hash i true s old new) (map : ℕ) (u : UnderWay K V K) (here : s.calls map i ≡ Some u)
      → RefinesOwnTables name m known (scene_with map i (leads map u here).0 s)

  -- and so it is where one is given up.
  abbrev pub WalksStopTables : Type 0
  WalksStopTables =
      (name : ℕ → List ℕ) (m : Moment K V) (known : Known) (s : Scene K V) (old new : Held K V) → RefinesWhole same name m known s → RefinesOwnTables name m known s
      → (i : ℕ) (stopped : Bool) → StopLeads same hash i stopped s old new → (map : ℕ) (u : UnderWay K V K) → s.calls map i ≡ Some u
      → (let after = record s { calls = with_call s.calls map i (unless_stopped stopped u) } in
      (stopped ≡ true → NoneNamed name (name i) after) → RefinesOwnTables name (given_up (name i) stopped m) known after)

-- a table that is made is the first one of this map
abbrev pub MakesFirst : ℕ → List Effect → Type 0
MakesFirst map [] = Unit {0}
MakesFirst map (TableMade t ∷ effects) = (t.map ≡ map) × (t.turn ≡ 0) × MakesFirst map effects
MakesFirst map (f ∷ effects) = MakesFirst map effects

-- Nobody has made a table as a run begins, and none is noted.
abbrev pub TablesBegin : Type 0 → Type 0 → Type 0
TablesBegin K V = (roots : ℕ) (name : ℕ → List ℕ) → RefinesOwnTables {K = K} {V = V} name start nothing_known (at_first roots)

-- So it is as long as calls and makings are as they were,
abbrev pub StaysTables : Type 0 → Type 0 → Type 0
StaysTables K V =
    (name : ℕ → List ℕ) (m v : Moment K V) (known : Known) (s t : Scene K V) → RefinesOwnTables name m known s → v.calls ≡ m.calls → t.calls ≡ s.calls → t.makers ≡ s.makers → RefinesOwnTables name v known t

-- and where the making of a map begins, by one that makes none.
abbrev pub MakingsBeginTables : Type 0 → Type 0 → Type 0
MakingsBeginTables K V =
    (name : ℕ → List ℕ) (m : Moment K V) (known : Known) (s : Scene K V) → RefinesOwnTables name m known s
    → (i : ℕ) (b : Beginning K) → s.makers i ≡ None → RefinesOwnTables name m known (record s { makers = with_at s.makers i (Some b) })

module _ (K V : Type 0) (same : K → K → Bool) (hash : ℕ → K → ℕ) where
  -- A step of a row on a slot takes no such table.
  abbrev pub RowsPreserveOwnTables : Type 0
  RowsPreserveOwnTables =
      (name : ℕ → List ℕ) (m : Moment K V) (known : Known) (s : Scene K V) (old new : Held K V) → IsAt same hash old s → Refines same name m known s → RefinesOwnTables name m known s
      → (i : ℕ) (told : RowTold (Node K V)) (leads : RowLeads same hash i told s old new) (row : SlotRow) (here : IsOnSlot s i row)
      → RefinesOwnTables name (with_effects None None (effects_of acts.Row known new.changed) m) (known_after acts.Row new.changed known) (scene_then same hash (Step i) s old new (leads row here).2)

  -- A step of the making of a map makes a first table of that map, if any; where the scene refines the moment after it, each such table is somebody's still.
  abbrev pub MakingsPreserveOwnTables : Type 0
  MakingsPreserveOwnTables =
      (name : ℕ → List ℕ) (m : Moment K V) (known : Known) (s : Scene K V) (old new : Held K V) → IsAt same hash old s → Refines same name m known s → RefinesOwnTables name m known s
      → (i : ℕ) (told : Advance Setting) (leads : MakingLeads same hash i told s old new) (b : Beginning K) (here : s.makers i ≡ Some b) (of : Option ℕ)
      → (let to = leads b here in
      let effects = effects_of (acts.Making b.map) known new.changed in
      let v = with_effects None of effects m in
      let after = known_after (acts.Making b.map) new.changed known in
      let led = making_after same hash s old new i b to.0 to.2.step.w2 told to.3 in
      Refines same name v after led → MakesFirst b.map effects × RefinesOwnTables name v after led)

  -- A step of the end of a map takes no such table.
  abbrev pub EndingsPreserveOwnTables : Type 0
  EndingsPreserveOwnTables =
      (name : ℕ → List ℕ) (m : Moment K V) (known : Known) (s : Scene K V) (old new : Held K V) → IsAt same hash old s → Refines same name m known s → RefinesOwnTables name m known s
      → (i : ℕ) (told : Settled (Node K V)) (leads : EndingLeads same hash i told s old new) (f : Finishing K V) (here : s.enders i ≡ Some f) (map : ℕ) → s.maps map ≡ None
      → (let to = leads f here in
      RefinesOwnTables name (with_effects None (Some map) (effects_of (acts.Ending map) known new.changed) m) (known_after (acts.Ending map) new.changed known)
      (ending_after same hash s new i f to.0 to.2.w2 to.2.deed told to.3))
