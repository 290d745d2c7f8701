-- What is promised of each kind of step: what ended maps have left over is behind the roots that the moment after it says. So it is where maps come and go, and once all is reclaimed.
use Rattle.std.specs.Prelude.{◌≡◌, ◌<◌, ◌≤◌, ℕ, Bool, false, List, [], length, filter, map, Option, Some, None}
use Rattle.run_debts.specs.Given.SeizeWorld.{Begin, Step, with_at}
use Rattle.run_debts.specs.Given.SeizeDeclared.advance.Advance.{Advance}
use Rattle.run_debts.specs.Given.SeizeDeclared.rows.settle.Settled.{Settled}
use Rattle.run_debts.specs.Given.TablesDeclared.node.Node.{Node}
use Rattle.run_debts.specs.Given.TablesDeclared.setting.Setting.{Setting}
use Rattle.run_debts.specs.Given.RawDeclared.machines.progress.Progress.{Progress as CallTold}
use Rattle.run_debts.specs.Given.RunsSame.{is_same}
use Rattle.run_debts.specs.Given.RunsDeclared.effect.Effect.{Effect}
use Rattle.run_debts.specs.Given.SchedulesAfter.{if_any}
use Rattle.run_debts.specs.Given.SchedulesBeginning.{used_roots, with_map}
use Rattle.run_debts.specs.Given.SchedulesEffects.{with_effects}
use Rattle.run_debts.specs.Given.SchedulesLists.{is_among}
use Rattle.run_debts.specs.Given.SchedulesMoment.{MapThere, Moment, start}
use Rattle.run_debts.specs.Given.SchedulesViews.{map_of}
use Rattle.run_debts.specs.Given.CallersTogether.{UnderWay}
use Rattle.run_debts.specs.Given.EffectsKnown.{Known, nothing_known}
use Rattle.run_debts.specs.Given.EffectsDeclared.role.Role.TheVariants as role
use Rattle.run_debts.specs.Given.ScenesDeclared.row.RowTold.{RowTold}
use Rattle.run_debts.specs.Given.ScenesDeclared.row.SlotCall.{SlotCall}
use Rattle.run_debts.specs.Given.ScenesDeclared.row.SlotRow.{SlotRow}
use Rattle.run_debts.specs.Given.FinishesEndings.{Finishing}
use Rattle.run_debts.specs.Given.FinishesMakings.{Beginning, HasTaken}
use Rattle.run_debts.specs.Given.FinishesMaps.{Standing}
use Rattle.run_debts.specs.Given.FollowsShows.{Refines}
use Rattle.run_debts.specs.Given.OthersEndings.{ending_after, without_map}
use Rattle.run_debts.specs.Given.OthersMakings.{making_after}
use Rattle.run_debts.specs.Given.OthersRows.{scene_then}
use Rattle.run_debts.specs.Given.MomentsNumbers.{AreFound}
use Rattle.run_debts.specs.Given.ReclaimsReclaims.{AllIsReclaimed, LeftBehind}
use Rattle.run_waiting.specs.Remains.Remains.{AllStand, LeftNoted, RootsAreTaken, RefinesRemains, left_at, map_roots}
use Rattle.run_debts.specs.Given.ScenesEnding.{EndingLeads, ending_begun}
use Rattle.run_debts.specs.Given.ScenesHeld.{Held, IsAt}
use Rattle.run_debts.specs.Given.ScenesMaking.{MakingLeads}
use Rattle.run_debts.specs.Given.ScenesOnSlots.{RowBegins, RowLeads}
use Rattle.run_debts.specs.Given.ScenesRows.{request_of}
use Rattle.run_debts.specs.Given.ScenesScene.{IsOnSlot, Scene, at_first, slot_of}
use Rattle.run_debts.specs.Given.ScenesStepping.{StepLeads, scene_after}

module _ (K V : Type 0) where
  -- The promises: so it is before all events,
  abbrev pub BeginsRemain : Type 0
  BeginsRemain = (roots : ℕ) → RefinesRemains {K = K} {V = V} roots start nothing_known (at_first roots)

  -- and as long as nothing of this has changed, as where a call begins, is told something, or comes to an outcome.
  abbrev pub StaysRemain : Type 0
  StaysRemain =
      (roots : ℕ) (m v : Moment K V) (known : Known) (s t : Scene K V) → RefinesRemains roots m known s → map_roots v ≡ map_roots m → v.remains ≡ m.remains
      → t.world ≡ s.world → t.maps ≡ s.maps → t.makers ≡ s.makers → t.enders ≡ s.enders → RefinesRemains roots v known t

  -- So it is where the making of a map begins, by one that makes none,
  abbrev pub MakingsBeginRemain : Type 0
  MakingsBeginRemain =
      (roots : ℕ) (m : Moment K V) (known : Known) (s : Scene K V) → RefinesRemains roots m known s → (i : ℕ) (b : Beginning K) → s.makers i ≡ None → (HasTaken b.machine.stands → ⊥)
      → RefinesRemains roots m known (record s { makers = with_at s.makers i (Some b) })

  -- and where its map is there, with a root that was not used.
  abbrev pub MapsComeRemain : Type 0
  MapsComeRemain =
      (roots : ℕ) (m : Moment K V) (known : Known) (s : Scene K V) → RefinesRemains roots m known s → (there : MapThere) → is_among there.root (used_roots m) ≡ false → there.root < roots → RefinesRemains roots (with_map there m) known s

  -- So it is where a map is there no more that alone has its name, and no map ends: these pairs are left over, if the blocks behind its root are noted as them.
  abbrev pub MapsGoRemain : Type 0
  MapsGoRemain =
      (roots : ℕ) (m : Moment K V) (known : Known) (s : Scene K V) → (shows : RefinesRemains roots m known s) → (own : List ℕ) (f : MapThere) → map_of own m ≡ Some f → length (filter (λ g. is_same g.name own) m.maps) ≤ 1
      → ((j : ℕ) → s.enders j ≡ None) → (pairs : List ℕ) → map known.roles (shows.lists f.root) ≡ map role.Pair pairs
      → RefinesRemains roots (without_map own (if_any f.root pairs m.remains) m) known s

  -- And once all is reclaimed nothing is left over.
  abbrev pub ReclaimedRemain : Type 0
  ReclaimedRemain =
      (roots : ℕ) (m v : Moment K V) (known known2 : Known) (s t : Scene K V) → RefinesRemains roots m known s → map_roots v ≡ map_roots m → v.remains ≡ []
      → ((j : ℕ) → t.makers j ≡ None) → ((j : ℕ) → t.enders j ≡ None) → AllIsReclaimed roots t.world t.maps → RefinesRemains roots v known2 t

module _ (K V : Type 0) (same : K → K → Bool) (hash : ℕ → K → ℕ) where
  -- So it is after each step of a call, whatever it is told to have done, if what is left over is noted as it was,
  abbrev pub CallsPreserveRemains : Type 0
  CallsPreserveRemains =
      (m : Moment K V) (known known2 : Known) (s : Scene K V) (old new : Held K V) → IsAt same hash old s → RefinesRemains old.roots m known s
      → (map i : ℕ) (u : UnderWay K V K) (here : s.calls map i ≡ Some u) (said : CallTold (Node K V)) (leads : StepLeads same hash i said s old new)
      → (caller : Option (List ℕ)) (acted : Option ℕ) (effects : List Effect)
      → (let to = leads map u here in
      let led = scene_after same s old new map i to.0 u to.1 said to.4 in
      LeftNoted known known2 s.world led.world → RefinesRemains old.roots (with_effects caller acted effects m) known2 led)

  -- where a row begins on a slot, and after each step of it,
  abbrev pub RowsBeginRemain : Type 0
  RowsBeginRemain =
      (m : Moment K V) (known : Known) (s : Scene K V) (old new : Held K V) → IsAt same hash old s → RefinesRemains old.roots m known s
      → (called : SlotCall) (i : ℕ) (leads : RowBegins same hash called i s old new)
      → RefinesRemains old.roots m known (scene_then same hash (Begin i (request_of (slot_of i) called)) s old new leads.2)

  abbrev pub RowsPreserveRemains : Type 0
  RowsPreserveRemains =
      (m : Moment K V) (known known2 : Known) (s : Scene K V) (old new : Held K V) → IsAt same hash old s → RefinesRemains old.roots m known s
      → (i : ℕ) (said : RowTold (Node K V)) (leads : RowLeads same hash i said s old new) (row : SlotRow) (here : IsOnSlot s i row)
      → (caller : Option (List ℕ)) (acted : Option ℕ) (effects : List Effect)
      → (let led = scene_then same hash (Step i) s old new (leads row here).2 in
      LeftNoted known known2 s.world led.world → RefinesRemains old.roots (with_effects caller acted effects m) known2 led)

  -- after each step of the making of a map,
  abbrev pub MakingsPreserveRemains : Type 0
  MakingsPreserveRemains =
      (m : Moment K V) (known known2 : Known) (s : Scene K V) (old new : Held K V) → IsAt same hash old s → RefinesRemains old.roots m known s
      → (i : ℕ) (said : Advance Setting) (leads : MakingLeads same hash i said s old new) (b : Beginning K) (here : s.makers i ≡ Some b)
      → (caller : Option (List ℕ)) (acted : Option ℕ) (effects : List Effect)
      → (let to = leads b here in
      let led = making_after same hash s old new i b to.0 to.2.step.w2 said to.3 in
      LeftNoted known known2 s.world led.world → RefinesRemains old.roots (with_effects caller acted effects m) known2 led)

  -- where the end of one begins, by one that ends none, and after each step of it.
  abbrev pub EndingsBeginRemain : Type 0
  EndingsBeginRemain =
      (name : ℕ → List ℕ) (m : Moment K V) (known : Known) (s : Scene K V) (old : Held K V) → IsAt same hash old s → Refines same name m known s → RefinesRemains old.roots m known s
      → (map i : ℕ) (standing : Standing K) → s.maps map ≡ Some standing → s.enders i ≡ None → RefinesRemains old.roots m known (ending_begun map i standing s)

  abbrev pub EndingsPreserveRemains : Type 0
  EndingsPreserveRemains =
      (m : Moment K V) (known known2 : Known) (s : Scene K V) (old new : Held K V) → IsAt same hash old s → RefinesRemains old.roots m known s
      → (i : ℕ) (said : Settled (Node K V)) (leads : EndingLeads same hash i said s old new) (f : Finishing K V) (here : s.enders i ≡ Some f)
      → (caller : Option (List ℕ)) (acted : Option ℕ) (effects : List Effect)
      → (let to = leads f here in
      let led = ending_after same hash s new i f to.0 to.2.w2 to.2.deed said to.3 in
      LeftNoted known known2 s.world led.world → RefinesRemains old.roots (with_effects caller acted effects m) known2 led)

  -- Where no map is made, and none ends, and each that is there stands, roots are taken as the moment says; and what is behind them is what a caller finds there that reclaims all.
  abbrev pub QuiescentRemain : Type 0
  QuiescentRemain =
      (name : ℕ → List ℕ) (m : Moment K V) (known : Known) (s : Scene K V) (e : Held K V) → IsAt same hash e s → Refines same name m known s → (shows : RefinesRemains e.roots m known s)
      → AreFound m → AllStand m s → ((j : ℕ) → s.makers j ≡ None) → ((j : ℕ) → s.enders j ≡ None)
      → RootsAreTaken e.roots m e.memory × LeftBehind e.roots s.world s.maps shows.lists

  -- And what is behind each root then is noted as what is told to be left over there.
  abbrev pub QuiescentAreNoted : Type 0
  QuiescentAreNoted =
      (name : ℕ → List ℕ) (m : Moment K V) (known : Known) (s : Scene K V) (e : Held K V) → IsAt same hash e s → Refines same name m known s → (shows : RefinesRemains e.roots m known s)
      → AreFound m → AllStand m s → ((j : ℕ) → s.makers j ≡ None) → ((j : ℕ) → s.enders j ≡ None)
      → (r : ℕ) → r < e.roots → map known.roles (shows.lists r) ≡ map role.Pair (left_at r m.remains)
