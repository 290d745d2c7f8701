-- What is promised of each kind of step: what is kept is so after it. One record in one place, so that each event goes on from what the last one has left.
use Rattle.std.specs.Prelude.{◌≡◌, ℕ, Bool, true, List, Option, Some, None}
use Rattle.seize.specs.declared.advance.Advance.{Advance}
use Rattle.seize.specs.declared.rows.settle.Settled.{Settled}
use Rattle.seize.specs.World.{Rests, Begin, Step, with_at}
use Rattle.papaya_raw.specs.Given.TablesDeclared.node.Node.{Node}
use Rattle.papaya_raw.specs.Given.TablesDeclared.setting.Setting.{Setting}
use Rattle.papaya_raw.specs.Machine.{machine_replied}
use Rattle.papaya_raw.specs.declared.machines.asking.MachineReply.{MachineReply}
use Rattle.papaya_raw.specs.declared.machines.progress.Progress.{Progress as CallTold}
use Rattle.run_schedules.specs.declared.call.Call.{Call}
use Rattle.run_schedules.specs.declared.call.Reply.{Reply}
use Rattle.run_schedules.specs.declared.outcome.Outcome.{Outcome}
use Rattle.run_schedules.specs.Schedules.Beginning.{with_call}
use Rattle.run_schedules.specs.Schedules.Effects.{with_effects, AtEachEffect}
use Rattle.run_schedules.specs.Schedules.Entry.{ends_call}
use Rattle.run_schedules.specs.Schedules.Moment.{Moment, start}
use Rattle.run_executor.specs.Given.CallersTogether.{UnderWay}
use Rattle.run_executor.specs.Given.EffectsEffects.{effects_of, known_after}
use Rattle.run_executor.specs.Given.EffectsKnown.{Known, nothing_known}
use Rattle.run_executor.specs.Given.EffectsDeclared.acting.Acting.TheVariants as acts
use Rattle.run_executor.specs.Given.ScenesDeclared.row.RowTold.{RowTold}
use Rattle.run_executor.specs.Given.ScenesDeclared.row.SlotCall.{SlotCall}
use Rattle.run_executor.specs.Given.ScenesDeclared.row.SlotRow.{SlotRow}
use Rattle.run_executor.specs.Given.FinishesEndings.{Finishing}
use Rattle.run_executor.specs.Given.FinishesMachines.{machine_of}
use Rattle.run_executor.specs.Given.FinishesMakings.{Beginning}
use Rattle.run_executor.specs.Given.FinishesMaps.{Standing, with_call as with_in}
use Rattle.run_executor.specs.Given.FollowsCalling.{NoneNamed, told, come_to}
use Rattle.run_executor.specs.Given.FollowsCalls.{IsCalled}
use Rattle.run_executor.specs.Given.FollowsShows.{Refines}
use Rattle.run_executor.specs.Given.HandsCalling.{IsBegunFor}
use Rattle.run_executor.specs.Given.OthersEndings.{ending_after}
use Rattle.run_executor.specs.Given.OthersMakings.{WasNew, making_after}
use Rattle.run_executor.specs.Given.OthersRows.{scene_then}
use Rattle.run_executor.specs.Given.OthersWalks.{given_up}
use Rattle.run_executor.specs.Given.SpotsOnSlots.{WaitUnreclaimed}
use Rattle.run_executor.specs.Given.MomentsEndings.{WaitsOn}
use Rattle.run_executor.specs.Given.MomentsOnSlots.{HadRetired}
use Rattle.run_executor.specs.Given.MomentsWhole.{RefinesWhole}
use Rattle.run_kept.specs.Kept.Kept.{RefinesKept}
use Rattle.run_executor.specs.Given.ScenesBeginning.{Begins}
use Rattle.run_executor.specs.Given.ScenesEnding.{EndingLeads, ending_begun}
use Rattle.run_executor.specs.Given.ScenesHeld.{Held, IsAt}
use Rattle.run_executor.specs.Given.ScenesMaking.{MakingLeads}
use Rattle.run_executor.specs.Given.ScenesOnSlots.{RowBegins, RowLeads}
use Rattle.run_executor.specs.Given.ScenesReplying.{AskLeads, StopLeads, scene_with, unless_stopped}
use Rattle.run_executor.specs.Given.ScenesRows.{request_of}
use Rattle.run_executor.specs.Given.ScenesScene.{HasCall, IsOnSlot, Scene, at_first, slot_of}
use Rattle.run_executor.specs.Given.ScenesStepping.{StepLeads, scene_after}

module _ (K V : Type 0) where
  -- The promises: so it is before all events,
  abbrev pub BeginsKept : Type 0
  BeginsKept = (roots : ℕ) (name : ℕ → List ℕ) → RefinesKept {K = K} {V = V} name start nothing_known (at_first roots)

  -- as long as nothing of this has changed, as where an event is over, a map comes or is there no more, or somebody comes or goes,
  abbrev pub StaysKept : Type 0
  StaysKept =
      (name : ℕ → List ℕ) (m v : Moment K V) (known : Known) (s t : Scene K V) → RefinesKept name m known s
      → v.calls ≡ m.calls → v.tables ≡ m.tables → v.deferred ≡ m.deferred → v.place ≡ m.place → t.world ≡ s.world → t.calls ≡ s.calls → t.makers ≡ s.makers → t.enders ≡ s.enders
      → t.maps ≡ s.maps → RefinesKept name v known t

  -- by other names of callers that have no call,
  abbrev pub RenamedKept : Type 0
  RenamedKept = (name name2 : ℕ → List ℕ) (m : Moment K V) (known : Known) (s : Scene K V) → ((i : ℕ) → HasCall s i → name2 i ≡ name i) → RefinesKept name m known s → RefinesKept name2 m known s

  -- where a call comes to an outcome: where that is its end, no call under way has its name any more,
  abbrev pub CallsComeToKept : Type 0
  CallsComeToKept =
      (same : K → K → Bool) (name : ℕ → List ℕ) (m : Moment K V) (known : Known) (s : Scene K V) → RefinesWhole same name m known s → RefinesKept name m known s
      → (own : List ℕ) (outcome : Outcome V) (steps : ℕ) → (ends_call outcome ≡ true → NoneNamed name own s) → RefinesKept name (come_to own outcome steps m) known s

  -- and where the making of a map begins, by one that makes none.
  abbrev pub MakingsBeginKept : Type 0
  MakingsBeginKept =
      (name : ℕ → List ℕ) (m : Moment K V) (known : Known) (s : Scene K V) → RefinesKept name m known s
      → (i : ℕ) (b : Beginning K) → s.makers i ≡ None → RefinesKept name m known (record s { makers = with_at s.makers i (Some b) })

module _ (K V : Type 0) (same : K → K → Bool) (hash : ℕ → K → ℕ) where
  -- So it is where a call begins, by a name that no call under way has, and where its caller has no row under way: what is held has such a scene before it and after it, and the
  -- moment shows both,
  abbrev pub CallsBeginKept : Type 0
  CallsBeginKept =
      (name : ℕ → List ℕ) (m : Moment K V) (known : Known) (s : Scene K V) (old new : Held K V) → IsAt same hash old s → RefinesWhole same name m known s → RefinesKept name m known s
      → (map i : ℕ) (standing : Standing K) → s.maps map ≡ Some standing → (u : UnderWay K V K) (call : Call K V) (guard : List ℕ) → Begins same standing i u → IsCalled same u call → IsBegunFor u call
      → NoneNamed name (name i) s → s.world.row i ≡ Rests
      → IsAt same hash new (scene_with map i u s) → Refines same name (with_call (name i) guard call (Some map) m) known (scene_with map i u s)
      → RefinesKept name (with_call (name i) guard call (Some map) m) known (scene_with map i u s)

  -- after each step of a call, of its row, too,
  abbrev pub CallsPreserveKept : Type 0
  CallsPreserveKept =
      (name : ℕ → List ℕ) (m : Moment K V) (known : Known) (s : Scene K V) (old new : Held K V) → IsAt same hash old s → RefinesWhole same name m known s → RefinesKept name m known s
      → (map i : ℕ) (u : UnderWay K V K) (here : s.calls map i ≡ Some u) (said : CallTold (Node K V)) (leads : StepLeads same hash i said s old new)
      → (let to = leads map u here in
      RefinesKept name (with_effects (Some (name i)) (Some map) (effects_of (acts.Call i map) known new.changed) m) (known_after (acts.Call i map) new.changed known)
      (scene_after same s old new map i to.0 u to.1 said to.4))

  -- where one that asks goes on by what it is told,
  abbrev pub CallsTakeKept : Type 0
  CallsTakeKept =
      (name : ℕ → List ℕ) (m : Moment K V) (known : Known) (s : Scene K V) (old new : Held K V) → IsAt same hash old s → RefinesWhole same name m known s → RefinesKept name m known s
      → (map i : ℕ) (u : UnderWay K V K) → s.calls map i ≡ Some u → (reply : MachineReply V) (next : UnderWay K V K) → machine_of next ≡ (machine_replied (machine_of u) reply).0
      → (is_told : Reply V) → IsAt same hash new (scene_with map i next s) → Refines same name (told (name i) is_told m) known (scene_with map i next s)
      → RefinesKept name (told (name i) is_told m) known (scene_with map i next s)

  -- where a walk goes on to its next pair,
  abbrev pub WalksPreserveKept : Type 0
  WalksPreserveKept =
      (name : ℕ → List ℕ) (m : Moment K V) (known : Known) (s : Scene K V) (old new : Held K V) → RefinesWhole same name m known s → RefinesKept name m known s
      → (i : ℕ) (leads : AskLeads same hash i true s old new) (map : ℕ) (u : UnderWay K V K) (here : s.calls map i ≡ Some u) → RefinesKept name m known (scene_with map i (leads map u here).0 s)

  -- and where one is given up: no call that is under way then has its name.
  abbrev pub WalksStopKept : Type 0
  WalksStopKept =
      (name : ℕ → List ℕ) (m : Moment K V) (known : Known) (s : Scene K V) (old new : Held K V) → IsAt same hash old s → RefinesWhole same name m known s → RefinesKept name m known s
      → (i : ℕ) (stopped : Bool) → StopLeads same hash i stopped s old new → (map : ℕ) (u : UnderWay K V K) → s.calls map i ≡ Some u
      → (let after = record s { calls = with_in s.calls map i (unless_stopped stopped u) } in
      (stopped ≡ true → NoneNamed name (name i) after) → RefinesKept name (given_up (name i) stopped m) known after)

  -- So it is where a row begins on a slot, and after each step of it;
  abbrev pub RowsBeginKept : Type 0
  RowsBeginKept =
      (name : ℕ → List ℕ) (m : Moment K V) (known : Known) (s : Scene K V) (old new : Held K V) → IsAt same hash old s → RefinesKept name m known s
      → (called : SlotCall) (i : ℕ) (leads : RowBegins same hash called i s old new)
      → RefinesKept name m known (scene_then same hash (Begin i (request_of (slot_of i) called)) s old new leads.2)

  abbrev pub RowsPreserveKept : Type 0
  RowsPreserveKept =
      (name : ℕ → List ℕ) (m : Moment K V) (known : Known) (s : Scene K V) (old new : Held K V) → IsAt same hash old s → RefinesWhole same name m known s → RefinesKept name m known s
      → (i : ℕ) (said : RowTold (Node K V)) (leads : RowLeads same hash i said s old new) (row : SlotRow) (here : IsOnSlot s i row)
      → RefinesKept name (with_effects None None (effects_of acts.Row known new.changed) m) (known_after acts.Row new.changed known) (scene_then same hash (Step i) s old new (leads row here).2)

  -- a table that it reclaims was retired, and what waits behind that is not reclaimed.
  abbrev pub RowsFindKept : Type 0
  RowsFindKept =
      (name : ℕ → List ℕ) (m : Moment K V) (known : Known) (s : Scene K V) (old new : Held K V) → IsAt same hash old s → RefinesWhole same name m known s → RefinesKept name m known s
      → (i : ℕ) (said : RowTold (Node K V)) → RowLeads same hash i said s old new → (row : SlotRow) → IsOnSlot s i row
      → (let effects = effects_of acts.Row known new.changed in AtEachEffect HadRetired None None effects m × AtEachEffect WaitUnreclaimed None None effects m)

  -- And after each step of the making of a map, on whichever map its effects are told, if the scene refines the moment after it.
  abbrev pub MakingsPreserveKept : Type 0
  MakingsPreserveKept =
      (name : ℕ → List ℕ) (m : Moment K V) (known : Known) (s : Scene K V) (old new : Held K V) → IsAt same hash old s → RefinesWhole same name m known s → RefinesKept name m known s
      → (i : ℕ) (said : Advance Setting) (leads : MakingLeads same hash i said s old new) (b : Beginning K) (here : s.makers i ≡ Some b) (of : Option ℕ) → WasNew b.map said m
      → (let to = leads b here in
      let v = with_effects None of (effects_of (acts.Making b.map) known new.changed) m in
      let after = known_after (acts.Making b.map) new.changed known in
      let led = making_after same hash s old new i b to.0 to.2.step.w2 said to.3 in
      IsAt same hash new led → Refines same name v after led → RefinesKept name v after led)

  -- So it is where one begins an end who has none under way, and then after each step of it;
  abbrev pub EndingsBeginKept : Type 0
  EndingsBeginKept =
      (name : ℕ → List ℕ) (m : Moment K V) (known : Known) (s : Scene K V) (old new : Held K V) → IsAt same hash old s → RefinesKept name m known s
      → (map i : ℕ) (standing : Standing K) → s.enders i ≡ None → IsAt same hash new (ending_begun map i standing s) → RefinesKept name m known (ending_begun map i standing s)

  abbrev pub EndingsPreserveKept : Type 0
  EndingsPreserveKept =
      (name : ℕ → List ℕ) (m : Moment K V) (known : Known) (s : Scene K V) (old new : Held K V) → IsAt same hash old s → RefinesWhole same name m known s → RefinesKept name m known s
      → (i : ℕ) (said : Settled (Node K V)) (leads : EndingLeads same hash i said s old new) (f : Finishing K V) (here : s.enders i ≡ Some f) (map : ℕ) → s.maps map ≡ None
      → (let to = leads f here in
      let led = ending_after same hash s new i f to.0 to.2.w2 to.2.deed said to.3 in
      IsAt same hash new led
      → RefinesKept name (with_effects None (Some map) (effects_of (acts.Ending map) known new.changed) m) (known_after (acts.Ending map) new.changed known) led)

  -- and what waits behind a table that ends with its map is not reclaimed.
  abbrev pub EndingsFindKept : Type 0
  EndingsFindKept =
      (name : ℕ → List ℕ) (m : Moment K V) (known : Known) (s : Scene K V) (old new : Held K V) → IsAt same hash old s → RefinesWhole same name m known s → RefinesKept name m known s
      → (i : ℕ) (said : Settled (Node K V)) → EndingLeads same hash i said s old new → (f : Finishing K V) → s.enders i ≡ Some f → (map : ℕ) → s.maps map ≡ None
      → AtEachEffect WaitsOn None (Some map) (effects_of (acts.Ending map) known new.changed) m
