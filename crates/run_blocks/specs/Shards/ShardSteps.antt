-- What is promised of the words of maps' counts: the memory's are those of the moment, whoever takes a step.
use Rattle.std.specs.Prelude.{◌≡◌, ℕ, Bool, true, false, List, Option, Some, None}
use Rattle.run_debts.specs.Given.SeizeWorld.{Begin, Step, with_at}
use Rattle.run_debts.specs.Given.SeizeDeclared.advance.Advance.{Advance as Making}
use Rattle.run_debts.specs.Given.SeizeDeclared.rows.settle.Settled.{Settled}
use Rattle.run_debts.specs.Given.TablesDeclared.node.Node.{Node}
use Rattle.run_debts.specs.Given.TablesDeclared.setting.Setting.{Setting}
use Rattle.run_debts.specs.Given.RawMachine.{machine_replied}
use Rattle.run_debts.specs.Given.RawDeclared.machines.asking.MachineReply.{MachineReply}
use Rattle.run_debts.specs.Given.RawDeclared.machines.progress.Progress.{Progress}
use Rattle.run_debts.specs.Given.RunsDeclared.call.Call.{Call}
use Rattle.run_debts.specs.Given.RunsDeclared.call.Reply.{Reply}
use Rattle.run_debts.specs.Given.RunsDeclared.outcome.Outcome.{Outcome}
use Rattle.run_debts.specs.Given.SchedulesBeginning.{with_call}
use Rattle.run_debts.specs.Given.SchedulesEffects.{with_effects}
use Rattle.run_debts.specs.Given.SchedulesEntry.{ends_call}
use Rattle.run_debts.specs.Given.SchedulesMoment.{Moment}
use Rattle.owner_calls.specs.Given.CallersTogether.{UnderWay, ForRoom, Counting}
use Rattle.run_debts.specs.Given.EffectsEffects.{effects_of}
use Rattle.run_debts.specs.Given.EffectsKnown.{Known}
use Rattle.run_debts.specs.Given.EffectsDeclared.acting.Acting.TheVariants as acts
use Rattle.run_debts.specs.Given.ScenesDeclared.row.RowTold.{RowTold}
use Rattle.run_debts.specs.Given.ScenesDeclared.row.SlotCall.{SlotCall}
use Rattle.run_debts.specs.Given.ScenesDeclared.row.SlotRow.{SlotRow}
use Rattle.run_debts.specs.Given.FinishesEndings.{Finishing}
use Rattle.run_debts.specs.Given.FinishesMachines.{machine_of}
use Rattle.run_debts.specs.Given.FinishesMakings.{Beginning, HasMade}
use Rattle.run_debts.specs.Given.FinishesMaps.{Standing}
use Rattle.run_debts.specs.Given.FollowsCalling.{NoneNamed, told, come_to}
use Rattle.run_debts.specs.Given.MomentsWhole.{RefinesWhole}
use Rattle.run_debts.specs.Given.OthersEndings.{ending_after}
use Rattle.run_debts.specs.Given.OthersMakings.{making_after}
use Rattle.run_debts.specs.Given.OthersRows.{scene_then}
use Rattle.run_blocks.specs.Shards.Adds.{adds_of}
use Rattle.run_debts.specs.Counts.{is_to_count, RefinesCounts}
use Rattle.run_blocks.specs.Shards.ShardWords.{IsUncounted, RefinesCounters}
use Rattle.run_debts.specs.Given.ScenesEnding.{EndingLeads, ending_begun}
use Rattle.run_debts.specs.Given.ScenesHeld.{Held, IsAt}
use Rattle.run_debts.specs.Given.ScenesMaking.{MakingLeads}
use Rattle.run_debts.specs.Given.ScenesOnSlots.{RowBegins, RowLeads}
use Rattle.run_debts.specs.Given.ScenesReplying.{scene_with}
use Rattle.run_debts.specs.Given.ScenesRows.{request_of}
use Rattle.run_debts.specs.Given.ScenesScene.{IsOnSlot, Scene, slot_of}
use Rattle.run_debts.specs.Given.ScenesStepping.{StepLeads, scene_after}

-- it adds shards up, or may
abbrev pub AddsUp : {K V : Type 0} → UnderWay K V K → Type 0
AddsUp (ForRoom r) = Unit {0}
AddsUp (Counting sum) = Unit {0}
AddsUp _ = ⊥

module _ (K V : Type 0) (same : K → K → Bool) (hash : ℕ → K → ℕ) where
  -- The promises: so it is after each step of a call, whoever's: one that counts changes its shard alone, to what the moment says of it then,
  abbrev pub CallsPreserveCounters : Type 0
  CallsPreserveCounters =
      (name : ℕ → List ℕ) (m : Moment K V) (known : Known) (s : Scene K V) (old new : Held K V) → IsAt same hash old s
      → RefinesWhole same name m known s → RefinesCounts name m s → RefinesCounters name m s
      → (map i : ℕ) (u : UnderWay K V K) (here : s.calls map i ≡ Some u) (said : Progress (Node K V)) (leads : StepLeads same hash i said s old new)
      → (let to = leads map u here in
      RefinesCounters name (with_effects (Some (name i)) (Some map) (effects_of (acts.Call i map) known new.changed) m) (scene_after same s old new map i to.0 u to.1 said to.4))

  -- and a reservation and a counting count nothing,
  abbrev pub RoomsCountNothing : Type 0
  RoomsCountNothing =
      (name : ℕ → List ℕ) (m : Moment K V) (known : Known) (s : Scene K V) (old new : Held K V) → IsAt same hash old s → RefinesWhole same name m known s
      → (map i : ℕ) (u : UnderWay K V K) (here : s.calls map i ≡ Some u) (said : Progress (Node K V)) (leads : StepLeads same hash i said s old new) → AddsUp u
      → (with_effects (Some (name i)) (Some map) (effects_of (acts.Call i map) known new.changed) m).shards ≡ m.shards

  -- where a row begins on a slot, and after each step of it,
  abbrev pub RowsBeginCounters : Type 0
  RowsBeginCounters =
      (name : ℕ → List ℕ) (m : Moment K V) (s : Scene K V) (old new : Held K V) → IsAt same hash old s → RefinesCounters name m s
      → (called : SlotCall) (i : ℕ) (leads : RowBegins same hash called i s old new)
      → RefinesCounters name m (scene_then same hash (Begin i (request_of (slot_of i) called)) s old new leads.2)

  abbrev pub RowsPreserveCounters : Type 0
  RowsPreserveCounters =
      (name : ℕ → List ℕ) (m : Moment K V) (known : Known) (s : Scene K V) (old new : Held K V) → IsAt same hash old s → RefinesWhole same name m known s → RefinesCounters name m s
      → (i : ℕ) (said : RowTold (Node K V)) (leads : RowLeads same hash i said s old new) (row : SlotRow) (here : IsOnSlot s i row)
      → RefinesCounters name (with_effects None None (effects_of acts.Row known new.changed) m) (scene_then same hash (Step i) s old new (leads row here).2)

  -- after each step of a making, on whichever map its effects are told, if on any,
  abbrev pub MakingsPreserveCounters : Type 0
  MakingsPreserveCounters =
      (name : ℕ → List ℕ) (m : Moment K V) (known : Known) (s : Scene K V) (old new : Held K V) → IsAt same hash old s → RefinesWhole same name m known s → RefinesCounters name m s
      → (i : ℕ) (said : Making Setting) (leads : MakingLeads same hash i said s old new) (b : Beginning K) (here : s.makers i ≡ Some b) (of : Option ℕ)
      → (let to = leads b here in
      RefinesCounters name (with_effects None of (effects_of (acts.Making b.map) known new.changed) m) (making_after same hash s old new i b to.0 to.2.step.w2 said to.3))

  -- and of an end.
  abbrev pub EndingsPreserveCounters : Type 0
  EndingsPreserveCounters =
      (name : ℕ → List ℕ) (m : Moment K V) (known : Known) (s : Scene K V) (old new : Held K V) → IsAt same hash old s → RefinesCounters name m s
      → (i : ℕ) (said : Settled (Node K V)) (leads : EndingLeads same hash i said s old new) (f : Finishing K V) (here : s.enders i ≡ Some f) (map : ℕ)
      → (let to = leads f here in
      RefinesCounters name (with_effects None (Some map) (effects_of (acts.Ending map) known new.changed) m) (ending_after same hash s new i f to.0 to.2.w2 to.2.deed said to.3))

module _ (K V : Type 0) where
  -- So it is where the making of a map begins on which nothing was counted,
  abbrev pub MakingsBeginCounters : Type 0
  MakingsBeginCounters =
      (name : ℕ → List ℕ) (m : Moment K V) (s : Scene K V) → RefinesCounters name m s
      → (i : ℕ) (b : Beginning K) → (HasMade b.machine.stands → ⊥) → IsUncounted b.map m → RefinesCounters name m (record s { makers = with_at s.makers i (Some b) })

  -- where the end of a map begins,
  abbrev pub EndingsBeginCounters : Type 0
  EndingsBeginCounters =
      (name : ℕ → List ℕ) (m : Moment K V) (s : Scene K V) → RefinesCounters name m s → (map i : ℕ) (standing : Standing K) → RefinesCounters name m (ending_begun map i standing s)

  -- where a call begins that has nothing to count, by a name that no call under way has,
  abbrev pub CallsBeginCounters : Type 0
  CallsBeginCounters =
      (name : ℕ → List ℕ) (m : Moment K V) (s : Scene K V) → RefinesCounters name m s
      → (map i : ℕ) (u : UnderWay K V K) (call : Call K V) (guard : List ℕ) → NoneNamed name (name i) s → is_to_count (machine_of u) ≡ false
      → RefinesCounters name (with_call (name i) guard call (Some map) m) (scene_with map i u s)

  -- where one that asks goes on by what it is told,
  abbrev pub CallsTakeCounters : Type 0
  CallsTakeCounters =
      (same : K → K → Bool) (name : ℕ → List ℕ) (m : Moment K V) (known : Known) (s : Scene K V) → RefinesWhole same name m known s → RefinesCounters name m s
      → (map i : ℕ) (u : UnderWay K V K) → s.calls map i ≡ Some u → (reply : MachineReply V) (next : UnderWay K V K) → machine_of next ≡ (machine_replied (machine_of u) reply).0
      → (is_told : Reply V) → RefinesCounters name (told (name i) is_told m) (scene_with map i next s)

  -- where one comes to an outcome: where that is its end, no call under way has its name any more;
  abbrev pub CallsComeToCounters : Type 0
  CallsComeToCounters =
      (same : K → K → Bool) (name : ℕ → List ℕ) (m : Moment K V) (known : Known) (s : Scene K V) → RefinesWhole same name m known s → RefinesCounters name m s
      → (own : List ℕ) (outcome : Outcome V) (steps : ℕ) → (ends_call outcome ≡ true → NoneNamed name own s) → RefinesCounters name (come_to own outcome steps m) s

  -- and at another moment that has the same calls and the same shards, as where a map comes or is there no more, with no other call, the same maps and the same memory.
  abbrev pub CountersStay : Type 0
  CountersStay =
      (name : ℕ → List ℕ) (m v : Moment K V) (s t : Scene K V) → RefinesCounters name m s → v.calls ≡ m.calls → v.shards ≡ m.shards
      → t.world.memory ≡ s.world.memory → t.maps ≡ s.maps → t.makers ≡ s.makers
      → ((of i : ℕ) (u : UnderWay K V K) → t.calls of i ≡ Some u → (removed : ℕ) → adds_of (machine_of u) ≡ Some removed
      → (before : UnderWay K V K) × (s.calls of i ≡ Some before) × (adds_of (machine_of before) ≡ Some removed)) → RefinesCounters name v t
