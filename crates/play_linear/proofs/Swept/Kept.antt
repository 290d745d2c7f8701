-- What is so of a history, of what is known, and of the scene to which acts have led, and stays so by each kind of step, beside what else is so of them: its entry, if there is one, is on the history then.
use Rattle.std.specs.Prelude.{◌≡◌, ℕ, Bool, true, false, List, [], ◌∷◌, Option, Some, None, Ok}
use Rattle.seize_acts.specs.Given.SeizeWorld.{Begin, Rests, Step}
use Rattle.seize_acts.specs.Given.SeizeDeclared.advance.Advance.{Advance as Making}
use Rattle.seize_acts.specs.Given.SeizeDeclared.advance.Advance.TheVariants as progress
use Rattle.seize_acts.specs.Given.SeizeDeclared.rows.reclaim_all.ReclaimAll.{ReclaimAll}
use Rattle.seize_acts.specs.Given.SeizeDeclared.rows.settle.Settled.{Settled}
use Rattle.run_logged.specs.Given.SweepsSweepPoints.{after_next}
use Rattle.play_lists.specs.Given.TablesDeclared.node.Node.{Node}
use Rattle.play_lists.specs.Given.TablesDeclared.setting.Setting.{Setting}
use Rattle.run_logged.specs.Given.ResizeDeclared.new_map.NewMap.{NewMap}
use Rattle.run_logged.specs.Given.RawMachine.{machine_replied}
use Rattle.run_logged.specs.Given.RawDeclared.machines.progress.Progress.{Progress}
use Rattle.run_logged.specs.Given.CallersOverAll.{CallOverAll, gone_on}
use Rattle.run_logged.specs.Given.CallersTogether.{OverAll, UnderWay}
use Rattle.play_lists.specs.Given.FinishesEndings.{Finishing}
use Rattle.play_lists.specs.Given.FinishesMachines.{RepliedOfKind, machine_of}
use Rattle.play_lists.specs.Given.FinishesMakings.{Beginning, HasMade}
use Rattle.play_lists.specs.Given.FinishesMaps.{Standing, with_call}
use Rattle.run_schedules.specs.declared.call.Call.{Call}
use Rattle.run_schedules.specs.declared.call.Reply.{Reply}
use Rattle.run_schedules.specs.declared.outcome.Outcome.{Outcome}
use Rattle.run_schedules.specs.declared.outcome.Outcome.TheVariants as outcome
use Rattle.run_schedules.specs.Schedules.Effects.{AtEachEffect, with_effects}
use Rattle.run_schedules.specs.Schedules.Entry.{ends_call}
use Rattle.run_schedules.specs.Schedules.Moment.{Asking, MapThere, UnderWay as CallThere}
use Rattle.run_schedules.specs.Schedules.Views.{call_of, tables_of}
use Rattle.play_lists.specs.Given.EffectsEffects.{effects_of, known_after}
use Rattle.play_lists.specs.Given.EffectsKnown.{Known}
use Rattle.play_lists.specs.Given.EffectsDeclared.acting.Acting.TheVariants as acts
use Rattle.play_lists.specs.Given.ScenesBeginning.{Begins as BeginsSo}
use Rattle.play_lists.specs.Given.ScenesEnding.{EndingLeads, ending_begun}
use Rattle.play_lists.specs.Given.ScenesHeld.{Held, IsAt}
use Rattle.play_lists.specs.Given.ScenesMaking.{MakingLeads, scene_making}
use Rattle.play_lists.specs.Given.ScenesOnSlots.{RowBegins, RowLeads}
use Rattle.play_lists.specs.Given.ScenesReclaiming.{IsReclaiming, ReclaimingLeads}
use Rattle.play_lists.specs.Given.ScenesReplying.{AskLeads, StopLeads, scene_with, unless_stopped}
use Rattle.play_lists.specs.Given.ScenesRows.{request_of}
use Rattle.play_lists.specs.Given.ScenesScene.{IsOnSlot, Scene, slot_of}
use Rattle.play_lists.specs.Given.ScenesStepping.{StepLeads, scene_after}
use Rattle.play_lists.specs.Given.ScenesDeclared.row.RowTold.{RowTold}
use Rattle.play_lists.specs.Given.ScenesDeclared.row.SlotCall.{SlotCall}
use Rattle.play_lists.specs.Given.ScenesDeclared.row.SlotRow.{SlotRow}
use Rattle.play_lists.specs.Given.FollowsCalling.{NoneNamed}
use Rattle.run_logged.specs.Given.HandsAsked.{reply_to_machine}
use Rattle.play_lists.specs.Given.OthersEndings.{ending_after}
use Rattle.play_lists.specs.Given.OthersMakings.{WasNew, making_after}
use Rattle.play_lists.specs.Given.OthersRows.{scene_then}
use Rattle.run_logged.specs.Given.MomentsEndings.{IsOfIts}
use Rattle.run_logged.specs.Given.MomentsNumbers.{AreFound}
use Rattle.run_logged.specs.Given.NamedSeen.{kind_of}
use Rattle.play_lists.specs.Given.ValuesValues.{KeepsValue}
use Rattle.play_lists.specs.Given.ActsActs.{Wanted, begun}
use Rattle.play_lists.specs.Given.ActsDoings.{scene_chosen}
use Rattle.play_lists.specs.Agrees.Fresh.{IsFresh}
use Rattle.run_schedules.specs.Deeds.Deeds.{Begins, Deed, Ends, Entry, Makes, MapComes, MapFails, MapGoes, ReclaimsAll, Replies, Steps, Stops, come, moment, named}
use Rattle.run_schedules.specs.Deeds.History.{past}
use Rattle.play_lists.specs.Played.Play.{call_for, has_root, is_over, is_refusal, making_outcome, outcome_of, pairs_for, row_deed, settled_outcome}
use Rattle.play_linear.specs.Linear.Shown.{RefinesAnswers}
use Rattle.play_linear.proofs.Linear.MapsPlayed.{IsApart}

-- the map that comes of a making
abbrev pub coming : {K : Type 0} → Beginning K → NewMap → MapThere
coming b next = record { name = named b.map; number = b.map; root = next.setting.root; mode = next.setting.mode; capacity = pairs_for next.len; first = 0 }

module _ {K V : Type 0} where
  -- an entry without effects
  abbrev pub alone : Deed K V → Outcome V → Entry K V
  alone deed o = record { deed = deed; outcome = o; effects = []; refused = false }

  -- the deed by which a map comes
  abbrev pub comes_by : Beginning K → NewMap → Deed K V
  comes_by b next = MapComes b.map next.setting.root next.setting.mode (pairs_for next.len)

module _ {K V : Type 0} (same : K → K → Bool) (hash : ℕ → K → ℕ) (R P : List (Entry K V) → Known → Scene K V → Type 0) where
  -- if the moment shows then what its next entry asks for
  abbrev pub Now : List (Entry K V) → Known → Scene K V → Type 0
  Now history known s = RefinesAnswers same (past history) (moment history) known s → P history known s

  -- from a history whose moment shows what its next entry asks for, of which something else is so
  abbrev pub From : (List (Entry K V) → Known → Scene K V → Held K V → Held K V → Type 0) → Type 0
  From Then =
      (history : List (Entry K V)) (known : Known) (s : Scene K V) (old new : Held K V) → IsAt same hash old s → RefinesAnswers same (past history) (moment history) known s → R history known s → P history known s
      → Then history known s old new

  pub record IsKept : Type 0 where
    -- It stays so where a call begins, takes a step, takes a reply, goes on as a walk, and is given up.
    pub calls_begin : From (λ history known s old new. (map i : ℕ) (standing : Standing K) → s.maps map ≡ Some standing → (wanted : Wanted K V)
        → (let u = begun same slot_of standing i wanted in
        BeginsSo same standing i u → NoneNamed named (named i) s → s.world.row i ≡ Rests → IsAt same hash new (scene_with map i u s)
        → Now (alone (Begins i (slot_of i) map (call_for wanted)) outcome.Goes ∷ history) known (scene_with map i u s)))
    pub calls_step : From (λ history known s old new. (map i : ℕ) (u : UnderWay K V K) (here : s.calls map i ≡ Some u) (said : Progress (Node K V)) (leads : StepLeads same hash i said s old new)
        → (d : CallThere K V) → call_of (named i) (moment history) ≡ Some d → (called : Call K V) → d.call ≡ called → (value : Option V) → KeepsValue d.call d.replies (machine_of u) value
        → (let known2 = known_after (acts.Call i map) new.changed known in
        let to = leads map u here in
        let s2 = scene_after same s old new map i to.0 u to.1 said to.4 in
        let o = outcome_of known2 (kind_of called) value said in
        let e : Entry K V = record { deed = Steps i; outcome = o; effects = effects_of (acts.Call i map) known new.changed; refused = is_refusal new.changed } in
        (ends_call o ≡ true → NoneNamed named (named i) s2) → Now (e ∷ history) known2 s2))
    pub calls_take : From (λ history known s old new. (map i : ℕ) (u : UnderWay K V K) → s.calls map i ≡ Some u
        → (d : CallThere K V) → call_of (named i) (moment history) ≡ Some d → (question : Option ℕ) → d.stands ≡ Asking question
        → (standing : Standing K) → s.maps map ≡ Some standing → (reply : Reply V) (next : UnderWay K V K)
        → machine_of next ≡ (machine_replied (machine_of u) (reply_to_machine reply)).0 → (machine_replied (machine_of u) (reply_to_machine reply)).1 ≡ Ok tt
        → RepliedOfKind V same same old.batch_size old.roots slot_of standing i u (reply_to_machine reply) next → IsAt same hash new (scene_with map i next s)
        → Now (alone (Replies i reply) outcome.Goes ∷ history) known (scene_with map i next s))
    pub walks_go_on : From (λ history known s old new. (map i : ℕ) (leads : AskLeads same hash i true s old new) (o : CallOverAll) (here : s.calls map i ≡ Some (OverAll o))
        → (leads map (OverAll o) here).0 ≡ OverAll (gone_on o (after_next o.sweep)) → Now history known (scene_with map i (leads map (OverAll o) here).0 s))
    pub walks_stop : From (λ history known s old new. (map i : ℕ) → StopLeads same hash i true s old new → (u : UnderWay K V K) → s.calls map i ≡ Some u
        → (let then_at = record s { calls = with_call s.calls map i (unless_stopped true u) } in
        NoneNamed named (named i) then_at → Now (alone (Stops i) outcome.Done ∷ history) known then_at))
    -- It does where a row begins on a slot, and takes a step, and where who reclaims all takes one.
    pub rows_begin : From (λ history known s old new. (called : SlotCall) (i : ℕ) (leads : RowBegins same hash called i s old new)
        → Now history known (scene_then same hash (Begin i (request_of (slot_of i) called)) s old new leads.2))
    pub rows_step : From (λ history known s old new. (i : ℕ) (said : RowTold (Node K V)) (leads : RowLeads same hash i said s old new) (row : SlotRow) (here : IsOnSlot s i row) (o : Outcome V)
        → (let e : Entry K V = record { deed = row_deed row; outcome = o; effects = effects_of acts.Row known new.changed; refused = is_refusal new.changed } in
        Now (e ∷ history) (known_after acts.Row new.changed known) (scene_then same hash (Step i) s old new (leads row here).2)))
    pub all_step : (history : List (Entry K V)) (known : Known) (s : Scene K V) (old new : Held K V) → RefinesAnswers same (past history) (moment history) known s → P history known s
        → (i : ℕ) (lists : ℕ → List ℕ) (before next : ReclaimAll) (told : Settled (Node K V)) → IsReclaiming same hash old s i lists before
        → (leads : ReclaimingLeads same hash s i lists old new before next told)
        → (let e : Entry K V = record { deed = ReclaimsAll (is_over told); outcome = settled_outcome told; effects = effects_of acts.Row known new.changed; refused = is_refusal new.changed } in
        Now (e ∷ history) (known_after acts.Row new.changed known) (record s { world = leads.1.w2; maps = leads.1.maps2 }))
    -- It does where the making of a map begins with a number of which nothing is there, and at its steps: by one its map comes, by one it is there no more.
    pub makings_begin : From (λ history known s old new. (i : ℕ) (b : Beginning K) → s.makers i ≡ None → (HasMade b.machine.stands → ⊥) → IsFresh b.map (moment history)
        → IsAt same hash new (scene_making i b s) → Now history known (scene_making i b s))
    pub makings_step : From (λ history known s old new. (i : ℕ) (said : Making Setting) (leads : MakingLeads same hash i said s old new) (b : Beginning K) (here : s.makers i ≡ Some b)
        → WasNew b.map said (moment history)
        → (let to = leads b here in
        let made = making_after same hash s old new i b to.0 to.2.step.w2 said to.3 in
        let e : Entry K V = record { deed = Makes b.map; outcome = making_outcome said; effects = effects_of (acts.Making b.map) known new.changed; refused = is_refusal new.changed } in
        IsAt same hash new made → Now (e ∷ history) (known_after (acts.Making b.map) new.changed known) made))
    pub maps_come : From (λ history known s old new. (i : ℕ) (said : Making Setting) (leads : MakingLeads same hash i said s old new) (b : Beginning K) (here : s.makers i ≡ Some b) (next : NewMap)
        → has_root b.machine.stands ≡ false → said ≡ progress.Goes → tables_of b.map (moment history) ≡ [] → WasNew b.map said (come (coming b next) (moment history))
        → (let to = leads b here in
        let made = making_after same hash s old new i b to.0 to.2.step.w2 said to.3 in
        let e : Entry K V = record { deed = comes_by b next; outcome = making_outcome said; effects = effects_of (acts.Making b.map) known new.changed; refused = is_refusal new.changed } in
        IsAt same hash new made → Now (e ∷ history) (known_after (acts.Making b.map) new.changed known) made))
    pub maps_fail : From (λ history known s old new. (i : ℕ) (said : Making Setting) (leads : MakingLeads same hash i said s old new) (b : Beginning K) (here : s.makers i ≡ Some b)
        → WasNew b.map said (moment history)
        → (let to = leads b here in
        let v = with_effects None (Some b.map) (effects_of (acts.Making b.map) known new.changed) (moment history) in
        let made = making_after same hash s old new i b to.0 to.2.step.w2 said to.3 in
        let e : Entry K V = record { deed = MapFails b.map; outcome = making_outcome said; effects = effects_of (acts.Making b.map) known new.changed; refused = is_refusal new.changed } in
        AreFound v → IsApart b.map v made → IsAt same hash new made → Now (e ∷ history) (known_after (acts.Making b.map) new.changed known) made))
    -- And so it does where the end of a map begins, and at its steps: by the last one the map is there no more.
    pub ends_begin : From (λ history known s old new. (map i : ℕ) (standing : Standing K) → s.maps map ≡ Some standing → s.enders i ≡ None → IsAt same hash new (ending_begun map i standing s)
        → Now history known (ending_begun map i standing s))
    pub ends_step : From (λ history known s old new. (i : ℕ) (said : Settled (Node K V)) (leads : EndingLeads same hash i said s old new) (f : Finishing K V) (here : s.enders i ≡ Some f) (map : ℕ)
        → s.maps map ≡ None → AtEachEffect (IsOfIts map) None (Some map) (effects_of (acts.Ending map) known new.changed) (moment history)
        → (let to = leads f here in
        let ended = ending_after same hash s new i f to.0 to.2.w2 to.2.deed said to.3 in
        let e : Entry K V = record { deed = Ends map; outcome = settled_outcome said; effects = effects_of (acts.Ending map) known new.changed; refused = is_refusal new.changed } in
        IsAt same hash new ended → Now (e ∷ history) (known_after (acts.Ending map) new.changed known) ended))
    pub maps_go : From (λ history known s old new. (i : ℕ) (said : Settled (Node K V)) (leads : EndingLeads same hash i said s old new) (f : Finishing K V) (here : s.enders i ≡ Some f) (map : ℕ)
        → s.maps map ≡ None → AtEachEffect (IsOfIts map) None (Some map) (effects_of (acts.Ending map) known new.changed) (moment history)
        → (let to = leads f here in
        let v = with_effects None (Some map) (effects_of (acts.Ending map) known new.changed) (moment history) in
        let ended = ending_after same hash s new i f to.0 to.2.w2 to.2.deed said to.3 in
        let e : Entry K V = record { deed = MapGoes map; outcome = settled_outcome said; effects = effects_of (acts.Ending map) known new.changed; refused = is_refusal new.changed } in
        AreFound v → IsApart map v ended → IsAt same hash new ended → Now (e ∷ history) (known_after (acts.Ending map) new.changed known) ended))
    -- And where a choice of a number comes.
    pub choices_come : (history : List (Entry K V)) (known : Known) (s : Scene K V) → RefinesAnswers same (past history) (moment history) known s → P history known s → (choice : ℕ)
        → Now history known (scene_chosen choice s)
