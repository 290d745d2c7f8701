-- Once an event is over the moment after it shows all that the next event needs: where it does nothing, chooses the number of a block, has a call say again what it has said, begins one, tells it a reply, or gives a walk up; and where it has made a map, or ended one.
use Rattle.std.specs.Prelude.{◌≡◌, ◌<◌, ◌^◌, ℕ, Bool, true, false, List, [], ◌∷◌, Option, Some, None, Ok}
use Rattle.std.specs.List.{AllByRecursion}
use Rattle.run_grows.specs.Given.SeizeWordsDeclared.fault.Fault.TheVariants.{Busy}
use Rattle.run_grows.specs.Given.SeizeWorld.{Rests, with_at}
use Rattle.run_grows.specs.Given.RunsSame.{is_same}
use Rattle.run_grows.specs.Given.RunsDeclared.call.Call.{Call}
use Rattle.run_grows.specs.Given.RunsDeclared.call.Call.TheVariants.{On}
use Rattle.run_grows.specs.Given.RunsDeclared.call.OneKey.{OneKey}
use Rattle.run_grows.specs.Given.RunsDeclared.call.Reply.{Reply}
use Rattle.run_grows.specs.Given.TablesDeclared.resize_mode.ResizeMode.{ResizeMode}
use Rattle.run_grows.specs.Given.RunsDeclared.effect.Effect.{Effect}
use Rattle.run_grows.specs.Given.RunsDeclared.event.Event.{Event}
use Rattle.run_grows.specs.Given.RunsDeclared.event.Event.TheVariants.{Choose, MakeMap, EndMap, Begin, Step, Go, Replied, OneCall, Next, Stop}
use Rattle.run_grows.specs.Given.RunsDeclared.outcome.Outcome.{Outcome}
use Rattle.run_grows.specs.Given.RunsDeclared.outcome.Outcome.TheVariants.{Asks, Done, Goes, Ready, Refused}
use Rattle.run_grows.specs.Given.SchedulesAfter.{moment}
use Rattle.run_grows.specs.Given.SchedulesBeginning.{at_work, begun, with_map}
use Rattle.run_grows.specs.Given.SchedulesEffects.{AtEachEffect}
use Rattle.run_grows.specs.Given.SchedulesEntry.{Entry, acted_on, caller_of, is_busy}
use Rattle.run_grows.specs.Given.SchedulesHanding.{MovesOn}
use Rattle.run_grows.specs.Given.SchedulesInTurn.{HasRightOutcome}
use Rattle.run_grows.specs.Given.SchedulesModel.{IsByModel, changes_of, left_last}
use Rattle.run_grows.specs.Given.SchedulesMoment.{UnderWay as CallThere, CallState, Asking, IsReady, MapThere, Moment}
use Rattle.run_grows.specs.Given.SchedulesTerms.{Terms}
use Rattle.run_grows.specs.Given.SchedulesViews.{call_of, map_at, number_of}
use Rattle.run_grows.specs.Given.RawMachine.{machine_asked, machine_replied}
use Rattle.run_grows.specs.Given.CallersTogether.{UnderWay}
use Rattle.run_grows.specs.Given.EffectsKnown.{Known}
use Rattle.run_grows.specs.Given.FinishesMachines.{machine_of, RepliedOfKind}
use Rattle.run_grows.specs.Given.FinishesMakings.{Beginning, HasMade}
use Rattle.run_grows.specs.Given.FinishesMaps.{Standing, with_call as with_call_of}
use Rattle.run_grows.specs.Given.FollowsCalling.{NoneNamed}
use Rattle.run_grows.specs.Given.HandsAsked.{reply_to_machine}
use Rattle.run_grows.specs.Given.MomentsWhole.{RefinesWhole}
use Rattle.run_grows.specs.Given.ChangesChanges.{IsTaken}
use Rattle.run_grows.specs.Given.KeptKept.{RefinesKept}
use Rattle.run_logged.specs.Log.Choosing.{scene_chosen}
use Rattle.run_grows.specs.Given.PromisesReading.{RefinesReadings}
use Rattle.run_grows.specs.Given.PromisesSheltered.{SectionsHold}
use Rattle.run_grows.specs.Given.ModelsFollows.{FollowsModel}
use Rattle.run_grows.specs.Given.ModelsNumbers.{EachIsOnce}
use Rattle.run_grows.specs.Given.FindsLife.{StoresOne}
use Rattle.run_grows.specs.Given.FindsLittle.{ReclaimsAll}
use Rattle.run_legal.specs.Between.{IsBegunRight, IsLike}
use Rattle.run_legal.specs.CallEvents.{IsLegalBut}
use Rattle.run_legal.specs.Carried.{IsSequential, FollowsOrRows, RefinesAllCalls, RefinesRun}
use Rattle.run_legal.specs.MapEvents.{InEndEvent, InMakingEvent, InMapEvent}
use Rattle.run_grows.specs.Given.ScenesBeginning.{Begins}
use Rattle.run_grows.specs.Given.ScenesEnding.{ending_begun}
use Rattle.run_grows.specs.Given.ScenesHeld.{Held, IsAt}
use Rattle.run_grows.specs.Given.ScenesReplying.{StopLeads, scene_with, unless_stopped}
use Rattle.run_grows.specs.Given.ScenesScene.{HasCall, Scene, slot_of}
use Rattle.run_grows.specs.Given.SchedulesTransition.{past}

-- by such an event calls and maps are as they were: it is none that makes or ends a map, begins a call, tells it a reply, gives it up, or takes its steps, or it is kept out
abbrev pub LeavesAll : {K V : Type 0} → Event K V → Outcome V → ℕ → Type 0
LeavesAll (MakeMap map mode capacity) Done steps = ⊥
LeavesAll (EndMap map) Done steps = ⊥
LeavesAll (Begin caller guard map call) Goes steps = ⊥
LeavesAll (Replied caller reply) Goes steps = ⊥
LeavesAll (Stop caller) Done steps = ⊥
LeavesAll (OneCall guard map call) outcome steps = (outcome ≡ Refused Busy) × (steps ≡ 0)
LeavesAll (Step caller refuse) outcome steps = (outcome ≡ Refused Busy) × (steps ≡ 0)
LeavesAll (Go caller refuse) outcome steps = (outcome ≡ Refused Busy) × (steps ≡ 0)
LeavesAll (Next caller) outcome steps = (outcome ≡ Refused Busy) × (steps ≡ 0)
LeavesAll _ outcome steps = Unit {0}

-- an event would have the call of this caller go on
abbrev pub ContinuesBy : {K V : Type 0} → Event K V → List ℕ → Type 0
ContinuesBy (Step caller refuse) own = caller ≡ own
ContinuesBy (Go caller refuse) own = caller ≡ own
ContinuesBy _ own = ⊥

-- the call asks just this already, or is ready
abbrev pub IsSaidSo : {V : Type 0} → Outcome V → CallState → Type 0
IsSaidSo (Asks question) stands = stands ≡ Asking question
IsSaidSo Ready stands = stands ≡ IsReady
IsSaidSo _ stands = ⊥

module _ (K V : Type 0) (same : K → K → Bool) where
  -- The promises: a run goes on with an event that comes to what is right, whose life is as it must be, whose effects store one pair at most, each, and by which all is back if it reclaims all;
  -- if the moment after it shows what it must of calls, of readings, sections and sets.
  abbrev pub RunsContinue : Type 0
  RunsContinue =
      (name name2 : ℕ → List ℕ) (terms : Terms) (log : List (Entry K V)) (first known : Known) (before s : Scene K V) → RefinesRun same name terms log first before
      → (e : Entry K V) → HasRightOutcome terms log e → MovesOn terms log e
      → (let b = at_work e (moment log) in AtEachEffect (StoresOne (caller_of e.event)) (caller_of e.event) (acted_on e.event b) e.effects b) → ReclaimsAll log e
      → RefinesAllCalls same name2 (past log) (moment (e ∷ log)) known s → RefinesReadings name2 (past log) (λ j. 0) (moment (e ∷ log)) s → SectionsHold (moment (e ∷ log)) known s.world
      → ((moment (e ∷ log)).is_alone ≡ true → FollowsOrRows terms (e ∷ log) known s.world) → RefinesRun same name2 terms (e ∷ log) known s

  -- It goes on by other names of callers that have no call,
  abbrev pub RunsByOtherNames : Type 0
  RunsByOtherNames =
      (name name2 : ℕ → List ℕ) (terms : Terms) (log : List (Entry K V)) (known : Known) (s : Scene K V) → ((i : ℕ) → HasCall s i → name2 i ≡ name i) → RefinesRun same name terms log known s
      → RefinesRun same name2 terms log known s

  -- with an event that has no effects and leaves the waiting sets, if the moment after it is like one that shows all of a scene in which the collector is as it was,
  abbrev pub SilentEventsEnd : Type 0
  SilentEventsEnd =
      (name : ℕ → List ℕ) (terms : Terms) (log : List (Entry K V)) (known : Known) (before s : Scene K V) → RefinesRun same name terms log known before
      → (e : Entry K V) → HasRightOutcome terms log e → MovesOn terms log e → e.effects ≡ [] → changes_of log e ≡ [] → left_last e.event e.outcome (moment log) ≡ [] → ReclaimsAll log e
      → (v : Moment K V) → RefinesAllCalls same name (past log) v known s → RefinesReadings name (past log) (λ j. 0) v s → IsLike v (moment (e ∷ log)) → s.world ≡ before.world → SectionsHold (moment (e ∷ log)) known s.world
      → RefinesRun same name terms (e ∷ log) known s

  -- and so with one by which calls and maps are as they were.
  abbrev pub IdleEventsEnd : Type 0
  IdleEventsEnd =
      (name : ℕ → List ℕ) (terms : Terms) (log : List (Entry K V)) (known : Known) (s : Scene K V) → RefinesRun same name terms log known s
      → (e : Entry K V) → HasRightOutcome terms log e → MovesOn terms log e → e.effects ≡ [] → changes_of log e ≡ [] → left_last e.event e.outcome (moment log) ≡ [] → ReclaimsAll log e
      → LeavesAll e.event e.outcome e.steps → SectionsHold (moment (e ∷ log)) known s.world → RefinesRun same name terms (e ∷ log) known s

  -- It is legal that an event chooses the number of a block, and a run goes on with it in the scene whose memory has that choice, if no call is in the midst of a row where the event comes alone.
  abbrev pub ChoicesEnd : Type 0
  ChoicesEnd =
      (name : ℕ → List ℕ) (terms : Terms) (log : List (Entry K V)) (known : Known) (s : Scene K V) → RefinesRun same name terms log known s → (choice : ℕ)
      → (IsSequential (Choose choice) log → FollowsModel terms.batch_size terms.roots log known s.world)
      → RefinesWhole same name (moment log) known (scene_chosen choice s) → RefinesKept name (moment log) known (scene_chosen choice s) → (steps : ℕ)
      → (let e : Entry K V = record { event = Choose choice; outcome = Done; steps = steps; effects = [] } in
      HasRightOutcome terms log e → IsLegalBut same terms log e × RefinesRun same name terms (e ∷ log) known (scene_chosen choice s))

module _ (K V : Type 0) (same : K → K → Bool) (hash : ℕ → K → ℕ) where
  -- It is legal, and a run goes on with it, that an event begins a call on the map of this name,
  abbrev pub BegunEventsEnd : Type 0
  BegunEventsEnd =
      (name : ℕ → List ℕ) (terms : Terms) (log : List (Entry K V)) (known : Known) (s : Scene K V) (old new : Held K V) → IsAt same hash old s → RefinesRun same name terms log known s
      → (map i : ℕ) (standing : Standing K) → s.maps map ≡ Some standing → (u : UnderWay K V K) (call : Call K V) (guard : List ℕ) → Begins same standing i u → IsBegunRight same u call
      → NoneNamed name (name i) s → s.world.row i ≡ Rests → IsAt same hash new (scene_with map i u s) → (on : List ℕ) → number_of on (moment log) ≡ Some map → (steps : ℕ)
      → (let e : Entry K V = record { event = Begin (name i) guard on call; outcome = Goes; steps = steps; effects = [] } in
      HasRightOutcome terms log e → IsLegalBut same terms log e × RefinesRun same name terms (e ∷ log) known (scene_with map i u s))

  -- that has one say again what it asks, or that it is ready, as each call of its name does and the machine of a walk, and does nothing,
  abbrev pub AgainEventsEnd : Type 0
  AgainEventsEnd =
      (name : ℕ → List ℕ) (terms : Terms) (log : List (Entry K V)) (known : Known) (s : Scene K V) (x : Held K V) → IsAt same hash x s → RefinesRun same name terms log known s
      → (map i : ℕ) (u : UnderWay K V K) → s.calls map i ≡ Some u → (c : CallThere K V) → call_of (name i) (moment log) ≡ Some c → (event : Event K V) → ContinuesBy event (name i)
      → (said : Outcome V) → IsSaidSo said c.stands → (said ≡ Ready → (machine_asked (machine_of u)).1 ≡ true)
      → AllByRecursion (λ d. is_same d.caller (name i) ≡ true → IsSaidSo said d.stands) (moment log).calls
      → (let e : Entry K V = record { event = event; outcome = said; steps = 0; effects = [] } in HasRightOutcome terms log e → IsLegalBut same terms log e × RefinesRun same name terms (e ∷ log) known s)

  -- that tells a reply to one that asks and takes it,
  abbrev pub RepliedEventsEnd : Type 0
  RepliedEventsEnd =
      (name : ℕ → List ℕ) (terms : Terms) (log : List (Entry K V)) (known : Known) (s : Scene K V) (old new : Held K V) → IsAt same hash old s → RefinesRun same name terms log known s
      → (map i : ℕ) (u : UnderWay K V K) → s.calls map i ≡ Some u → (c : CallThere K V) → call_of (name i) (moment log) ≡ Some c → (question : Option ℕ) → c.stands ≡ Asking question
      → (standing : Standing K) → s.maps map ≡ Some standing → (is_told : Reply V) (next : UnderWay K V K)
      → machine_of next ≡ (machine_replied (machine_of u) (reply_to_machine is_told)).0 → (machine_replied (machine_of u) (reply_to_machine is_told)).1 ≡ Ok tt
      → RepliedOfKind V same same old.batch_size old.roots slot_of standing i u (reply_to_machine is_told) next → ((one : OneKey K V) → c.call ≡ On one → IsTaken one is_told)
      → IsAt same hash new (scene_with map i next s) → (steps : ℕ)
      → (let e : Entry K V = record { event = Replied (name i) is_told; outcome = Goes; steps = steps; effects = [] } in
      HasRightOutcome terms log e → IsLegalBut same terms log e × RefinesRun same name terms (e ∷ log) known (scene_with map i next s))

  -- or that gives a walk up that is ready.
  abbrev pub StoppedEventsEnd : Type 0
  StoppedEventsEnd =
      (name : ℕ → List ℕ) (terms : Terms) (log : List (Entry K V)) (known : Known) (s : Scene K V) (old new : Held K V) → IsAt same hash old s → RefinesRun same name terms log known s
      → (i : ℕ) → StopLeads same hash i true s old new → (map : ℕ) (u : UnderWay K V K) → s.calls map i ≡ Some u → (steps : ℕ)
      → (let after = record s { calls = with_call_of s.calls map i (unless_stopped true u) } in
      let e : Entry K V = record { event = Stop (name i); outcome = Done; steps = steps; effects = [] } in
      NoneNamed name (name i) after → HasRightOutcome terms log e → IsLegalBut same terms log e × RefinesRun same name terms (e ∷ log) known after)

  -- An event that makes a map, or ends one, is in its midst where that begins, and no call is in the midst of a row if the event comes alone.
  abbrev pub MakingEventsBegin : Type 0
  MakingEventsBegin =
      (name : ℕ → List ℕ) (terms : Terms) (log : List (Entry K V)) (known : Known) (s : Scene K V) (old new : Held K V) → IsAt same hash old s → RefinesRun same name terms log known s
      → (own : List ℕ) (mode : ResizeMode) (capacity : ℕ) (there : MapThere) → there.number ≡ (moment log).made → (i : ℕ) (b : Beginning K) → s.makers i ≡ None → b.map ≡ there.number
      → (HasMade b.machine.stands → ⊥) → (IsSequential (MakeMap own mode capacity) log → FollowsModel terms.batch_size terms.roots log known s.world)
      → (let led = record s { makers = with_at s.makers i (Some b) } in
      IsAt same hash new led → InMakingEvent same name terms log (MakeMap own mode capacity) b.map (with_map there (moment log)) [] (with_map there (moment log)) known led)

  abbrev pub EndEventsBegin : Type 0
  EndEventsBegin =
      (name : ℕ → List ℕ) (terms : Terms) (log : List (Entry K V)) (known : Known) (s : Scene K V) (old new : Held K V) → IsAt same hash old s → RefinesRun same name terms log known s
      → terms.batch_size < 2 ^ 64 → (own : List ℕ) (map i : ℕ) (standing : Standing K) → s.maps map ≡ Some standing → s.enders i ≡ None
      → IsAt same hash new (ending_begun map i standing s) → (IsSequential (EndMap own) log → FollowsModel terms.batch_size terms.roots log known s.world)
      → InEndEvent same name terms log (EndMap own) map (moment log) known i [] (moment log) known (ending_begun map i standing s)

  -- Once one has ended a run goes on, if no map that stands has its name.
  abbrev pub EndEventsEnd : Type 0
  EndEventsEnd =
      (name : ℕ → List ℕ) (terms : Terms) (log : List (Entry K V)) (map : ℕ) (m : Moment K V) (first known : Known) (before s : Scene K V) (x : Held K V) → IsAt same hash x s
      → (own : List ℕ) (steps : ℕ) (effects : List Effect) → InMapEvent same name terms log (EndMap own) map (moment log) effects m known s → number_of own (moment log) ≡ Some map
      → ((n : ℕ) (standing : Standing K) (there : MapThere) → s.maps n ≡ Some standing → map_at n m ≡ Some there → is_same there.name own ≡ false)
      → RefinesRun same name terms log first before
      → (let e : Entry K V = record { event = EndMap own; outcome = Done; steps = steps; effects = effects } in
      HasRightOutcome terms log e → MovesOn terms log e → SectionsHold (moment (e ∷ log)) known s.world
      → ((moment (e ∷ log)).is_alone ≡ true → FollowsModel terms.batch_size terms.roots (e ∷ log) known s.world) → RefinesRun same name terms (e ∷ log) known s)

module _ (K V : Type 0) (same : K → K → Bool) where
  -- Where an event that makes a map was not kept out, it is by the model, and the sets are those of the model after it; so is one that ends a map, where that is over;
  abbrev pub MakingEventsFollow : Type 0
  MakingEventsFollow =
      (name : ℕ → List ℕ) (terms : Terms) (log : List (Entry K V)) (map : ℕ) (beginning m : Moment K V) (known : Known) (s : Scene K V) (e : Entry K V)
      → InMakingEvent same name terms log e.event map beginning e.effects m known s → is_busy e.outcome ≡ false
      → IsByModel terms log e × ((moment (e ∷ log)).is_alone ≡ true → FollowsModel terms.batch_size terms.roots (e ∷ log) known s.world)

  abbrev pub EndEventsFollow : Type 0
  EndEventsFollow =
      (name : ℕ → List ℕ) (terms : Terms) (log : List (Entry K V)) (map : ℕ) (beginning m : Moment K V) (first known : Known) (i : ℕ) (s : Scene K V) (e : Entry K V)
      → InEndEvent same name terms log e.event map beginning first i e.effects m known s → terms.batch_size < 2 ^ 64 → EachIsOnce first → s.enders i ≡ None → is_busy e.outcome ≡ false
      → IsByModel terms log e × ((moment (e ∷ log)).is_alone ≡ true → FollowsModel terms.batch_size terms.roots (e ∷ log) known s.world)

  -- and once a map was made, or its making was refused, a run goes on.
  abbrev pub MakingEventsEnd : Type 0
  MakingEventsEnd =
      (name : ℕ → List ℕ) (terms : Terms) (log : List (Entry K V)) (map : ℕ) (beginning m : Moment K V) (first known : Known) (before s : Scene K V)
      (own : List ℕ) (mode : ResizeMode) (capacity : ℕ) (outcome : Outcome V) (steps : ℕ) (effects : List Effect)
      → InMapEvent same name terms log (MakeMap own mode capacity) map beginning effects m known s → begun (MakeMap own mode capacity) outcome (moment log) ≡ beginning
      → number_of own beginning ≡ Some map → RefinesRun same name terms log first before
      → (let e : Entry K V = record { event = MakeMap own mode capacity; outcome = outcome; steps = steps; effects = effects } in
      HasRightOutcome terms log e → MovesOn terms log e → SectionsHold (moment (e ∷ log)) known s.world
      → ((moment (e ∷ log)).is_alone ≡ true → FollowsModel terms.batch_size terms.roots (e ∷ log) known s.world) → RefinesRun same name terms (e ∷ log) known s)
