-- Events in which a call takes steps: in the midst of one, and at its end.
use Rattle.std.specs.Prelude.{◌≡◌, ◌⊎◌, ◌≢◌, ◌≤◌, ℕ, ◌+◌, ◌==◌, Bool, true, false, List, [], ◌∷◌, ◌++◌, Some, if◌then◌else◌, not, ◌||◌}
use Rattle.std.specs.List.{list_all, list_any}
use Rattle.run_grows.specs.Given.SeizeWaitingHeld.{count}
use Rattle.run_grows.specs.Given.SeizeWorld.{World, Rests, Request, Begin, Step, Happens}
use Rattle.run_grows.specs.Given.TablesNodes.{deferred_word}
use Rattle.run_grows.specs.Given.TablesDeclared.node.Node.{Node}
use Rattle.run_grows.specs.Given.RawDeclared.machines.progress.Progress.{Progress}
use Rattle.run_grows.specs.Given.RunsDeclared.effect.Effect.{Effect}
use Rattle.run_grows.specs.Given.RunsDeclared.call.Call.{Call}
use Rattle.run_grows.specs.Given.RunsDeclared.event.Event.{Event}
use Rattle.run_grows.specs.Given.RunsDeclared.event.Event.TheVariants.{OneCall, Next}
use Rattle.run_grows.specs.Given.SchedulesAfter.{moment, moments_from, after}
use Rattle.run_grows.specs.Given.SchedulesBeginning.{at_work, fresh_call, with_call}
use Rattle.run_grows.specs.Given.SchedulesEffects.{with_effects, AtEachEffect, worked}
use Rattle.run_grows.specs.Given.SchedulesEntry.{Entry, acted_on, caller_of, ends_call, IfCall, acting, is_busy, nameless}
use Rattle.run_grows.specs.Given.SchedulesHanding.{MovesOn, is_call_effect, is_granted, LeavesOf, is_clear_outcome, is_made, refuses}
use Rattle.run_grows.specs.Given.SchedulesInTurn.{HasRightOutcome}
use Rattle.run_grows.specs.Given.SchedulesLinearizable.{IsLinearizable}
use Rattle.run_grows.specs.Given.SchedulesModel.{IsByModel, sets_in, things_in}
use Rattle.run_grows.specs.Given.SchedulesMoment.{UnderWay as CallThere, Moment}
use Rattle.run_grows.specs.Given.SchedulesReclaims.{IsProtected}
use Rattle.run_grows.specs.Given.SchedulesSteps.{ReadsBriefly}
use Rattle.run_grows.specs.Given.SchedulesSweeps.{IsSwept}
use Rattle.run_grows.specs.Given.SchedulesTerms.{Terms}
use Rattle.run_grows.specs.Given.SchedulesViews.{call_of}
use Rattle.run_grows.specs.Given.SweepsSweepPoints.{after_next}
use Rattle.run_grows.specs.Given.CallersOverAll.{CallOverAll, gone_on}
use Rattle.run_grows.specs.Given.CallersTogether.{UnderWay, OverAll, HandsOver}
use Rattle.run_grows.specs.Given.EffectsEffects.{effects_of, known_after}
use Rattle.run_grows.specs.Given.EffectsKnown.{Known}
use Rattle.run_grows.specs.Given.EffectsDeclared.acting.Acting.TheVariants as acts
use Rattle.run_grows.specs.Given.FinishesMaps.{Standing}
use Rattle.run_grows.specs.Given.HistoriesInEvent.{HasOutcomeSo, InEvent, here_of}
use Rattle.run_grows.specs.Given.PromisesProtected.{InMidst}
use Rattle.run_grows.specs.Given.PromisesReading.{RefinesReadings, looks}
use Rattle.run_grows.specs.Given.PromisesWeights.{AreDoneBy}
use Rattle.run_grows.specs.Given.ChangesKept.{HasJustBegun}
use Rattle.run_sweeps.specs.Purposes.Kept.{ShowsNone}
use Rattle.run_grows.specs.Given.PurposesShards.{NoneCounted as NoneAdded}
use Rattle.run_grows.specs.Given.ShardsShardSteps.{AddsUp}
use Rattle.run_grows.specs.Given.ModelsCallEvents.{FollowsInEvent, IsNoted, things_then, slot_of_call}
use Rattle.run_grows.specs.Given.FindsDoing.{takes_steps}
use Rattle.run_grows.specs.Given.FindsLife.{StoresOne}
use Rattle.run_grows.specs.Given.FindsParts.{FindAll}
use Rattle.run_grows.specs.Given.HistoriesQuestions.{AllHaveAskedJust, EventAsksStill}
use Rattle.run_grows.specs.Given.PromisesSheltered.{SectionsHold}
use Rattle.run_grows.specs.Given.FindsLittle.{ReclaimsAll}
use Rattle.run_grows.specs.Given.FollowsCalling.{come_to, NoneNamed}
use Rattle.run_grows.specs.Given.PurposesPurposes.{RefinesPurposes}
use Rattle.run_grows.specs.Given.PurposesTableless.{TablelessUncounted}
use Rattle.run_legal.specs.Between.{IsBegunRight}
use Rattle.run_legal.specs.Carried.{IsSequential, FollowsOrRows, RefinesAllCalls, RefinesRun}
use Rattle.run_grows.specs.Grows.Limits.{OthersHadLimit}
use Rattle.run_grows.specs.Given.FindsWithin.{many_of}
use Rattle.run_grows.specs.Grows.Nexts.{OthersHadNext}
use Rattle.run_grows.specs.Grows.Tries.{OthersHadTried}
use Rattle.run_grows.specs.Given.ScenesBeginning.{Begins}
use Rattle.run_grows.specs.Given.ScenesHeld.{Held, IsAt}
use Rattle.run_grows.specs.Given.ScenesReplying.{AskLeads, scene_with}
use Rattle.run_grows.specs.Given.ScenesScene.{Scene, slot_of}
use Rattle.run_grows.specs.Given.ScenesStepping.{StepLeads, has_ended, scene_after}
use Rattle.run_grows.specs.Given.SchedulesTransition.{past}
use Rattle.run_sweeps.specs.OwnPairs.{EachIsItsOwn}

module _ {K V : Type 0} (same : K → K → Bool) (name : ℕ → List ℕ) (terms : Terms) (log : List (Entry K V)) (event : Event K V) (beginning : Moment K V) (map i : ℕ) (c : CallThere K V) where
  -- In the midst of an event of the call of caller i, which has made so many steps, and done this, since the moment at which it has begun what it begins.
  pub record InCallEvent (steps : ℕ) (done : List Effect) (m : Moment K V) (known : Known) (s : Scene K V) (u : UnderWay K V K) : Type 0 where
    pub of_call : caller_of event ≡ Some (name i)
    pub event_so : InEvent same name (past log) beginning map i c done m known s u
    pub calls : RefinesAllCalls same name (past log) m known s
    -- where the copier of another call makes a table its map had a second one at a moment of the log
    pub others : OthersHadNext name (past log) i m s
    -- and where it can have no further table one at the limit
    pub other_limits : OthersHadLimit name (past log) i m s
    -- what each other one has met at tries it has met at moments of the log, and no map has fewer tables than then
    pub other_tries : OthersHadTried name (past log) i m s
    pub tables : (of : ℕ) → many_of of (moment log) ≤ many_of of m
    pub worked : m ≡ with_effects (Some (name i)) (Some map) done beginning
    -- steps: each did one thing at most, and had what it made granted; a lookup has read so many words
    pub few : AreDoneBy steps done
    pub granted : is_granted false done ≡ true
    pub reading : RefinesReadings name (past log) (λ j. if j == i then steps else 0) m s
    -- each pair that was in its map as the last event ended was the one of its class
    pub its_own : EachIsItsOwn same map (moment log)
    -- where it adds shards up, none was counted on
    pub unadded : AddsUp u → NoneAdded (past log) m map
    -- one that only looks has done nothing
    pub quiet : looks c.call ≡ true → (m.maps ≡ (moment log).maps) × (m.tables ≡ (moment log).tables)
    -- life: of which kind each effect is, and that a pair is stored by who has one
    pub kinds : list_all is_call_effect done ≡ true
    pub stores : AtEachEffect (StoresOne (Some (name i))) (Some (name i)) (Some map) done beginning
    -- protected
    pub protects : InMidst event done m known s.world
    -- by_model: where calls came one after another so far
    pub follows : IsSequential event log → FollowsInEvent terms.batch_size terms.roots (things_in log) (sets_in terms.batch_size log) (slot_of i) i done known s.world

-- Of an event that has come to this: each promise but that it comes to what is right, and that little waits, which follow once its life and the moment after it are known.
pub record IsLegalBut {K V : Type 0} (same : K → K → Bool) (terms : Terms) (log : List (Entry K V)) (e : Entry K V) : Type 0 where
  pub brief : ReadsBriefly log e (worked e (moment log))
  pub linearizable : IsLinearizable same log e
  pub swept : IsSwept same terms log e
  pub life : MovesOn terms log e
  pub protected : IsProtected log e
  pub by_model : IsByModel terms log e

module _ (K V : Type 0) (same : K → K → Bool) (hash : ℕ → K → ℕ) where
  -- The promises: so it is where an event of a call that is under way has begun what it begins, in whose midst alone a row may be if the event comes alone;
  abbrev pub CallEventsBegin : Type 0
  CallEventsBegin =
      (name : ℕ → List ℕ) (terms : Terms) (log : List (Entry K V)) (beginning : Moment K V) → HasJustBegun (past log) beginning → beginning.maps ≡ (moment log).maps → beginning.tables ≡ (moment log).tables
      → beginning.shards ≡ (moment log).shards → beginning.born ≡ (moment log).born → beginning.spot ≡ (moment log).spot → TablelessUncounted (moment log)
      → (known : Known) (s : Scene K V) (x : Held K V) → IsAt same hash x s → RefinesAllCalls same name (past log) beginning known s → RefinesReadings name (past log) (λ j. 0) beginning s
      → SectionsHold beginning known s.world → ((moment log).is_alone ≡ true → FollowsOrRows terms log known s.world)
      → (event : Event K V) (map i : ℕ) → caller_of event ≡ Some (name i) → (u : UnderWay K V K) → s.calls map i ≡ Some u → (c : CallThere K V) → call_of (name i) beginning ≡ Some c
      → (IsSequential event log → (j : ℕ) → s.world.row j ≢ Rests → j ≡ i) → InCallEvent same name terms log event beginning map i c 0 [] beginning known s u

  -- so it is where a whole call begins that has no name, on a map that stands, by a caller that has no row under way,
  abbrev pub WholeCallsBegin : Type 0
  WholeCallsBegin =
      (name : ℕ → List ℕ) (terms : Terms) (log : List (Entry K V)) (known : Known) (s : Scene K V) (old new : Held K V) → IsAt same hash old s → RefinesRun same name terms log known s
      → (map i : ℕ) (standing : Standing K) → s.maps map ≡ Some standing → (u : UnderWay K V K) (call : Call K V) (guard : List ℕ) → Begins same standing i u → IsBegunRight same u call
      → NoneNamed name (name i) s → s.world.row i ≡ Rests → IsAt same hash new (scene_with map i u s) → name i ≡ nameless
      → (on : List ℕ) → (IsSequential (OneCall guard on call) log → (j : ℕ) → s.world.row j ≢ Rests → j ≡ i)
      → (let beginning = with_call (name i) guard call (Some map) (moment log) in
      let c = fresh_call (name i) guard call map (moment log).events in
      (call_of (name i) beginning ≡ Some c)
      × InCallEvent same name terms log (OneCall guard on call) beginning map i c 0 [] beginning known (scene_with map i u s) u)

  -- and where a walk that is ready is asked for its next pair;
  abbrev pub NextsBegin : Type 0
  NextsBegin =
      (name : ℕ → List ℕ) (terms : Terms) (log : List (Entry K V)) (known : Known) (s : Scene K V) (old new : Held K V) → IsAt same hash old s → RefinesRun same name terms log known s
      → (i : ℕ) (leads : AskLeads same hash i true s old new) (map : ℕ) (o : CallOverAll) (here : s.calls map i ≡ Some (OverAll o))
      → (leads map (OverAll o) here).0 ≡ OverAll (gone_on o (after_next o.sweep)) → (c : CallThere K V) → call_of (name i) (moment log) ≡ Some c
      → (IsSequential (Next (name i)) log → (j : ℕ) → s.world.row j ≢ Rests → j ≡ i)
      → InCallEvent same name terms log (Next (name i)) (moment log) map i c 0 [] (moment log) known (scene_with map i (leads map (OverAll o) here).0 s) (leads map (OverAll o) here).0

  -- after each step of it, where it goes on: no pair of a walk is shown, and what a row hands
  -- over that begins with the step is noted;
  abbrev pub CallEventsContinue : Type 0
  CallEventsContinue =
      (name : ℕ → List ℕ) (terms : Terms) (log : List (Entry K V)) (event : Event K V) (beginning : Moment K V) (map i : ℕ) (c : CallThere K V) (steps : ℕ) (done : List Effect) (m : Moment K V) (known : Known)
      (s : Scene K V) (u : UnderWay K V K) (midst : InCallEvent same name terms log event beginning map i c steps done m known s u)
      → (old new : Held K V) → IsAt same hash old s → old.batch_size ≡ terms.batch_size → (said : Progress (Node K V)) (leads : StepLeads same hash i said s old new)
      → (let effects = effects_of (acts.Call i map) known new.changed in
      let v = with_effects (Some (name i)) (Some map) effects m in
      let to = leads map u (here_of same name (past log) beginning map i c done m known s u midst.event_so) in
      let s2 = scene_after same s old new map i to.0 u to.1 said to.4 in
      ShowsNone said
      → ((request : Request) (begun : World (Node K V)) → HandsOver to.0.setting i s.world request → Happens deferred_word old.batch_size (Begin i request) s.world begun
      → Happens deferred_word old.batch_size (Step i) begun to.4.w2 → IsNoted (things_then (things_in log) done) known (slot_of i) request)
      → (next : UnderWay K V K) → to.4.next ≡ Some next
      → InCallEvent same name terms log event beginning map i c (steps + 1) (done ++ effects) v (known_after (acts.Call i map) new.changed known) s2 next)

  -- and the event that comes to what its last step says keeps its promises, if its effects find what they must, if it made no more steps than these, does what it is for, is refused no growth that it made, leaves nothing behind, and is by the
  -- model; the sections of guards hold what they shelter.
  abbrev pub CallEventsAreLegal : Type 0
  CallEventsAreLegal =
      (name : ℕ → List ℕ) (terms : Terms) (log : List (Entry K V)) (beginning : Moment K V) (map i : ℕ) (c : CallThere K V) → call_of (name i) beginning ≡ Some c
      → (steps : ℕ) (done : List Effect) (m : Moment K V) (known : Known) (s : Scene K V) (u : UnderWay K V K) (e : Entry K V) (midst : InCallEvent same name terms log e.event beginning map i c steps done m known s u)
      → AllHaveAskedJust beginning → (old new : Held K V) → IsAt same hash old s → (said : Progress (Node K V)) (leads : StepLeads same hash i said s old new)
      → at_work e (moment log) ≡ beginning → acted_on e.event beginning ≡ Some map → e.effects ≡ done ++ effects_of (acts.Call i map) known new.changed
      → HasOutcomeSo (known_after (acts.Call i map) new.changed known) c.call c.replies said e.outcome → (takes_steps e.event ≡ true) ⊎ (e.effects ≡ []) → is_busy e.outcome ≡ false
      → FindAll terms (moments_from c.begun log) (name i) map e.effects beginning
      → e.steps ≤ steps + 1 → IsSwept same terms log e → (not (refuses e.event) || not (list_any is_made e.effects)) ≡ true
      → IfCall (LeavesOf (is_clear_outcome e.outcome) e.outcome) (acting (caller_of e.event) (worked e (moment log))) → IsByModel terms log e
      → IsLegalBut same terms log e
      × SectionsHold (after e (moment log)) (known_after (acts.Call i map) new.changed known) (leads map u (here_of same name (past log) beginning map i c done m known s u midst.event_so)).4.w2

  -- The moment after it shows all by which the next event keeps its promises, if it shows what calls are for and have read once the call has come to its outcome, and the sets are as they must be.
  abbrev pub CallEventsEnd : Type 0
  CallEventsEnd =
      (name : ℕ → List ℕ) (terms : Terms) (log : List (Entry K V)) (beginning : Moment K V) (map i : ℕ) (c : CallThere K V) (first : Known) (before : Scene K V) → RefinesRun same name terms log first before
      → (steps : ℕ) (done : List Effect) (m : Moment K V) (known : Known) (s : Scene K V) (u : UnderWay K V K) (e : Entry K V) (midst : InCallEvent same name terms log e.event beginning map i c steps done m known s u)
      → (old new : Held K V) → IsAt same hash old s → (said : Progress (Node K V)) (leads : StepLeads same hash i said s old new)
      → at_work e (moment log) ≡ beginning → acted_on e.event beginning ≡ Some map → e.effects ≡ done ++ effects_of (acts.Call i map) known new.changed
      → HasOutcomeSo (known_after (acts.Call i map) new.changed known) c.call c.replies said e.outcome → ends_call e.outcome ≡ has_ended said → HasRightOutcome terms log e
      → IsLegalBut same terms log e → EventAsksStill log e → ReclaimsAll log e
      → (let known2 = known_after (acts.Call i map) new.changed known in
      let to = leads map u (here_of same name (past log) beginning map i c done m known s u midst.event_so) in
      let s2 = scene_after same s old new map i to.0 u to.1 said to.4 in
      let come = come_to (name i) e.outcome e.steps (with_effects (Some (name i)) (Some map) (effects_of (acts.Call i map) known new.changed) m) in
      RefinesPurposes same name (past log) come known2 s2 → RefinesReadings name (past log) (λ j. 0) come s2 → SectionsHold (after e (moment log)) known2 s2.world
      → ((moment (e ∷ log)).is_alone ≡ true → FollowsOrRows terms (e ∷ log) known2 s2.world) → RefinesRun same name terms (e ∷ log) known2 s2)

  -- Where it is not kept out, it is by the model, if what a row hands over that begins with its last step is noted, and its slot is active; and the sets are those of the model after it, or the call
  -- is in the midst of a row still.
  abbrev pub CallEventsFollow : Type 0
  CallEventsFollow =
      (name : ℕ → List ℕ) (terms : Terms) (log : List (Entry K V)) (beginning : Moment K V) (map i : ℕ) (c : CallThere K V) (steps : ℕ) (done : List Effect) (m : Moment K V) (known : Known)
      (s : Scene K V) (u : UnderWay K V K) (e : Entry K V) (midst : InCallEvent same name terms log e.event beginning map i c steps done m known s u)
      → (old new : Held K V) → IsAt same hash old s → old.batch_size ≡ terms.batch_size → (said : Progress (Node K V)) (leads : StepLeads same hash i said s old new)
      → e.effects ≡ done ++ effects_of (acts.Call i map) known new.changed → is_busy e.outcome ≡ false
      → (let to = leads map u (here_of same name (past log) beginning map i c done m known s u midst.event_so) in
      let known2 = known_after (acts.Call i map) new.changed known in
      ((request : Request) (begun : World (Node K V)) → HandsOver to.0.setting i s.world request → Happens deferred_word old.batch_size (Begin i request) s.world begun
      → Happens deferred_word old.batch_size (Step i) begun to.4.w2 → IsNoted (things_then (things_in log) done) known (slot_of i) request)
      → slot_of_call e.event (at_work e (moment log)) ≡ slot_of i → (IsSequential e.event log → 1 ≤ count (slot_of i) (sets_in terms.batch_size log).active)
      → IsByModel terms log e × ((moment (e ∷ log)).is_alone ≡ true → FollowsOrRows terms (e ∷ log) known2 to.4.w2))
