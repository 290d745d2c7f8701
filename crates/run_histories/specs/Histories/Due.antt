-- What a call on one key owes as an answer, by what it has changed.
use Rattle.std.specs.Prelude.{◌≡◌, ℕ, ◌<◌, Bool, true, List, [], ◌∷◌, Option, Some, None, Ok, suc}
use Rattle.run_places.specs.Given.TablesDeclared.node.Node.{Node}
use Rattle.run_places.specs.Given.RunsSame.{is_same}
use Rattle.run_places.specs.Given.RawDeclared.machines.progress.Progress.{Progress}
use Rattle.run_places.specs.Given.RunsDeclared.call.Response.{Response}
use Rattle.run_places.specs.Given.RawMachine.{machine_replied}
use Rattle.run_places.specs.Given.RunsDeclared.call.Call.{Call}
use Rattle.run_places.specs.Given.RunsDeclared.call.Call.TheVariants.{On}
use Rattle.run_places.specs.Given.RunsDeclared.call.Reply.{Reply}
use Rattle.run_places.specs.Given.SchedulesBeginning.{with_call}
use Rattle.run_places.specs.Given.RunsDeclared.call.OneKey.{OneKey}
use Rattle.run_places.specs.Given.RunsDeclared.outcome.Outcome.{Outcome}
use Rattle.run_places.specs.Given.SchedulesEffects.{with_effects}
use Rattle.run_places.specs.Given.SchedulesEntry.{ends_call}
use Rattle.run_places.specs.Given.SchedulesMoment.{Asking, UnderWay as CallThere, Moment, start}
use Rattle.run_places.specs.Given.SchedulesSequential.{Answers, Puts, Takes, means}
use Rattle.run_places.specs.Given.SchedulesViews.{call_of, reply_to}
use Rattle.run_places.specs.Given.PointsFactsCalls.{Change, Unchanged, Stored, Replaced, Removed}
use Rattle.run_places.specs.Given.CallersTogether.{CallOnKey, UnderWay, OnKey}
use Rattle.run_places.specs.Given.EffectsEffects.{effects_of, known_after}
use Rattle.run_places.specs.Given.EffectsKnown.{Known, nothing_known}
use Rattle.run_places.specs.Given.EffectsDeclared.acting.Acting.TheVariants as acts
use Rattle.run_places.specs.Given.FinishesMachines.{machine_of, RepliedOfKind}
use Rattle.run_places.specs.Given.FinishesMaps.{Standing}
use Rattle.run_places.specs.Given.FollowsCalling.{NoneNamed, told, come_to}
use Rattle.run_places.specs.Given.FollowsCalls.{IsCalled}
use Rattle.run_places.specs.Hands.Asked.{reply_to_machine}
use Rattle.run_places.specs.Hands.Calling.{IsBegunFor, AsksJust}
use Rattle.run_places.specs.Moments.Whole.{RefinesWhole}
use Rattle.run_places.specs.Changes.Changes.{IsTaken, AreTaken}
use Rattle.run_places.specs.Changes.Histories.{began_of, RefinesHistory}
use Rattle.run_places.specs.Changes.Kept.{ChangesFirst}
use Rattle.run_places.specs.Given.ScenesHeld.{Held, IsAt}
use Rattle.run_places.specs.Given.ScenesReplying.{scene_with}
use Rattle.run_places.specs.Given.ScenesScene.{Scene, at_first, slot_of}
use Rattle.run_places.specs.Given.ScenesStepping.{StepLeads, scene_after}
use Rattle.run_places.specs.Given.SchedulesTransition.{Past, further, past}

-- Of a map, whose pairs have these numbers of the run, and of which so many were stored.
module _ {K V : Type 0} (number : ℕ → ℕ) (stored : ℕ) (one : OneKey K V) (c : CallThere K V) where
  -- it has no obligation as long as it has changed nothing; then the answer that it means, by the last reply for the pair that its class had, or for none
  abbrev pub HasPendingAnswer : Change → Type 0
  HasPendingAnswer Unchanged = c.due ≡ None
  HasPendingAnswer (Stored n) = (n < stored) × (a : Response V) × (v : V) × (means one (reply_to None c.replies) None (number n) ≡ Answers a (Puts v)) × (c.due ≡ Some a)
  HasPendingAnswer (Replaced o n) =
      (o < stored) × (n < stored) × (a : Response V) × (v : V) × (means one (reply_to (Some (number o)) c.replies) (Some (number o)) (number n) ≡ Answers a (Puts v)) × (c.due ≡ Some a)
  HasPendingAnswer (Removed o) = (o < stored) × (a : Response V) × (new : ℕ) × (means one (reply_to (Some (number o)) c.replies) (Some (number o)) new ≡ Answers a Takes) × (c.due ≡ Some a)

-- the history is within the run, and each call on one key owes what it is to answer, and got such replies alone as it takes
pub record RefinesPendingAnswers {K V : Type 0} (same : K → K → Bool) (name : ℕ → List ℕ) (log : Past K V) (m : Moment K V) (known : Known) (s : Scene K V) : Type 0 where
  pub history : RefinesHistory same name log m known s
  pub owes : (map i : ℕ) (u : CallOnKey K V K) → s.calls map i ≡ Some (OnKey u) → (standing : Standing K) → s.maps map ≡ Some standing → (c : CallThere K V) → call_of (name i) m ≡ Some c
      → (one : OneKey K V) → c.call ≡ On one → HasPendingAnswer (history.shown.number map) standing.chart.stored one c u.change
  pub taken : (map i : ℕ) (u : UnderWay K V K) → s.calls map i ≡ Some u → (c : CallThere K V) → call_of (name i) m ≡ Some c → (one : OneKey K V) → c.call ≡ On one → AreTaken one c.replies

module _ (K V : Type 0) (same : K → K → Bool) (hash : ℕ → K → ℕ) where
  -- The promise: so it is after each step of a call, whoever's, if no class changes twice within one event by it.
  abbrev pub CallsPreservePendingAnswers : Type 0
  CallsPreservePendingAnswers =
      (name : ℕ → List ℕ) (log : Past K V) (m : Moment K V) (known : Known) (s : Scene K V) (old new : Held K V) → IsAt same hash old s
      → RefinesWhole same name m known s → RefinesPendingAnswers same name log m known s
      → (map i : ℕ) (u : UnderWay K V K) (here : s.calls map i ≡ Some u) (said : Progress (Node K V)) (leads : StepLeads same hash i said s old new)
      → ChangesFirst log m same map (with_effects (Some (name i)) (Some map) (effects_of (acts.Call i map) known new.changed) m)
      → (let to = leads map u here in
      RefinesPendingAnswers same name log (with_effects (Some (name i)) (Some map) (effects_of (acts.Call i map) known new.changed) m) (known_after (acts.Call i map) new.changed known)
      (scene_after same s old new map i to.0 u to.1 said to.4))

module _ (K V : Type 0) (same : K → K → Bool) where
  -- So it is before all events,
  abbrev pub PendingAnswersBegin : Type 0
  PendingAnswersBegin = (roots : ℕ) (name : ℕ → List ℕ) → RefinesPendingAnswers {K = K} {V = V} same name (past []) start nothing_known (at_first roots)

  -- where a call comes to an outcome,
  abbrev pub CallsComeToDue : Type 0
  CallsComeToDue =
      (name : ℕ → List ℕ) (log : Past K V) (m : Moment K V) (known : Known) (s : Scene K V) → RefinesPendingAnswers same name log m known s
      → (own : List ℕ) (outcome : Outcome V) (steps : ℕ) → (ends_call outcome ≡ true → NoneNamed name own s)
      → ((map i : ℕ) (u : UnderWay K V K) → s.calls map i ≡ Some u → is_same (name i) own ≡ true → AsksJust known u outcome)
      → RefinesPendingAnswers same name log (come_to own outcome steps m) known s

  -- and where an event is over.
  abbrev pub EventsPreservePendingAnswers : Type 0
  EventsPreservePendingAnswers =
      (name : ℕ → List ℕ) (log : Past K V) (m : Moment K V) (known : Known) (s : Scene K V) → RefinesPendingAnswers same name log m known s → m.events ≡ suc log.entries
      → RefinesPendingAnswers same name (further m log) m known s

module _ (K V : Type 0) (same : K → K → Bool) (hash : ℕ → K → ℕ) where
  -- So it is where a call begins, that has changed nothing,
  abbrev pub CallsBeginDue : Type 0
  CallsBeginDue =
      (name : ℕ → List ℕ) (log : Past K V) (m : Moment K V) (known : Known) (s : Scene K V) (e : Held K V) → IsAt same hash e s → RefinesPendingAnswers same name log m known s
      → (map i : ℕ) (u : UnderWay K V K) (call : Call K V) (guard : List ℕ) (standing : Standing K) → s.maps map ≡ Some standing → ((began : ℕ) → began_of u ≡ Some began → began ≡ standing.chart.now)
      → ((v : CallOnKey K V K) → u ≡ OnKey v → v.change ≡ Unchanged) → NoneNamed name (name i) s → IsCalled same u call → IsBegunFor u call → m.events ≡ log.entries
      → RefinesPendingAnswers same name log (with_call (name i) guard call (Some map) m) known (scene_with map i u s)

  -- and where one that asks takes a reply that such a call takes.
  abbrev pub CallsTakeDue : Type 0
  CallsTakeDue =
      (name : ℕ → List ℕ) (log : Past K V) (m : Moment K V) (known : Known) (s : Scene K V) (e : Held K V) → IsAt same hash e s → RefinesPendingAnswers same name log m known s
      → (map i : ℕ) (u : UnderWay K V K) → s.calls map i ≡ Some u → (c : CallThere K V) → call_of (name i) m ≡ Some c → (question : Option ℕ) → c.stands ≡ Asking question
      → (standing : Standing K) → s.maps map ≡ Some standing → (is_told : Reply V) (next : UnderWay K V K)
      → machine_of next ≡ (machine_replied (machine_of u) (reply_to_machine is_told)).0 → (machine_replied (machine_of u) (reply_to_machine is_told)).1 ≡ Ok tt
      → RepliedOfKind V same same e.batch_size e.roots slot_of standing i u (reply_to_machine is_told) next → ((one : OneKey K V) → c.call ≡ On one → IsTaken one is_told)
      → RefinesPendingAnswers same name log (told (name i) is_told m) known (scene_with map i next s)
