-- An event of several steps of a call, whatever its kind, one after another: in its midst, and at its end.
use Rattle.std.specs.Prelude.{◌≡◌, ℕ, Bool, List, [], ◌∷◌, ◌++◌, Option, Some}
use Rattle.run_places.specs.Given.TablesDeclared.node.Node.{Node}
use Rattle.run_places.specs.Given.RunsPresent.{Present}
use Rattle.run_places.specs.Given.RawDeclared.machines.progress.Progress.{Progress}
use Rattle.run_places.specs.Given.RunsDeclared.call.Call.{Call}
use Rattle.run_places.specs.Given.RunsDeclared.call.Call.TheVariants.{On}
use Rattle.run_places.specs.Given.RunsDeclared.call.OneKey.{OneKey}
use Rattle.run_places.specs.Given.RunsDeclared.call.Reply.{Reply}
use Rattle.run_places.specs.Given.RunsDeclared.effect.Effect.{Effect}
use Rattle.run_places.specs.Given.RunsDeclared.outcome.Outcome.{Outcome}
use Rattle.run_places.specs.Given.SchedulesAfter.{moment}
use Rattle.run_places.specs.Given.SchedulesBeginning.{at_work}
use Rattle.run_places.specs.Given.SchedulesEffects.{with_effects}
use Rattle.run_places.specs.Given.SchedulesEntry.{Entry, ends_call, caller_of, acted_on}
use Rattle.run_places.specs.Given.SchedulesMoment.{Remains, Sheltered, UnderWay as CallThere, Moment}
use Rattle.run_places.specs.Given.SchedulesViews.{call_of}
use Rattle.run_places.specs.Given.CallersTogether.{UnderWay, OnKey}
use Rattle.run_places.specs.Given.EffectsEffects.{effects_of, known_after}
use Rattle.run_places.specs.Given.EffectsKnown.{Known}
use Rattle.run_places.specs.Given.EffectsDeclared.acting.Acting.TheVariants as acts
use Rattle.run_places.specs.Hands.Calling.{AsksJust}
use Rattle.run_places.specs.Moments.Whole.{RefinesWhole}
use Rattle.run_histories.specs.Histories.AsCalled.{RefinesAsCalled, AsksAsCalled}
use Rattle.run_histories.specs.Histories.Due.{RefinesPendingAnswers}
use Rattle.run_histories.specs.Histories.Events.{HasOutcome}
use Rattle.run_places.specs.Changes.Kept.{HasJustBegun}
use Rattle.run_histories.specs.Histories.OtherMidsts.{AsksAsSaid, InOtherMidst}
use Rattle.run_histories.specs.Histories.Questions.{AllHaveAskedJust, AsksOnStill}
use Rattle.run_histories.specs.Histories.Several.{InMidst}
use Rattle.run_places.specs.Given.ScenesHeld.{Held, IsAt}
use Rattle.run_places.specs.Given.ScenesScene.{Scene}
use Rattle.run_places.specs.Given.ScenesStepping.{StepLeads, has_ended, scene_after}
use Rattle.run_places.specs.Given.SchedulesTransition.{Past, Transition, past}
use Rattle.run_places.specs.Given.SchedulesLinearizable.{Linearizes}

-- what such a step comes to, told by numbers of pairs: of a call on one key all, and of any other one what it asks
abbrev pub HasOutcomeSo : {K V : Type 0} → Known → Call K V → List (Option ℕ × Reply V) → Progress (Node K V) → Outcome V → Type 0
HasOutcomeSo known (On one) replies said outcome = HasOutcome known one replies said outcome
HasOutcomeSo known _ replies said outcome = AsksAsSaid known said outcome

module _ {K V : Type 0} (same : K → K → Bool) (name : ℕ → List ℕ) (log : Past K V) (beginning : Moment K V) (map i : ℕ) (c : CallThere K V) where
  -- In the midst of an event, after so many effects, since the moment at which it has begun what it begins.
  abbrev pub InEvent : List Effect → Moment K V → Known → Scene K V → UnderWay K V K → Type 0
  InEvent done m known s (OnKey u) = (one : OneKey K V) × (c.call ≡ On one)
      × InMidst same name log beginning map i one c done m known s u × RefinesAsCalled same name m known s
  InEvent done m known s u = InOtherMidst same name log beginning map i c done m known s u

  -- its call is under way
  abbrev pub here_of : (done : List Effect) (m : Moment K V) (known : Known) (s : Scene K V) (u : UnderWay K V K) → InEvent done m known s u
      → s.calls map i ≡ Some u
  here_of done m known s (OnKey u) midst = midst.2.here
  here_of done m known s u midst = midst.here

module _ (K V : Type 0) (same : K → K → Bool) (hash : ℕ → K → ℕ) where
  -- The promises: so it is at the beginning of an event,
  abbrev pub EventsBegin : Type 0
  EventsBegin =
      (name : ℕ → List ℕ) (log : Past K V) (beginning : Moment K V) → HasJustBegun log beginning
      → (known : Known) (s : Scene K V) (e : Held K V) → IsAt same hash e s
      → RefinesWhole same name beginning known s → RefinesPendingAnswers same name log beginning known s → RefinesAsCalled same name beginning known s
      → (map i : ℕ) (u : UnderWay K V K) → s.calls map i ≡ Some u → (c : CallThere K V) → call_of (name i) beginning ≡ Some c
      → InEvent same name log beginning map i c [] beginning known s u

  -- after each step of the call, where it goes on;
  abbrev pub EventsContinue : Type 0
  EventsContinue =
      (name : ℕ → List ℕ) (log : Past K V) (beginning : Moment K V) (map i : ℕ) (c : CallThere K V)
      → (done : List Effect) (m : Moment K V) (known : Known) (s : Scene K V) (u : UnderWay K V K)
      → (midst : InEvent same name log beginning map i c done m known s u)
      → (old new : Held K V) → IsAt same hash old s → (said : Progress (Node K V)) (leads : StepLeads same hash i said s old new)
      → (let to = leads map u (here_of same name log beginning map i c done m known s u midst) in
      (next : UnderWay K V K) → to.4.next ≡ Some next
      → InEvent same name log beginning map i c (done ++ effects_of (acts.Call i map) known new.changed)
      (with_effects (Some (name i)) (Some map) (effects_of (acts.Call i map) known new.changed) m)
      (known_after (acts.Call i map) new.changed known)
      (scene_after same s old new map i to.0 u to.1 said to.4) next)

  -- after the last one, too, the moment shows all of the scene, the obligations of calls, and what those on no key are called for, told and ask;
  abbrev pub EventsPreserveAll : Type 0
  EventsPreserveAll =
      (name : ℕ → List ℕ) (log : Past K V) (beginning : Moment K V) (map i : ℕ) (c : CallThere K V)
      → (done : List Effect) (m : Moment K V) (known : Known) (s : Scene K V) (u : UnderWay K V K)
      → (midst : InEvent same name log beginning map i c done m known s u)
      → (old new : Held K V) → IsAt same hash old s → (said : Progress (Node K V)) (leads : StepLeads same hash i said s old new)
      → (let to = leads map u (here_of same name log beginning map i c done m known s u midst) in
      let m2 = with_effects (Some (name i)) (Some map) (effects_of (acts.Call i map) known new.changed) m in
      let known2 = known_after (acts.Call i map) new.changed known in
      let s2 = scene_after same s old new map i to.0 u to.1 said to.4 in
      RefinesWhole same name m2 known2 s2 × RefinesPendingAnswers same name log m2 known2 s2 × RefinesAsCalled same name m2 known2 s2)

  -- what that step says has words;
  abbrev pub EventsHaveWords : Type 0
  EventsHaveWords =
      (name : ℕ → List ℕ) (log : Past K V) (beginning : Moment K V) (map i : ℕ) (c : CallThere K V)
      → (done : List Effect) (m : Moment K V) (known : Known) (s : Scene K V) (u : UnderWay K V K) → InEvent same name log beginning map i c done m known s u
      → (old new : Held K V) → IsAt same hash old s → (said : Progress (Node K V)) → StepLeads same hash i said s old new
      → (outcome : Outcome V) × HasOutcomeSo (known_after (acts.Call i map) new.changed known) c.call c.replies said outcome

  -- and the event that comes to that changes maps, answers and asks as one finite map says, and by it a call that asks does not go on by itself.
  abbrev pub EventsEnd : Type 0
  EventsEnd =
      (name : ℕ → List ℕ) (log : Past K V) (beginning : Moment K V) (map i : ℕ) (c : CallThere K V) → call_of (name i) beginning ≡ Some c
      → AllHaveAskedJust beginning
      → (done : List Effect) (m : Moment K V) (known : Known) (s : Scene K V) (u : UnderWay K V K) → InEvent same name log beginning map i c done m known s u
      → (old new : Held K V) → IsAt same hash old s → (said : Progress (Node K V)) → StepLeads same hash i said s old new
      → (t : Transition K V) → t.caller ≡ Some (name i) → t.found ≡ beginning → t.map ≡ Some map
      → t.effects ≡ done ++ effects_of (acts.Call i map) known new.changed
      → HasOutcomeSo (known_after (acts.Call i map) new.changed known) c.call c.replies said t.outcome
      → Linearizes same log t × AsksOnStill t

  -- A call that is under way after such a step asks there just what that comes to, if it asks.
  abbrev pub EventsAskThere : Type 0
  EventsAskThere =
      (name : ℕ → List ℕ) (log : Past K V) (beginning : Moment K V) (map i : ℕ) (c : CallThere K V)
      → (done : List Effect) (m : Moment K V) (known : Known) (s : Scene K V) (u : UnderWay K V K)
      → (midst : InEvent same name log beginning map i c done m known s u)
      → (old new : Held K V) → IsAt same hash old s → (said : Progress (Node K V)) (leads : StepLeads same hash i said s old new)
      → (let to = leads map u (here_of same name log beginning map i c done m known s u midst) in
      let known2 = known_after (acts.Call i map) new.changed known in
      (outcome : Outcome V) → HasOutcomeSo known2 c.call c.replies said outcome
      → (next : UnderWay K V K) → to.4.next ≡ Some next → AsksJust known2 next outcome × AsksAsCalled known2 next outcome)

  -- And once such an event is over, by which its call has ended just where its last step says so, the moment after it shows all of the scene, the obligations
  -- of calls, and what those on no key are called for, told and ask.
  abbrev pub EventsAreOver : Type 0
  EventsAreOver =
      (name : ℕ → List ℕ) (log : List (Entry K V)) (beginning : Moment K V) (map i : ℕ) (c : CallThere K V)
      → (done : List Effect) (m : Moment K V) (known : Known) (s : Scene K V) (u : UnderWay K V K)
      → (midst : InEvent same name (past log) beginning map i c done m known s u)
      → (old new : Held K V) → IsAt same hash old s → (said : Progress (Node K V)) (leads : StepLeads same hash i said s old new)
      → (e : Entry K V) → caller_of e.event ≡ Some (name i) → at_work e (moment log) ≡ beginning → acted_on e.event beginning ≡ Some map
      → e.effects ≡ done ++ effects_of (acts.Call i map) known new.changed
      → HasOutcomeSo (known_after (acts.Call i map) new.changed known) c.call c.replies said e.outcome → ends_call e.outcome ≡ has_ended said
      → (let to = leads map u (here_of same name (past log) beginning map i c done m known s u midst) in
      let known2 = known_after (acts.Call i map) new.changed known in
      let s2 = scene_after same s old new map i to.0 u to.1 said to.4 in
      RefinesWhole same name (moment (e ∷ log)) known2 s2 × RefinesPendingAnswers same name (past (e ∷ log)) (moment (e ∷ log)) known2 s2
      × RefinesAsCalled same name (moment (e ∷ log)) known2 s2)

module _ (K V : Type 0) (same : K → K → Bool) where
  -- Whatever else changes, a moment shows what it shows: how many events came, who is there, what is sheltered and what remains.
  abbrev pub AllStaysShown : Type 0
  AllStaysShown =
      (name : ℕ → List ℕ) (m : Moment K V) (known : Known) (s : Scene K V) → RefinesWhole same name m known s
      → (events : ℕ) (is_mapped is_closed is_alone : Bool) (there : Present) (slots : ℕ) (sheltered : List Sheltered) (remains : List Remains)
      → RefinesWhole same name (record m {
        events = events;
        is_mapped = is_mapped;
        is_closed = is_closed;
        is_alone = is_alone;
        there = there;
        slots = slots;
        sheltered = sheltered;
        remains = remains;
      }) known s
