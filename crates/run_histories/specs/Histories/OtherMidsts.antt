-- An event of several steps of a reservation, a counting, a clearing, a retaining or a walk, one after another: in its midst, and at its end.
use Rattle.std.specs.Prelude.{◌≡◌, ℕ, Bool, List, [], ◌++◌, flat_map, Some, None, ◌⊎◌}
use Rattle.run_places.specs.Given.TablesDeclared.node.Node.{Node}
use Rattle.run_places.specs.Given.RawDeclared.machines.progress.Progress.{Progress}
use Rattle.run_places.specs.Given.RawDeclared.machines.progress.Progress.TheVariants as progress
use Rattle.run_places.specs.Given.RunsDeclared.call.Call.{Call}
use Rattle.run_places.specs.Given.RunsDeclared.effect.Effect.{Effect}
use Rattle.run_places.specs.Given.RunsDeclared.outcome.Outcome.{Outcome}
use Rattle.run_places.specs.Given.RunsDeclared.outcome.Outcome.TheVariants as outcome
use Rattle.run_places.specs.Given.SchedulesEffects.{with_effects}
use Rattle.run_places.specs.Given.SchedulesLinearizable.{shift_of, RemovesOnly, Linearizes}
use Rattle.run_places.specs.Given.SchedulesMoment.{UnderWay as CallThere, Moment}
use Rattle.run_places.specs.Given.SchedulesViews.{call_of, finite_map}
use Rattle.run_places.specs.Given.CallersTogether.{UnderWay}
use Rattle.run_places.specs.Given.EffectsEffects.{effects_of, known_after}
use Rattle.run_places.specs.Given.EffectsKnown.{Known}
use Rattle.run_places.specs.Given.EffectsDeclared.acting.Acting.TheVariants as acts
use Rattle.run_places.specs.Moments.Whole.{RefinesWhole}
use Rattle.run_histories.specs.Histories.AsCalled.{RefinesAsCalled}
use Rattle.run_histories.specs.Histories.Asking.{IsQuestionAsked}
use Rattle.run_histories.specs.Histories.Due.{RefinesPendingAnswers}
use Rattle.run_places.specs.Changes.Kept.{HasJustBegun}
use Rattle.run_histories.specs.Histories.OtherCalls.{IsOnNoKey}
use Rattle.run_histories.specs.Histories.Several.{IsSameCall}
use Rattle.run_places.specs.Given.ScenesHeld.{Held, IsAt}
use Rattle.run_places.specs.Given.ScenesScene.{Scene}
use Rattle.run_places.specs.Given.ScenesStepping.{StepLeads, scene_after}
use Rattle.run_places.specs.Given.SchedulesTransition.{Past, Transition}
use Rattle.run_histories.specs.Histories.Questions.{AsksOnStill}

-- What a step says that its call asks the event asks, by the number of the pair; and it asks nothing else.
abbrev pub AsksAsSaid : {K V : Type 0} → Known → Progress (Node K V) → Outcome V → Type 0
AsksAsSaid known (progress.Asks about) (outcome.Asks question) = IsQuestionAsked known about question
AsksAsSaid known (progress.Asks about) _ = ⊥
AsksAsSaid known _ (outcome.Asks question) = ⊥
AsksAsSaid known _ _ = Unit {0}

-- After so many effects of an event, since the moment at which it has begun what it begins, the moment shows the scene, the obligations of calls, and what
-- those on no key were called for, told and ask. Each class has what it had there, or nothing any more; and the effects remove only what such a call may.
pub record InOtherMidst {K V : Type 0} (same : K → K → Bool) (name : ℕ → List ℕ) (log : Past K V) (beginning : Moment K V) (map i : ℕ) (c : CallThere K V)
    (done : List Effect) (m : Moment K V) (known : Known) (s : Scene K V) (u : UnderWay K V K) : Type 0 where
  pub here : s.calls map i ≡ Some u
  pub other : IsOnNoKey c.call
  pub whole : RefinesWhole same name m known s
  pub dues : RefinesPendingAnswers same name log m known s
  pub called : RefinesAsCalled same name m known s
  pub begins : HasJustBegun log beginning
  pub worked : m ≡ with_effects (Some (name i)) (Some map) done beginning
  pub there : CallThere K V
  pub there_is : call_of (name i) m ≡ Some there
  pub same_call : IsSameCall c there
  pub fewer : (k : K) → (finite_map same map m k ≡ finite_map same map beginning k) ⊎ (finite_map same map m k ≡ None)
  pub removes : RemovesOnly same c.call c (flat_map shift_of done)

module _ (K V : Type 0) (same : K → K → Bool) where
  -- The promises: so it is at the beginning of an event,
  abbrev pub OtherMidstsBegin : Type 0
  OtherMidstsBegin =
      (name : ℕ → List ℕ) (log : Past K V) (beginning : Moment K V) → HasJustBegun log beginning
      → (known : Known) (s : Scene K V) → RefinesWhole same name beginning known s → RefinesPendingAnswers same name log beginning known s
      → RefinesAsCalled same name beginning known s
      → (map i : ℕ) (u : UnderWay K V K) → s.calls map i ≡ Some u → (c : CallThere K V) → call_of (name i) beginning ≡ Some c → IsOnNoKey c.call
      → InOtherMidst same name log beginning map i c [] beginning known s u

module _ (K V : Type 0) (same : K → K → Bool) (hash : ℕ → K → ℕ) where
  -- after each step of the call, where it goes on,
  abbrev pub OtherMidstsContinue : Type 0
  OtherMidstsContinue =
      (name : ℕ → List ℕ) (log : Past K V) (beginning : Moment K V) (map i : ℕ) (c : CallThere K V)
      → (done : List Effect) (m : Moment K V) (known : Known) (s : Scene K V) (u : UnderWay K V K)
      → (midst : InOtherMidst same name log beginning map i c done m known s u)
      → (old new : Held K V) → IsAt same hash old s → (said : Progress (Node K V)) (leads : StepLeads same hash i said s old new)
      → (let to = leads map u midst.here in
      (next : UnderWay K V K) → to.4.next ≡ Some next
      → InOtherMidst same name log beginning map i c (done ++ effects_of (acts.Call i map) known new.changed)
      (with_effects (Some (name i)) (Some map) (effects_of (acts.Call i map) known new.changed) m)
      (known_after (acts.Call i map) new.changed known)
      (scene_after same s old new map i to.0 u to.1 said to.4) next)

  -- after the last one the obligations of calls is shown, and the history of each map is within the run,
  abbrev pub OtherMidstsPreservePendingAnswers : Type 0
  OtherMidstsPreservePendingAnswers =
      (name : ℕ → List ℕ) (log : Past K V) (beginning : Moment K V) (map i : ℕ) (c : CallThere K V)
      → (done : List Effect) (m : Moment K V) (known : Known) (s : Scene K V) (u : UnderWay K V K)
      → (midst : InOtherMidst same name log beginning map i c done m known s u)
      → (old new : Held K V) → IsAt same hash old s → (said : Progress (Node K V)) (leads : StepLeads same hash i said s old new)
      → (let to = leads map u midst.here in
      RefinesPendingAnswers same name log (with_effects (Some (name i)) (Some map) (effects_of (acts.Call i map) known new.changed) m)
      (known_after (acts.Call i map) new.changed known)
      (scene_after same s old new map i to.0 u to.1 said to.4))

  -- and an event that asks what the last of its steps says is linearizable;
  abbrev pub OtherMidstsEnd : Type 0
  OtherMidstsEnd =
      (name : ℕ → List ℕ) (log : Past K V) (beginning : Moment K V) (map i : ℕ) (c : CallThere K V) → call_of (name i) beginning ≡ Some c
      → (done : List Effect) (m : Moment K V) (known : Known) (s : Scene K V) (u : UnderWay K V K)
      → (midst : InOtherMidst same name log beginning map i c done m known s u)
      → (old new : Held K V) → IsAt same hash old s → (said : Progress (Node K V)) (leads : StepLeads same hash i said s old new)
      → (t : Transition K V) → t.caller ≡ Some (name i) → t.found ≡ beginning → t.map ≡ Some map
      → t.effects ≡ done ++ effects_of (acts.Call i map) known new.changed
      → AsksAsSaid (known_after (acts.Call i map) new.changed known) said t.outcome → Linearizes same log t

  -- by it a call that asks does not go on by itself.
  abbrev pub OtherMidstsAskStill : Type 0
  OtherMidstsAskStill =
      (name : ℕ → List ℕ) (log : Past K V) (beginning : Moment K V) (map i : ℕ) (c : CallThere K V) → call_of (name i) beginning ≡ Some c
      → (done : List Effect) (m : Moment K V) (known : Known) (s : Scene K V) (u : UnderWay K V K)
      → (midst : InOtherMidst same name log beginning map i c done m known s u)
      → (old new : Held K V) → IsAt same hash old s → (said : Progress (Node K V)) (leads : StepLeads same hash i said s old new)
      → (t : Transition K V) → t.caller ≡ Some (name i) → t.found ≡ beginning → t.map ≡ Some map
      → t.effects ≡ done ++ effects_of (acts.Call i map) known new.changed
      → AsksAsSaid (known_after (acts.Call i map) new.changed known) said t.outcome → AsksOnStill t
