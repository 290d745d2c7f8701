-- An event of several steps of a call on one key, one after another: in its midst, and at its end.
use Rattle.std.specs.Prelude.{◌≡◌, ℕ, Bool, List, [], ◌++◌, length, flat_map, Some, None}
use Rattle.run_places.specs.Given.TablesDeclared.node.Node.{Node}
use Rattle.run_places.specs.Given.RawDeclared.machines.progress.Progress.{Progress}
use Rattle.run_places.specs.Given.RunsDeclared.call.Call.TheVariants.{On}
use Rattle.run_places.specs.Given.RunsDeclared.call.OneKey.{OneKey}
use Rattle.run_places.specs.Given.RunsDeclared.effect.Effect.{Effect}
use Rattle.run_places.specs.Given.SchedulesEffects.{with_effects}
use Rattle.run_places.specs.Given.SchedulesLinearizable.{shift_of, ChangesOnce, Linearizes}
use Rattle.run_places.specs.Given.SchedulesMoment.{UnderWay as CallThere, Moment}
use Rattle.run_places.specs.Given.SchedulesViews.{call_of, finite_map}
use Rattle.run_places.specs.Given.PointsFactsCalls.{Unchanged}
use Rattle.run_places.specs.Given.CallersTogether.{CallOnKey, OnKey}
use Rattle.run_places.specs.Given.EffectsEffects.{effects_of, known_after}
use Rattle.run_places.specs.Given.EffectsKnown.{Known}
use Rattle.run_places.specs.Given.EffectsDeclared.acting.Acting.TheVariants as acts
use Rattle.run_places.specs.Moments.Whole.{RefinesWhole}
use Rattle.run_histories.specs.Histories.Due.{RefinesPendingAnswers}
use Rattle.run_histories.specs.Histories.Events.{HasOutcome}
use Rattle.run_places.specs.Changes.Kept.{HasJustBegun}
use Rattle.run_histories.specs.Histories.Questions.{AllHaveAskedJust, AsksOnStill}
use Rattle.run_places.specs.Given.ScenesHeld.{Held, IsAt}
use Rattle.run_places.specs.Given.ScenesScene.{Scene}
use Rattle.run_places.specs.Given.ScenesStepping.{StepLeads, scene_after}
use Rattle.run_places.specs.Given.SchedulesTransition.{Past, Transition}

-- the call is the same one, with the replies that it had
pub record IsSameCall {K V : Type 0} (c d : CallThere K V) : Type 0 where
  pub map : d.map ≡ c.map
  pub call : d.call ≡ c.call
  pub replies : d.replies ≡ c.replies
  pub begun : d.begun ≡ c.begun

-- After so many effects of an event, since the moment at which it has begun what it begins, the moment shows the scene, and the obligations of calls. The class
-- of the call's key has changed once at most since then, by what the call meant there; and no class has, nor has a pair come, as long as the call has changed
-- nothing.
pub record InMidst {K V : Type 0} (same : K → K → Bool) (name : ℕ → List ℕ) (log : Past K V) (beginning : Moment K V) (map i : ℕ) (one : OneKey K V) (c : CallThere K V)
    (done : List Effect) (m : Moment K V) (known : Known) (s : Scene K V) (u : CallOnKey K V K) : Type 0 where
  pub here : s.calls map i ≡ Some (OnKey u)
  pub whole : RefinesWhole same name m known s
  pub dues : RefinesPendingAnswers same name log m known s
  pub begins : HasJustBegun log beginning
  pub worked : m ≡ with_effects (Some (name i)) (Some map) done beginning
  pub there : CallThere K V
  pub there_is : call_of (name i) m ≡ Some there
  pub same_call : IsSameCall c there
  pub changes : ChangesOnce same one c beginning (flat_map shift_of done)
  pub untouched : u.change ≡ Unchanged
      → (flat_map shift_of done ≡ []) × ((k : K) → finite_map same map m k ≡ finite_map same map beginning k) × (length m.stored ≡ length beginning.stored) × (c.due ≡ None)

module _ (K V : Type 0) (same : K → K → Bool) (hash : ℕ → K → ℕ) where
  -- The promises: so it is at the beginning of an event, which may begin the call, too,
  abbrev pub MidstsBegin : Type 0
  MidstsBegin =
      (name : ℕ → List ℕ) (log : Past K V) (beginning : Moment K V) → HasJustBegun log beginning
      → (known : Known) (s : Scene K V) (e : Held K V) → IsAt same hash e s → RefinesWhole same name beginning known s → RefinesPendingAnswers same name log beginning known s
      → (map i : ℕ) (u : CallOnKey K V K) (here : s.calls map i ≡ Some (OnKey u)) (c : CallThere K V) → call_of (name i) beginning ≡ Some c → (one : OneKey K V) → c.call ≡ On one
      → InMidst same name log beginning map i one c [] beginning known s u

  -- after each step of the call, where it goes on,
  abbrev pub MidstsContinue : Type 0
  MidstsContinue =
      (name : ℕ → List ℕ) (log : Past K V) (beginning : Moment K V) (map i : ℕ) (one : OneKey K V) (c : CallThere K V) → c.call ≡ On one
      → (done : List Effect) (m : Moment K V) (known : Known) (s : Scene K V) (u : CallOnKey K V K) (midst : InMidst same name log beginning map i one c done m known s u)
      → (old new : Held K V) → IsAt same hash old s → (said : Progress (Node K V)) (leads : StepLeads same hash i said s old new)
      → (let to = leads map (OnKey u) midst.here in
      (next : CallOnKey K V K) → to.4.next ≡ Some (OnKey next)
      → InMidst same name log beginning map i one c (done ++ effects_of (acts.Call i map) known new.changed)
      (with_effects (Some (name i)) (Some map) (effects_of (acts.Call i map) known new.changed) m) (known_after (acts.Call i map) new.changed known)
      (scene_after same s old new map i to.0 (OnKey u) to.1 said to.4) next)

  -- and an event that comes to what the last of its steps came to is linearizable;
  abbrev pub MidstsEnd : Type 0
  MidstsEnd =
      (name : ℕ → List ℕ) (log : Past K V) (beginning : Moment K V) (map i : ℕ) (one : OneKey K V) (c : CallThere K V) → call_of (name i) beginning ≡ Some c → c.call ≡ On one
      → AllHaveAskedJust beginning
      → (done : List Effect) (m : Moment K V) (known : Known) (s : Scene K V) (u : CallOnKey K V K) (midst : InMidst same name log beginning map i one c done m known s u)
      → (old new : Held K V) → IsAt same hash old s → (said : Progress (Node K V)) (leads : StepLeads same hash i said s old new)
      → (t : Transition K V) → t.caller ≡ Some (name i) → t.found ≡ beginning → t.map ≡ Some map
      → t.effects ≡ done ++ effects_of (acts.Call i map) known new.changed → HasOutcome (known_after (acts.Call i map) new.changed known) one c.replies said t.outcome
      → Linearizes same log t

  -- by it a call that asks does not go on by itself.
  abbrev pub MidstsAskStill : Type 0
  MidstsAskStill =
      (name : ℕ → List ℕ) (log : Past K V) (beginning : Moment K V) (map i : ℕ) (one : OneKey K V) (c : CallThere K V) → call_of (name i) beginning ≡ Some c → c.call ≡ On one
      → (done : List Effect) (m : Moment K V) (known : Known) (s : Scene K V) (u : CallOnKey K V K) (midst : InMidst same name log beginning map i one c done m known s u)
      → (old new : Held K V) → IsAt same hash old s → (said : Progress (Node K V)) (leads : StepLeads same hash i said s old new)
      → (t : Transition K V) → t.caller ≡ Some (name i) → t.found ≡ beginning → t.map ≡ Some map
      → t.effects ≡ done ++ effects_of (acts.Call i map) known new.changed → HasOutcome (known_after (acts.Call i map) new.changed known) one c.replies said t.outcome
      → AsksOnStill t
