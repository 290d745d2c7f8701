-- A call that is under way after the last step of an event asks there just what the event asks, if it asks.
use Rattle.std.specs.Prelude.{◌≡◌, ℕ, Bool, List, Option, Some}
use Rattle.std.proofs.Common.{sym, subst, ◌∙◌, inl, inr}
use Rattle.run_places.specs.Given.TablesDeclared.node.Node.{Node}
use Rattle.run_places.specs.Given.RawDeclared.machines.progress.Answer.TheVariants.{Key}
use Rattle.run_places.specs.Given.RawDeclared.machines.progress.Progress.{Progress}
use Rattle.run_places.specs.Given.RawDeclared.machines.progress.Progress.TheVariants as progress
use Rattle.run_places.specs.Given.RunsDeclared.call.Call.TheVariants.{On}
use Rattle.run_places.specs.Given.RunsDeclared.call.OneKey.{OneKey}
use Rattle.run_places.specs.Given.RunsDeclared.effect.Effect.{Effect}
use Rattle.run_places.specs.Given.RunsDeclared.outcome.Outcome.{Outcome}
use Rattle.run_places.specs.Given.RunsDeclared.outcome.Outcome.TheVariants as outcome
use Rattle.run_places.specs.Given.SchedulesMoment.{UnderWay as CallThere, Moment}
use Rattle.run_places.specs.Given.CallersTogether.{CallOnKey, UnderWay, OnKey, ForRoom, Counting, OverAll}
use Rattle.run_places.specs.Given.EffectsEffects.{known_after}
use Rattle.run_places.specs.Given.EffectsKnown.{Known}
use Rattle.run_places.specs.Given.EffectsDeclared.acting.Acting.TheVariants as acts
use Rattle.run_places.specs.Hands.Calling.{AsksJust}
use Rattle.run_histories.specs.Histories.AsCalled.{AsksAsCalled}
use Rattle.run_histories.specs.Histories.Asking.{IsQuestionAsked}
use Rattle.run_histories.specs.Histories.Events.{HasOutcome}
use Rattle.run_histories.specs.Histories.InEvent.{HasOutcomeSo, EventsAskThere}
use Rattle.run_histories.specs.Histories.OtherMidsts.{AsksAsSaid, InOtherMidst}
use Rattle.run_histories.specs.Histories.Several.{InMidst}
use Rattle.run_histories.proofs.Histories.Asking.{asking_steps_stand_there}
use Rattle.run_histories.proofs.Histories.AnyCall.InEvent.{comes_of_key, comes_of_none}
use Rattle.run_histories.proofs.Histories.OtherCalls.{IsNoQuestion}
use Rattle.run_histories.proofs.Histories.NoKey.OtherEvents.{asks_next, asks_or_none}
use Rattle.run_places.specs.Given.ScenesHeld.{Held, IsAt}
use Rattle.run_places.specs.Given.ScenesScene.{Scene}
use Rattle.run_places.specs.Given.ScenesStepping.{StepLeads}
use Rattle.run_places.specs.Given.SchedulesTransition.{Past}
use Rattle.run_places.proofs.Given.General.{same_some as one_of}

module _ {K V : Type 0} (known : Known) where
  abbrev AsksSo : UnderWay K V K → Outcome V → Type 0
  AsksSo x o = AsksJust known x o × AsksAsCalled known x o

  -- by what is no question it asks nothing
  quiet : (x : UnderWay K V K) (o : Outcome V) → IsNoQuestion o → AsksSo x o
  quiet (OnKey u) (outcome.Asks q) none = absurd none
  quiet (OnKey u) _ none = (tt, tt)
  quiet (ForRoom r) (outcome.Asks q) none = absurd none
  quiet (ForRoom r) _ none = (tt, tt)
  quiet (Counting sum) (outcome.Asks q) none = absurd none
  quiet (Counting sum) _ none = (tt, tt)
  quiet (OverAll v) (outcome.Asks q) none = absurd none
  quiet (OverAll v) _ none = (tt, tt)

module _ (K V : Type 0) (same : K → K → Bool) (hash : ℕ → K → ℕ) (name : ℕ → List ℕ) (log : Past K V) (beginning : Moment K V) (map i : ℕ) (c : CallThere K V) (done : List Effect) (m : Moment K V) (known : Known)
    (s : Scene K V) (old new : Held K V) (at_old : IsAt same hash old s) where
  abbrev known2 : Known
  known2 = known_after (acts.Call i map) new.changed known

  key_asks : (x : CallOnKey K V K) (here : s.calls map i ≡ Some (OnKey x)) (one : OneKey K V) (said : Progress (Node K V)) (leads : StepLeads same hash i said s old new) (question : Option ℕ)
      → HasOutcome known2 one c.replies said (outcome.Asks question) → (next : UnderWay K V K) → (leads map (OnKey x) here).4.next ≡ Some next → AsksSo known2 next (outcome.Asks question)
  key_asks x here one (progress.Asks about) leads question told next goes =
      let it = asking_steps_stand_there K V same hash s old new map i x here about leads in
      subst (λ (z : UnderWay K V K). AsksSo known2 z (outcome.Asks question)) (one_of (OnKey it.0) next (sym it.1 ∙ goes)) (it.2 known2 question told, tt)
  key_asks x here one (progress.Done (Key answer)) leads question told next goes = absurd told
  key_asks x here one (progress.Done _) leads question told next goes = absurd told
  key_asks x here one _ leads question told next goes = absurd told

  other_asks : (u : UnderWay K V K) (midst : InOtherMidst same name log beginning map i c done m known s u) (said : Progress (Node K V)) (leads : StepLeads same hash i said s old new) (question : Option ℕ)
      → AsksAsSaid known2 said (outcome.Asks question) → (next : UnderWay K V K) → (leads map u midst.here).4.next ≡ Some next → AsksSo known2 next (outcome.Asks question)
  other_asks u midst (progress.Asks about) leads question told next goes =
      let it = asks_next same hash name log beginning map i c done m known s u midst old new at_old about leads in
      subst (λ (z : UnderWay K V K). AsksSo known2 z (outcome.Asks question)) (one_of (OverAll it.0) next (sym it.1 ∙ goes))
      (tt, (it.2, it.4, subst (λ (z : Option ℕ). IsQuestionAsked known2 z question) it.3 told))
  other_asks u midst _ leads question told next goes = absurd told

  module _ (said : Progress (Node K V)) (leads : StepLeads same hash i said s old new) (o : Outcome V) (comes : HasOutcomeSo known2 c.call c.replies said o) (next : UnderWay K V K) where
    key_there : (x : CallOnKey K V K) (one : OneKey K V) → c.call ≡ On one → (midst : InMidst same name log beginning map i one c done m known s x) → (leads map (OnKey x) midst.here).4.next ≡ Some next
        → AsksSo known2 next o
    key_there x one one_is midst goes = elim (asks_or_none o) as (λ _. AsksSo known2 next o) [
      | inl (question, is) ↦ subst (λ (z : Outcome V). AsksSo known2 next z) (sym is)
          (key_asks x midst.here one said leads question
          (subst (λ (z : Outcome V). HasOutcome known2 one c.replies said z) is (comes_of_key same known2 c.replies said o c.call one one_is comes)) next goes)
      | inr none ↦ quiet known2 next o none
    ]

    other_there : (u : UnderWay K V K) (midst : InOtherMidst same name log beginning map i c done m known s u) → (leads map u midst.here).4.next ≡ Some next → AsksSo known2 next o
    other_there u midst goes = elim (asks_or_none o) as (λ _. AsksSo known2 next o) [
      | inl (question, is) ↦ subst (λ (z : Outcome V). AsksSo known2 next z) (sym is)
          (other_asks u midst said leads question (subst (λ (z : Outcome V). AsksAsSaid known2 said z) is (comes_of_none same known2 c.replies said o c.call midst.other comes)) next goes)
      | inr none ↦ quiet known2 next o none
    ]

pub events_ask_there : (K V : Type 0) (same : K → K → Bool) (hash : ℕ → K → ℕ) → EventsAskThere K V same hash
events_ask_there K V same hash name log beginning map i c done m known s (OnKey x) midst old new at_old said leads o comes next goes =
    key_there K V same hash name log beginning map i c done m known s old new at_old said leads o comes next x midst.0 midst.1 midst.2 goes
events_ask_there K V same hash name log beginning map i c done m known s (ForRoom r) midst old new at_old said leads o comes next goes =
    other_there K V same hash name log beginning map i c done m known s old new at_old said leads o comes next (ForRoom r) midst goes
events_ask_there K V same hash name log beginning map i c done m known s (Counting sum) midst old new at_old said leads o comes next goes =
    other_there K V same hash name log beginning map i c done m known s old new at_old said leads o comes next (Counting sum) midst goes
events_ask_there K V same hash name log beginning map i c done m known s (OverAll v) midst old new at_old said leads o comes next goes =
    other_there K V same hash name log beginning map i c done m known s old new at_old said leads o comes next (OverAll v) midst goes
